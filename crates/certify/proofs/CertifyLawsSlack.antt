-- Differences of unsigned numbers and signed ones: marks are held with a number added, so that a slack is a difference of two numbers that are not below 0.
-- Each law is over plain numbers.
use Rattle.std.proofs.Common.{ℕ, zero, suc, ◌+◌, ◌-◌, ◌≤◌, add-zero, arith, ◌≡◌, refl, sym, ap, ap₂, ◌∙◌, Bool, true, false, cond, ltb, leb, pos, negsuc, neg_ℤ, ◌+ℤ◌, le-ltb, le-leb, ltb-true, ltb-false}
use Rattle.std.proofs.Math.Nat.{sub-zero}
use Rattle.std.proofs.Math.IntN.{sub_ℕ, +ℤ_assoc}
use Rattle.std.specs.Int.Signed.{le_z}
use Rattle.std.proofs.lemmas.Bool.{lt-leb}
use Rattle.mathematics.specs.Price.{whole, sub}
use Rattle.mathematics.proofs.Algebra.{sub_from, sub_add}
use Rattle.mathematics.proofs.PriceKinds.{whole_ordered}

-- a - b where b is not above a
pub low_difference : (a b : ℕ) → b ≤ a → sub_ℕ a b ≡ pos (a - b)
low_difference a b h = simp (le-ltb a b h)

difference : (a b : ℕ) → sub_ℕ a b ≡ sub whole (pos a) (pos b)
difference a zero = low_difference a 0 (omega arith) ∙ simp (sub-zero, add-zero)
difference a (suc b) = refl

-- (a - b) + (b - c) is a - c
chain : (a b c : ℕ) → sub_ℕ a b +ℤ sub_ℕ b c ≡ sub_ℕ a c
chain a b c =
    ap₂ ◌+ℤ◌ (difference a b) (difference b c) ∙
    (sym (+ℤ_assoc (sub whole (pos a) (pos b)) (pos b) (neg_ℤ (pos c))) ∙
    (ap (λ x. x +ℤ neg_ℤ (pos c)) (sub_add whole whole_ordered (pos a) (pos b)) ∙ sym (difference a c)))

-- two numbers held with l added: their difference
pub held_difference : (a b l : ℕ) → sub whole (sub_ℕ a l) (sub_ℕ b l) ≡ sub_ℕ a b
held_difference a b l = sub_from whole whole_ordered (sub_ℕ a l) (sub_ℕ b l) (sub_ℕ a b) (sym (chain a b l))

-- o less a number held with l added
pub plain_less_held : (o a l : ℕ) → sub whole (pos o) (sub_ℕ a l) ≡ sub_ℕ (o + l) a
plain_less_held o a l =
    let same : o + l - l ≡ o = omega arith in
    sub_from whole whole_ordered (pos o) (sub_ℕ a l) (sub_ℕ (o + l) a)
    (sym (chain (o + l) a l ∙ (low_difference (o + l) l (omega arith) ∙ ap pos same)))

-- c and a number held with l added, less another
pub held_sum_less_held : (c a b l : ℕ) → sub whole (pos c +ℤ sub_ℕ a l) (sub_ℕ b l) ≡ sub_ℕ (c + a) b
held_sum_less_held c a b l =
    sub_from whole whole_ordered (pos c +ℤ sub_ℕ a l) (sub_ℕ b l) (sub_ℕ (c + a) b)
    (ap (λ x. pos c +ℤ x) (difference a l) ∙
    (sym (+ℤ_assoc (pos c) (pos a) (neg_ℤ (pos l))) ∙ (sym (difference (c + a) l) ∙ sym (chain (c + a) b l))))

-- the test of a slack, on numbers that are not below 0
pub not_below : (a b : ℕ) → le_z (pos 0) (sub_ℕ a b) ≡ leb b a
not_below a b = at (ltb a b) refl
  where
    at : (t : Bool) → ltb a b ≡ t → le_z (pos 0) (sub_ℕ a b) ≡ leb b a
    at true e = ap (λ t. le_z (pos 0) (cond t (negsuc (b - suc a)) (pos (a - b)))) e ∙ sym (lt-leb b a (ltb-true a b e))
    at false e =
        ap (le_z (pos 0)) (low_difference a b (ltb-false a b e)) ∙ (le-leb 0 (a - b) (omega arith) ∙ sym (le-leb b a (ltb-false a b e)))
