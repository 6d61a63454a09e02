-- Both kinds of price keep the laws: plain numbers (graph versions 1 to 4) and pairs compared by first part, then second (version 5).
-- So what is proved over any `Ordered` holds for both, argued once.
use Prim.Native.Nat.{ℕ, suc, ◌+◌, ◌-◌, ◌≤◌, ◌<◌}
use native.Mathlib.Omega.{arith}
use mathlib.Core.Path.{◌≡◌, sym, ap, subst, ◌∙◌}
use mathlib.Core.Bool.{Bool, true, false, cond}
use mathlib.Core.Logic.{◌⊎◌, inl, inr}
use lib.Dec.{T, ltb, leb→le, le→leb, ltb→lt, lt→ltb, not_T}
use lib.IntN.{ℤ, pos, negsuc, ◌+ℤ◌, sub_ℕ, +ℤ_assoc, +ℤ_comm, +ℤ_idr, +ℤ_invr}
use lib.Signed.{lt_z, le_z, lt_z_no, lt_z_yes, le_z_yes, clash_ℤ, ≤ℤ_refl}
use Rattle.mathematics.specs.Price.{Le, Ordered, whole, Pair, pairs}
use Rattle.mathematics.proofs.Basics.{test, is_true, is_false}
use Rattle.mathematics.proofs.Algebra.{le_cancel}

-- a - b of two numbers, by which of them is greater
sub_pos : (a b : ℕ) → b ≤ a → sub_ℕ a b ≡ pos (a - b)
sub_pos a b h = ap (λ t. cond t (negsuc (b - suc a)) (pos (a - b))) (is_false (ltb a b) (λ t. absurd (omega (arith, ltb→lt a b t))))

sub_neg : (a b : ℕ) → a < b → sub_ℕ a b ≡ negsuc (b - suc a)
sub_neg a b h = ap (λ t. cond t (negsuc (b - suc a)) (pos (a - b))) (is_true (ltb a b) (lt→ltb a b h))

-- a ≤ b is: b is a and some number more
more_to : (a b : ℤ) → T (le_z a b) → (n : ℕ) × (b ≡ a +ℤ pos n)
more_to (pos a) (pos b) h = (b - a, ap pos (let e : b ≡ a + (b - a) = omega (arith, leb→le a b h) in e))
more_to (pos a) (negsuc b) h = absurd h
more_to (negsuc a) (pos b) h =
    let e : b + suc a - suc a ≡ b = omega arith in
    (b + suc a, sym (sub_pos (b + suc a) (suc a) (omega arith) ∙ ap pos e))
more_to (negsuc a) (negsuc b) h =
    let k : b ≤ a = leb→le b a h in
    let e : suc a - suc (a - b) ≡ b = omega arith in
    (a - b, sym (sub_neg (a - b) (suc a) (omega arith) ∙ ap negsuc e))

le_more : (a : ℤ) (n : ℕ) → T (le_z a (a +ℤ pos n))
le_more (pos a) n = le→leb a (a + n) (omega arith)
le_more (negsuc a) n = at (test (ltb n (suc a)))
  where
    at : T (ltb n (suc a)) ⊎ (T (ltb n (suc a)) → ⊥) → T (le_z (negsuc a) (sub_ℕ n (suc a)))
    at (inl t) = subst (λ x. T (le_z (negsuc a) x)) (sym (sub_neg n (suc a) (ltb→lt n (suc a) t))) (le→leb (suc a - suc n) a (omega arith))
    at (inr f) = subst (λ x. T (le_z (negsuc a) (cond x (negsuc (suc a - suc n)) (pos (n - suc a))))) (sym (is_false (ltb n (suc a)) f)) tt

trans_ℤ : (a b c : ℤ) → T (le_z a b) → T (le_z b c) → T (le_z a c)
trans_ℤ a b c h k =
    let (m, e) = more_to a b h in
    let (n, d) = more_to b c k in
    subst (λ x. T (le_z a x)) (sym (d ∙ (ap (λ x. x +ℤ pos n) e ∙ +ℤ_assoc a (pos m) (pos n)))) (le_more a (m + n))

antisym_ℤ : (a b : ℤ) → T (le_z a b) → T (le_z b a) → a ≡ b
antisym_ℤ (pos a) (pos b) h k = ap pos (let e : a ≡ b = omega (arith, leb→le a b h, leb→le b a k) in e)
antisym_ℤ (pos a) (negsuc b) h k = absurd h
antisym_ℤ (negsuc a) (pos b) h k = absurd k
antisym_ℤ (negsuc a) (negsuc b) h k = ap negsuc (let e : a ≡ b = omega (arith, leb→le b a h, leb→le a b k) in e)

-- strictly below: a failed test the other way round
le_unless : (a b : ℤ) → (T (lt_z a b) → ⊥) → T (le_z b a)
le_unless a b f = (lt_z_no {a = a} {b = b} (not_T (lt_z a b) f)).le

below_not : (a b : ℤ) → T (lt_z a b) → T (le_z b a) → ⊥
below_not a b t h = clash_ℤ (lt_z_yes {a = a} {b = b} t) (le_z_yes {a = b} {b = a} h)

not_below : (a b : ℤ) → (T (le_z b a) → ⊥) → T (lt_z a b)
not_below a b f = elim (test (lt_z a b)) [ inl t ↦ t | inr n ↦ absurd (f (le_unless a b n)) ]

below_le : (a b : ℤ) → T (lt_z a b) → T (le_z a b)
below_le (pos a) (pos b) t = le→leb a b (omega (arith, ltb→lt a b t))
below_le (pos a) (negsuc b) t = t
below_le (negsuc a) (pos b) t = tt
below_le (negsuc a) (negsuc b) t = le→leb b a (omega (arith, ltb→lt b a t))

total_ℤ : (a b : ℤ) → T (le_z a b) ⊎ T (le_z b a)
total_ℤ a b = elim (test (lt_z a b)) [ inl t ↦ inl (below_le a b t) | inr f ↦ inr (le_unless a b f) ]

add_ℤ : (a b c : ℤ) → T (le_z a b) → T (le_z (a +ℤ c) (b +ℤ c))
add_ℤ a b c h =
    let (n, e) = more_to a b h in
    subst (λ x. T (le_z (a +ℤ c) x))
    (+ℤ_assoc a c (pos n) ∙ (ap (λ x. a +ℤ x) (+ℤ_comm c (pos n)) ∙ (sym (+ℤ_assoc a (pos n) c) ∙ ap (λ x. x +ℤ c) (sym e))))
    (le_more (a +ℤ c) n)

-- plain numbers
pub whole_ordered : Ordered whole
whole_ordered =
    record {
      add_assoc = +ℤ_assoc;
      add_comm = +ℤ_comm;
      add_nil = +ℤ_idr;
      add_neg = +ℤ_invr;
      le_refl = λ a. (≤ℤ_refl a).le;
      le_trans = trans_ℤ;
      le_antisym = antisym_ℤ;
      le_total = total_ℤ;
      le_add = add_ℤ;
    }

-- a pair is at most another: its first part is below, or not above and its second part at most
PairLe : Pair → Pair → Type 0
PairLe a b = T (lt_z a.first b.first) ⊎ (T (le_z a.first b.first) × T (le_z a.second b.second))

cond_out : (s t z : Bool) → T (cond s true (cond t false z)) → T s ⊎ ((T t → ⊥) × T z)
cond_out true t z h = inl tt
cond_out false true z h = absurd h
cond_out false false z h = inr (λ u. u, h)

cond_below : (s t z : Bool) → T s → T (cond s true (cond t false z))
cond_below true t z h = tt
cond_below false t z h = absurd h

cond_level : (s t z : Bool) → (T t → ⊥) → T z → T (cond s true (cond t false z))
cond_level true t z f h = tt
cond_level false true z f h = f tt
cond_level false false z f h = h

pair_out : (a b : Pair) → Le pairs a b → PairLe a b
unfolding PairLe
pair_out a b h = at (cond_out (lt_z a.first b.first) (lt_z b.first a.first) (le_z a.second b.second) h)
  where
    at : T (lt_z a.first b.first) ⊎ ((T (lt_z b.first a.first) → ⊥) × T (le_z a.second b.second)) → PairLe a b
    at (inl t) = inl t
    at (inr p) = inr (le_unless b.first a.first p.0, p.1)

pair_in : (a b : Pair) → PairLe a b → Le pairs a b
unfolding PairLe
pair_in a b (inl t) = cond_below (lt_z a.first b.first) (lt_z b.first a.first) (le_z a.second b.second) t
pair_in a b (inr p) =
    cond_level (lt_z a.first b.first) (lt_z b.first a.first) (le_z a.second b.second)
    (λ t. below_not b.first a.first t p.0) p.1

pair_trans : (a b c : Pair) → PairLe a b → PairLe b c → PairLe a c
unfolding PairLe
pair_trans a b c (inl s) k =
    inl (not_below a.first c.first (λ h. below_not a.first b.first s (trans_ℤ b.first c.first a.first (weak k) h)))
  where
    weak : PairLe b c → T (le_z b.first c.first)
    weak (inl t) = below_le b.first c.first t
    weak (inr p) = p.0
pair_trans a b c (inr p) (inl t) =
    inl (not_below a.first c.first (λ h. below_not b.first c.first t (trans_ℤ c.first a.first b.first h p.0)))
pair_trans a b c (inr p) (inr q) =
    inr (trans_ℤ a.first b.first c.first p.0 q.0, trans_ℤ a.second b.second c.second p.1 q.1)

pair_antisym : (a b : Pair) → PairLe a b → PairLe b a → a ≡ b
unfolding PairLe
pair_antisym a b (inl s) (inl t) = absurd (below_not a.first b.first s (below_le b.first a.first t))
pair_antisym a b (inl s) (inr q) = absurd (below_not a.first b.first s q.0)
pair_antisym a b (inr p) (inl t) = absurd (below_not b.first a.first t p.0)
pair_antisym a b (inr p) (inr q) =
    let e = antisym_ℤ a.first b.first p.0 q.0 in
    let d = antisym_ℤ a.second b.second p.1 q.1 in
    λ i. record { first = e i; second = d i }

pair_total : (a b : Pair) → Le pairs a b ⊎ Le pairs b a
unfolding PairLe
pair_total a b = at (test (le_z a.first b.first)) (test (le_z b.first a.first)) (total_ℤ a.second b.second)
  where
    at : T (le_z a.first b.first) ⊎ (T (le_z a.first b.first) → ⊥) → T (le_z b.first a.first) ⊎ (T (le_z b.first a.first) → ⊥) →
        T (le_z a.second b.second) ⊎ T (le_z b.second a.second) → Le pairs a b ⊎ Le pairs b a
    at (inr f) k s = inr (pair_in b a (inl (not_below b.first a.first f)))
    at (inl h) (inr f) s = inl (pair_in a b (inl (not_below a.first b.first f)))
    at (inl h) (inl k) (inl s) = inl (pair_in a b (inr (h, s)))
    at (inl h) (inl k) (inr s) = inr (pair_in b a (inr (k, s)))

pair_add : (a b c : Pair) → PairLe a b → PairLe (pairs.add a c) (pairs.add b c)
unfolding PairLe
pair_add a b c (inl t) =
    inl
    (not_below (a.first +ℤ c.first) (b.first +ℤ c.first)
    (λ h. below_not a.first b.first t (le_cancel whole whole_ordered b.first a.first c.first h)))
pair_add a b c (inr p) = inr (add_ℤ a.first b.first c.first p.0, add_ℤ a.second b.second c.second p.1)

-- pairs
pub pairs_ordered : Ordered pairs
pairs_ordered =
    record {
      add_assoc =
          λ a b c i. record {
            first = +ℤ_assoc a.first b.first c.first i;
            second = +ℤ_assoc a.second b.second c.second i;
          };
      add_comm = λ a b i. record { first = +ℤ_comm a.first b.first i; second = +ℤ_comm a.second b.second i };
      add_nil = λ a i. record { first = +ℤ_idr a.first i; second = +ℤ_idr a.second i };
      add_neg = λ a i. record { first = +ℤ_invr a.first i; second = +ℤ_invr a.second i };
      le_refl = λ a. pair_in a a (unfold PairLe in inr ((≤ℤ_refl a.first).le, (≤ℤ_refl a.second).le));
      le_trans = λ a b c h k. pair_in a c (pair_trans a b c (pair_out a b h) (pair_out b c k));
      le_antisym = λ a b h k. pair_antisym a b (pair_out a b h) (pair_out b a k);
      le_total = pair_total;
      le_add = λ a b c h. pair_in (pairs.add a c) (pairs.add b c) (pair_add a b c (pair_out a b h));
    }
