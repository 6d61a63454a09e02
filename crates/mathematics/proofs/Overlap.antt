-- What `overlap` finds: the longest list that properly ends one read and properly begins another; and that a read cannot reach beyond the longest overlap.
use Prim.Native.Nat.{ℕ, zero, suc, ◌+◌, ◌-◌, ◌≤◌, min, zero-le}
use native.Mathlib.Omega.{arith}
use native.Mathlib.Nat.{eq-or-lt_of_le}
use mathlib.Core.Path.{◌≡◌, refl, sym, ap, subst, subst₂, ◌∙◌}
use mathlib.Core.List.{List, [], ◌∷◌, ◌++◌, append-nil, append_assoc}
use mathlib.Core.Bool.{Bool, true, false, cond}
use mathlib.Core.Logic.{◌⊎◌, inl, inr}
use lib.Dec.{T}
use lib.ListN.{length, take, drop, length-append, length-drop, take-append-drop}
use Rattle.mathematics.specs.Lists.{begins}
use Rattle.mathematics.specs.Prepare.{overlap_up_to, overlap}
use Rattle.mathematics.proofs.Parts.{Within, begins_rest, begins_append, Cuts, levi}

pub drop_length : (m o : List ℕ) → drop (length m) (m ++ o) ≡ o
drop_length [] o = refl
drop_length (x ∷ m) o = drop_length m o

-- the last n of a begin b
abbrev EndBegins : ℕ → List ℕ → List ℕ → Bool
EndBegins n a b = begins (drop (length a - n) a) b

pick_most : (t : Bool) (n k below : ℕ) → (n ≡ suc k → T t) → (n ≤ k → n ≤ below) → n ≤ suc k → n ≤ cond t (suc k) below
pick_most true n k below f g l = l
pick_most false n k below f g l = elim (eq-or-lt_of_le l) [ inl e ↦ absurd (f e) | inr h ↦ g (omega arith) ]

up_to_most : (k n : ℕ) (a b : List ℕ) → 1 ≤ n → n ≤ k → T (EndBegins n a b) → n ≤ overlap_up_to k a b
up_to_most zero n a b p l t = absurd (omega arith)
up_to_most (suc k) n a b p l t =
    pick_most (EndBegins (suc k) a b) n k (overlap_up_to k a b)
    (λ e. subst (λ (j : ℕ). T (EndBegins j a b)) e t)
    (λ h. up_to_most k n a b p h t)
    l

-- n is 0, or it is at most k and the last n of a begin b
abbrev Found : ℕ → ℕ → List ℕ → List ℕ → Type 0
Found k n a b = (n ≡ 0) ⊎ ((n ≤ k) × T (EndBegins n a b))

found_more : (k n : ℕ) (a b : List ℕ) → Found k n a b → Found (suc k) n a b
found_more k n a b (inl e) = inl e
found_more k n a b (inr h) = inr (omega (arith, h.0), h.1)

pick_found : (t : Bool) (k n : ℕ) (a b : List ℕ) → (T t → T (EndBegins (suc k) a b)) → Found k n a b → Found (suc k) (cond t (suc k) n) a b
pick_found true k n a b f h = inr (omega arith, f tt)
pick_found false k n a b f h = found_more k n a b h

up_to_found : (k : ℕ) (a b : List ℕ) → Found k (overlap_up_to k a b) a b
up_to_found zero a b = inl refl
up_to_found (suc k) a b = pick_found (EndBegins (suc k) a b) k (overlap_up_to k a b) a b (λ t. t) (up_to_found k a b)

end_begins : (m o n : List ℕ) → T (EndBegins (length o) (m ++ o) (o ++ n))
end_begins m o n =
    let before : length (m ++ o) - length o ≡ length m = omega (arith, length-append m o) in
    rw (before, drop_length) (begins_append o n)

-- a list that properly ends one and properly begins the other is no longer than their overlap
pub overlap_most : (m o n : List ℕ) → 1 ≤ length m → 1 ≤ length n → length o ≤ overlap (m ++ o) (o ++ n)
unfolding overlap
overlap_most m [] n p q = zero-le
overlap_most m (v ∷ o) n p q =
    up_to_most (min (length (m ++ (v ∷ o))) (length (v ∷ o ++ n)) - 1) (length (v ∷ o)) (m ++ (v ∷ o)) (v ∷ o ++ n)
    (omega arith)
    (omega (arith, length-append m (v ∷ o), length-append o n))
    (end_begins m (v ∷ o) n)

-- r is x ++ o and s is o ++ y, all three not empty, o as long as the overlap
pub record Meet (r s : List ℕ) : Type 0 where
  pub x : List ℕ
  pub o : List ℕ
  pub y : List ℕ
  pub ends : r ≡ x ++ o
  pub begin : s ≡ o ++ y
  pub size : length o ≡ overlap r s
  pub some_x : 1 ≤ length x
  pub some_y : 1 ≤ length y

meet_at : (r s : List ℕ) (k : ℕ) → k ≤ min (length r) (length s) - 1 → 1 ≤ k → k ≡ overlap r s → T (EndBegins k r s) → Meet r s
meet_at r s k l p e t =
    let (y, f) = begins_rest (drop (length r - k) r) s t in
    let at : ℕ = length r - k in
    let lo : length (drop at r) ≡ k = omega (arith, length-drop at r) in
    let split : length (take at r) + length (drop at r) ≡ length r = sym (length-append (take at r) (drop at r)) ∙ ap length (take-append-drop at r) in
    record {
      x = take (length r - k) r;
      o = drop (length r - k) r;
      y = y;
      ends = sym (take-append-drop (length r - k) r);
      begin = f;
      size = lo ∙ e;
      some_x = omega arith;
      some_y = omega (arith, ap length f ∙ length-append (drop at r) y);
    }

-- "a proper suffix of read i equals a proper prefix of another read j, at least one vertex long"
pub overlap_meets : (r s : List ℕ) → 1 ≤ overlap r s → Meet r s
unfolding overlap
overlap_meets r s p =
    elim (up_to_found (min (length r) (length s) - 1) r s) [
      | inl e ↦ absurd (omega arith)
      | inr h ↦ meet_at r s (overlap r s) h.0 p refl h.1
    ]

-- neither stands in the other
abbrev pub Clear : List ℕ → List ℕ → Type 0
Clear r s = (Within r s → ⊥) × (Within s r → ⊥)

pub clear_swap : (r s : List ℕ) → Clear r s → Clear s r
clear_swap r s h = (h.1, h.0)

-- what ends r and begins s is no longer than their overlap where neither stands in the other
pub clear_most : (r s m o n : List ℕ) → r ≡ m ++ o → s ≡ o ++ n → Clear r s → length o ≤ overlap r s
clear_most r s [] o n e f h = absurd (h.0 ([], n, rw e f))
clear_most r s (x ∷ m) o [] e f h = absurd (h.1 (x ∷ m, [], e ∙ ap (λ (q : List ℕ). x ∷ m ++ q) (sym (append-nil o) ∙ (sym f ∙ sym (append-nil s)))))
clear_most r s (x ∷ m) o (y ∷ n) e f h =
    subst₂ (λ (a b : List ℕ). length o ≤ overlap a b) (sym e) (sym f) (overlap_most (x ∷ m) o (y ∷ n) (omega arith) (omega arith))

-- A list that reaches beyond o on both sides, where x stands before o: either x ++ o stands in it, or they overlap by more than o.
pub none_across_left : (x o k a u before after : List ℕ) → a ++ x ≡ u ++ before → 1 ≤ length before → k ≡ before ++ (o ++ after) → Clear (x ++ o) k → overlap (x ++ o) k ≤ length o → ⊥
none_across_left x o k a u before after e p f c h = go (levi a x u before e)
  where
    go : Cuts a x u before → ⊥
    go (inl (m, g, d)) =
        omega (arith, clear_most (x ++ o) k m (before ++ o) after (rw d (append_assoc m before o)) (f ∙ sym (append_assoc before o after)) c, length-append before o)
    go (inr (m, g, d)) = c.0 (m, after, f ∙ rw d (simp append_assoc))

-- the same where y stands after o
pub none_across_right : (y o k b w before after : List ℕ) → y ++ b ≡ after ++ w → 1 ≤ length after → k ≡ before ++ (o ++ after) → Clear (o ++ y) k → overlap k (o ++ y) ≤ length o → ⊥
none_across_right y o k b w before after e p f c h = go (levi y b after w e)
  where
    go : Cuts y b after w → ⊥
    go (inl (m, g, d)) = c.0 (before, m, f ∙ rw g (simp append_assoc))
    go (inr (m, g, d)) =
        omega (arith, clear_most k (o ++ y) before (o ++ after) m f (rw g (sym (append_assoc o after m))) (clear_swap (o ++ y) k c), length-append o after)
