-- Laws of prices: the group, the order, multiples and sums over a list, from the laws of `Ordered` alone. Every file that reckons with prices cites them.
use Prim.Native.Nat.{ℕ, zero, suc, ◌+◌, ◌*◌, ◌≤◌}
use native.Mathlib.Nat.{zero-add, suc-add, zero-mul, suc-mul}
use native.Mathlib.Omega.{arith}
use mathlib.Core.Path.{◌≡◌, refl, sym, ap, ap₂, subst, ◌∙◌}
use mathlib.Core.List.{List, [], ◌∷◌, ◌++◌}
use Rattle.mathematics.specs.Price.{Prices, Le, sub, times, Ordered}
use Rattle.mathematics.specs.Lists.{All}
pub use Rattle.mathematics.specs.Price.{sum_by}

module _ (P : Prices) (L : Ordered P) where
  -- sums: with `L.add_assoc` and `L.add_comm` in the list, `simp` sorts any sum
  pub left_comm : (a b c : P.El) → P.add a (P.add b c) ≡ P.add b (P.add a c)
  left_comm a b c = sym (L.add_assoc a b c) ∙ (ap (λ x. P.add x c) (L.add_comm a b) ∙ L.add_assoc b a c)

  pub nil_add : (a : P.El) → P.add P.nil a ≡ a
  nil_add a = L.add_comm P.nil a ∙ L.add_nil a

  pub swap_middle : (a b c d : P.El) → P.add (P.add a b) (P.add c d) ≡ P.add (P.add a c) (P.add b d)
  swap_middle a b c d = simp (L.add_assoc, left_comm)

  pub neg_add_self : (a : P.El) → P.add (P.neg a) a ≡ P.nil
  neg_add_self a = L.add_comm (P.neg a) a ∙ L.add_neg a

  -- (a + b) - b and (a - b) + b are a
  pub add_sub : (a b : P.El) → sub P (P.add a b) b ≡ a
  add_sub a b = L.add_assoc a b (P.neg b) ∙ (ap (P.add a) (L.add_neg b) ∙ L.add_nil a)

  pub sub_add : (a b : P.El) → P.add (sub P a b) b ≡ a
  sub_add a b = L.add_assoc a (P.neg b) b ∙ (ap (P.add a) (neg_add_self b) ∙ L.add_nil a)

  pub cancel : (a b c : P.El) → P.add a c ≡ P.add b c → a ≡ b
  cancel a b c e = sym (add_sub a c) ∙ (ap (λ x. sub P x c) e ∙ add_sub b c)

  -- opposites
  pub neg_unique : (a b : P.El) → P.add a b ≡ P.nil → a ≡ P.neg b
  neg_unique a b e = cancel a (P.neg b) b (e ∙ sym (neg_add_self b))

  pub neg_nil : P.neg P.nil ≡ P.nil
  neg_nil = sym (neg_unique P.nil P.nil (L.add_nil P.nil))

  pub neg_neg : (a : P.El) → P.neg (P.neg a) ≡ a
  neg_neg a = sym (neg_unique a (P.neg a) (L.add_neg a))

  pub neg_add : (a b : P.El) → P.neg (P.add a b) ≡ P.add (P.neg a) (P.neg b)
  neg_add a b =
      sym
      (neg_unique (P.add (P.neg a) (P.neg b)) (P.add a b)
      (swap_middle (P.neg a) (P.neg b) a b ∙ (ap₂ P.add (neg_add_self a) (neg_add_self b) ∙ L.add_nil P.nil)))

  pub sub_nil : (a : P.El) → sub P a P.nil ≡ a
  sub_nil a = ap (P.add a) neg_nil ∙ L.add_nil a

  pub eq_of_sub : (a b : P.El) → sub P b a ≡ P.nil → a ≡ b
  eq_of_sub a b e = sym (nil_add a) ∙ (ap (λ x. P.add x a) (sym e) ∙ sub_add b a)

  pub sub_of_eq : (a b : P.El) → a ≡ b → sub P b a ≡ P.nil
  sub_of_eq a b e = ap (λ x. sub P b x) e ∙ L.add_neg b

  -- a - b ≡ c from a ≡ c + b
  pub sub_from : (a b c : P.El) → a ≡ P.add c b → sub P a b ≡ c
  sub_from a b c e = ap (λ x. sub P x b) e ∙ add_sub c b

  -- order
  pub le_of_eq : (a b : P.El) → a ≡ b → Le P a b
  le_of_eq a b e = subst (Le P a) e (L.le_refl a)

  pub le_add_left : (a b c : P.El) → Le P a b → Le P (P.add c a) (P.add c b)
  le_add_left a b c h = subst (λ x. Le P x (P.add c b)) (L.add_comm a c) (subst (Le P (P.add a c)) (L.add_comm b c) (L.le_add a b c h))

  pub le_add_both : (a b c d : P.El) → Le P a b → Le P c d → Le P (P.add a c) (P.add b d)
  le_add_both a b c d h k = L.le_trans (P.add a c) (P.add b c) (P.add b d) (L.le_add a b c h) (le_add_left c d b k)

  pub le_cancel : (a b c : P.El) → Le P (P.add a c) (P.add b c) → Le P a b
  le_cancel a b c h =
      subst (λ x. Le P x b) (add_sub a c) (subst (Le P (sub P (P.add a c) c)) (add_sub b c) (L.le_add (P.add a c) (P.add b c) (P.neg c) h))

  pub nil_le_add : (a b : P.El) → Le P P.nil a → Le P P.nil b → Le P P.nil (P.add a b)
  nil_le_add a b h k = subst (λ x. Le P x (P.add a b)) (L.add_nil P.nil) (le_add_both P.nil a P.nil b h k)

  -- a ≤ a + b where b is not below nothing
  pub le_add_more : (a b : P.El) → Le P P.nil b → Le P a (P.add a b)
  le_add_more a b h = subst (λ x. Le P x (P.add a b)) (L.add_nil a) (le_add_left P.nil b a h)

  pub sub_holds : (a b : P.El) → Le P a b → Le P P.nil (sub P b a)
  sub_holds a b h = subst (λ x. Le P x (sub P b a)) (L.add_neg a) (L.le_add a b (P.neg a) h)

  pub le_of_sub : (a b : P.El) → Le P P.nil (sub P b a) → Le P a b
  le_of_sub a b h = subst (λ x. Le P x b) (nil_add a) (subst (Le P (P.add P.nil a)) (sub_add b a) (L.le_add P.nil (sub P b a) a h))

  pub le_neg : (a b : P.El) → Le P a b → Le P (P.neg b) (P.neg a)
  le_neg a b h =
      le_of_sub (P.neg b) (P.neg a)
      (subst (Le P P.nil) (L.add_comm b (P.neg a) ∙ ap (P.add (P.neg a)) (sym (neg_neg b))) (sub_holds a b h))

  -- multiples
  pub times_nil : (k : ℕ) → times P k P.nil ≡ P.nil
  times_nil zero = refl
  times_nil (suc k) = nil_add (times P k P.nil) ∙ times_nil k

  pub times_one : (a : P.El) → times P 1 a ≡ a
  times_one a = L.add_nil a

  pub times_sum : (j k : ℕ) (a : P.El) → times P (j + k) a ≡ P.add (times P j a) (times P k a)
  times_sum zero k a = ap (λ n. times P n a) (zero-add k) ∙ sym (nil_add (times P k a))
  times_sum (suc j) k a = ap (λ n. times P n a) (suc-add j k) ∙ (ap (P.add a) (times_sum j k a) ∙ sym (L.add_assoc a (times P j a) (times P k a)))

  pub times_add : (k : ℕ) (a b : P.El) → times P k (P.add a b) ≡ P.add (times P k a) (times P k b)
  times_add zero a b = sym (L.add_nil P.nil)
  times_add (suc k) a b = ap (P.add (P.add a b)) (times_add k a b) ∙ swap_middle a b (times P k a) (times P k b)

  pub times_times : (j k : ℕ) (a : P.El) → times P j (times P k a) ≡ times P (j * k) a
  times_times zero k a = ap (λ n. times P n a) (sym (zero-mul k))
  times_times (suc j) k a =
      let more : k + j * k ≡ suc j * k = omega (arith, suc-mul j k) in
      ap (P.add (times P k a)) (times_times j k a) ∙ (sym (times_sum k (j * k) a) ∙ ap (λ n. times P n a) more)

  pub times_holds : (k : ℕ) (a : P.El) → Le P P.nil a → Le P P.nil (times P k a)
  times_holds zero a h = L.le_refl P.nil
  times_holds (suc k) a h = nil_le_add a (times P k a) h (times_holds k a h)

  -- more copies of what is not below nothing are not less
  pub times_mono : (j k : ℕ) (a : P.El) → j ≤ k → Le P P.nil a → Le P (times P j a) (times P k a)
  times_mono zero k a h n = times_holds k a n
  times_mono (suc j) zero a h n = absurd (omega arith)
  times_mono (suc j) (suc k) a h n = le_add_left (times P j a) (times P k a) a (times_mono j k a (omega arith) n)

  -- sums over a list
  module _ {A : Type 0} where
    pub sum_append : (f : A → P.El) (xs ys : List A) → sum_by P f (xs ++ ys) ≡ P.add (sum_by P f xs) (sum_by P f ys)
    sum_append f [] ys = sym (nil_add (sum_by P f ys))
    sum_append f (x ∷ xs) ys = ap (P.add (f x)) (sum_append f xs ys) ∙ sym (L.add_assoc (f x) (sum_by P f xs) (sum_by P f ys))

    pub sum_add : (f g : A → P.El) (xs : List A) → sum_by P (λ x. P.add (f x) (g x)) xs ≡ P.add (sum_by P f xs) (sum_by P g xs)
    sum_add f g [] = sym (L.add_nil P.nil)
    sum_add f g (x ∷ xs) = ap (P.add (P.add (f x) (g x))) (sum_add f g xs) ∙ swap_middle (f x) (g x) (sum_by P f xs) (sum_by P g xs)

    pub sum_nil : (xs : List A) → sum_by P (λ (x : A). P.nil) xs ≡ P.nil
    sum_nil [] = refl
    sum_nil (x ∷ xs) = nil_add (sum_by P (λ (x : A). P.nil) xs) ∙ sum_nil xs

    pub sum_times : (k : ℕ) (f : A → P.El) (xs : List A) → sum_by P (λ x. times P k (f x)) xs ≡ times P k (sum_by P f xs)
    sum_times k f [] = sym (times_nil k)
    sum_times k f (x ∷ xs) = ap (P.add (times P k (f x))) (sum_times k f xs) ∙ sym (times_add k (f x) (sum_by P f xs))

    -- f and g equal, or f at most g, on the elements of the list
    pub sum_equal : (f g : A → P.El) (xs : List A) → All (λ x. f x ≡ g x) xs → sum_by P f xs ≡ sum_by P g xs
    sum_equal f g [] h = refl
    sum_equal f g (x ∷ xs) h = ap₂ P.add h.0 (sum_equal f g xs h.1)

    pub sum_le : (f g : A → P.El) (xs : List A) → All (λ x. Le P (f x) (g x)) xs → Le P (sum_by P f xs) (sum_by P g xs)
    sum_le f g [] h = L.le_refl P.nil
    sum_le f g (x ∷ xs) h = le_add_both (f x) (g x) (sum_by P f xs) (sum_by P g xs) h.0 (sum_le f g xs h.1)

    pub sum_holds : (f : A → P.El) (xs : List A) → All (λ x. Le P P.nil (f x)) xs → Le P P.nil (sum_by P f xs)
    sum_holds f [] h = L.le_refl P.nil
    sum_holds f (x ∷ xs) h = nil_le_add (f x) (sum_by P f xs) h.0 (sum_holds f xs h.1)
