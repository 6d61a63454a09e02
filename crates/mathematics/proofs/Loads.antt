-- Things with amounts, and what a list of them is worth: the sum of amount times the value of the thing. A flow, the loads on the edges of a
-- network, and a list of weighted paths are all such lists; Sweep.antt turns one into another of the same worth.
use Prim.Native.Nat.{ℕ, suc, ◌+◌, ◌*◌}
use mathlib.Core.Path.{◌≡◌, refl, ap, ap₂, subst, ◌∙◌}
use mathlib.Core.List.{List, [], ◌∷◌, ◌++◌}
use mathlib.Core.Bool.{Bool, true, false, cond}
use mathlib.Core.Logic.{◌≢◌}
use native.Mathlib.Nat.{zero-mul}
use native.Mathlib.Omega.{arith}
use lib.Dec.{T, eqb, eqb_refl, ltb, nltb→le}
use lib.ListN.{length}
use Rattle.mathematics.specs.Lists.{All}
pub use Rattle.mathematics.specs.Lists.{sum_over}

-- numbers that a test tells apart differ
pub unequal : (m n : ℕ) → (T (eqb m n) → ⊥) → m ≢ n
unequal m n h e = h (subst (λ (k : ℕ). T (eqb m k)) e (eqb_refl m))

-- an amount of a thing
pub record Load (A : Type 0) : Type 0 where
  pub amount : ℕ
  pub what : A

pub sum_over_append : {A : Type 0} (f : A → ℕ) (xs ys : List A) → sum_over f (xs ++ ys) ≡ sum_over f xs + sum_over f ys
sum_over_append f [] ys = omega arith
sum_over_append f (x ∷ xs) ys = omega (arith, sum_over_append f xs ys)

-- the sum of amount times value
abbrev pub worth : {A : Type 0} → (A → ℕ) → List (Load A) → ℕ
worth g [] = 0
worth g (x ∷ xs) = x.amount * g x.what + worth g xs

abbrev pub one : {A : Type 0} → A → ℕ
one x = 1

abbrev pub none : {A : Type 0} → A → ℕ
none x = 0

-- those that pass a test, and those that do not
abbrev pub passing : {A : Type 0} → (A → Bool) → List A → List A
passing t [] = []
passing t (x ∷ xs) = cond (t x) (x ∷ passing t xs) (passing t xs)

abbrev pub failing : {A : Type 0} → (A → Bool) → List A → List A
failing t [] = []
failing t (x ∷ xs) = cond (t x) (failing t xs) (x ∷ failing t xs)

module _ {A : Type 0} where
  pub worth_append : (g : A → ℕ) (xs ys : List (Load A)) → worth g (xs ++ ys) ≡ worth g xs + worth g ys
  worth_append g [] ys = omega arith
  worth_append g (x ∷ xs) ys = omega (arith, worth_append g xs ys)

  -- values that agree on the list give the same worth
  pub worth_same : (P : Load A → Type 0) (g h : A → ℕ) (xs : List (Load A)) → All P xs → ((x : Load A) → P x → g x.what ≡ h x.what) →
      worth g xs ≡ worth h xs
  worth_same P g h [] p e = refl
  worth_same P g h (x ∷ xs) p e = ap₂ (λ (a b : ℕ). x.amount * a + b) (e x p.0) (worth_same P g h xs p.1 e)

  pub worth_none : (xs : List (Load A)) → worth none xs ≡ 0
  worth_none [] = refl
  worth_none (x ∷ xs) = omega (arith, worth_none xs)

  -- values that are 0 on the list give the worth 0
  pub worth_nothing : (P : Load A → Type 0) (g : A → ℕ) (xs : List (Load A)) → All P xs → ((x : Load A) → P x → g x.what ≡ 0) → worth g xs ≡ 0
  worth_nothing P g xs p e = worth_same P g none xs p e ∙ worth_none xs

  -- where there is no amount there is no worth
  pub worth_empty : (g : A → ℕ) (xs : List (Load A)) → worth one xs ≡ 0 → worth g xs ≡ 0
  worth_empty g [] e = refl
  worth_empty g (x ∷ xs) e =
      let a : x.amount ≡ 0 = omega arith in
      rw (a, zero-mul) (omega (arith, worth_empty g xs (omega arith)))

  pub worth_parts : (t : Load A → Bool) (g : A → ℕ) (xs : List (Load A)) → worth g xs ≡ worth g (passing t xs) + worth g (failing t xs)
  worth_parts t g [] = refl
  worth_parts t g (x ∷ xs) = go (t x) (worth_parts t g xs)
    where
      go : (b : Bool) → worth g xs ≡ worth g (passing t xs) + worth g (failing t xs) →
          worth g (x ∷ xs) ≡ worth g (cond b (x ∷ passing t xs) (passing t xs)) + worth g (cond b (failing t xs) (x ∷ failing t xs))
      go true e = omega arith
      go false e = omega arith

module _ {A : Type 0} (t : A → Bool) where
  pub length_parts : (xs : List A) → length xs ≡ length (passing t xs) + length (failing t xs)
  length_parts [] = refl
  length_parts (x ∷ xs) = go (t x) (length_parts xs)
    where
      go : (b : Bool) → length xs ≡ length (passing t xs) + length (failing t xs) →
          suc (length xs) ≡ length (cond b (x ∷ passing t xs) (passing t xs)) + length (cond b (failing t xs) (x ∷ failing t xs))
      go true e = omega arith
      go false e = omega arith

  pub all_passing : (P : A → Type 0) (xs : List A) → All P xs → All (λ x. P x × T (t x)) (passing t xs)
  all_passing P [] h = tt
  all_passing P (x ∷ xs) h = go (t x) refl (all_passing P xs h.1)
    where
      go : (b : Bool) → t x ≡ b → All (λ x. P x × T (t x)) (passing t xs) → All (λ x. P x × T (t x)) (cond b (x ∷ passing t xs) (passing t xs))
      go true e k = ((h.0, rw e tt), k)
      go false e k = k

  pub all_pass : (xs : List A) → All (λ x. T (t x)) (passing t xs)
  all_pass [] = tt
  all_pass (x ∷ xs) = go (t x) refl (all_pass xs)
    where
      go : (b : Bool) → t x ≡ b → All (λ x. T (t x)) (passing t xs) → All (λ x. T (t x)) (cond b (x ∷ passing t xs) (passing t xs))
      go true e k = (rw e tt, k)
      go false e k = k

  pub all_failing : (P : A → Type 0) (xs : List A) → All P xs → All (λ x. P x × (T (t x) → ⊥)) (failing t xs)
  all_failing P [] h = tt
  all_failing P (x ∷ xs) h = go (t x) refl (all_failing P xs h.1)
    where
      go : (b : Bool) → t x ≡ b → All (λ x. P x × (T (t x) → ⊥)) (failing t xs) → All (λ x. P x × (T (t x) → ⊥)) (cond b (failing t xs) (x ∷ failing t xs))
      go true e k = k
      go false e k = ((h.0, λ p. rw e at p), k)

-- the same amounts of other things
abbrev pub relabel : {A B : Type 0} → (A → B) → List (Load A) → List (Load B)
relabel f [] = []
relabel f (x ∷ xs) = record { amount = x.amount; what = f x.what } ∷ relabel f xs

module _ {A B : Type 0} (f : A → B) where
  pub worth_relabel : (g : B → ℕ) (xs : List (Load A)) → worth g (relabel f xs) ≡ worth (λ x. g (f x)) xs
  worth_relabel g [] = refl
  worth_relabel g (x ∷ xs) = ap (λ (n : ℕ). x.amount * g (f x.what) + n) (worth_relabel g xs)

  pub length_relabel : (xs : List (Load A)) → length (relabel f xs) ≡ length xs
  length_relabel [] = refl
  length_relabel (x ∷ xs) = ap suc (length_relabel xs)

  pub all_relabel : (P : Load A → Type 0) (Q : Load B → Type 0) (xs : List (Load A)) → All P xs →
      ((x : Load A) → P x → Q (record { amount = x.amount; what = f x.what })) → All Q (relabel f xs)
  all_relabel P Q [] h e = tt
  all_relabel P Q (x ∷ xs) h e = (e x h.0, all_relabel P Q xs h.1 e)

-- those with an amount above 0
abbrev pub is_present : {A : Type 0} → Load A → Bool
is_present x = ltb 0 x.amount

module _ {A : Type 0} where
  pub worth_present : (g : A → ℕ) (xs : List (Load A)) → worth g (passing is_present xs) ≡ worth g xs
  worth_present g [] = refl
  worth_present g (x ∷ xs) = go (ltb 0 x.amount) refl (worth_present g xs)
    where
      go : (b : Bool) → ltb 0 x.amount ≡ b → worth g (passing is_present xs) ≡ worth g xs →
          worth g (cond b (x ∷ passing is_present xs) (passing is_present xs)) ≡ worth g (x ∷ xs)
      go true e h = omega arith
      go false e h =
          let z : x.amount ≡ 0 = omega (arith, nltb→le 0 x.amount (rw e tt)) in
          rw (z, zero-mul) (omega arith)
