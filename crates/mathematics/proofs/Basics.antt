-- Laws of the tests and of `All`, which every other file cites: a test that holds taken apart, membership, All of a part, of a joined list, of a mapped one, and place by place.
use Prim.Native.Nat.{ℕ, zero, suc, ◌<◌}
use native.Mathlib.Omega.{arith}
use mathlib.Core.Path.{◌≡◌, refl, sym, ap, subst}
use mathlib.Core.List.{List, [], ◌∷◌, ◌++◌, map}
use mathlib.Core.Bool.{Bool, true, false, ◌&&◌, ◌||◌}
use mathlib.Core.Logic.{◌⊎◌, inl, inr}
use lib.Dec.{T}
use lib.ListN.{length, get_or}
use Rattle.mathematics.specs.Lists.{All}
use Rattle.mathematics.specs.Range.{OneOf}

pub and_l : (a b : Bool) → T (a && b) → T a
and_l true b t = tt
and_l false b t = t

pub and_r : (a b : Bool) → T (a && b) → T b
and_r true b t = t
and_r false b t = absurd t

pub and_in : (a b : Bool) → T a → T b → T (a && b)
and_in true b t u = u
and_in false b t u = t

pub or_cases : (a b : Bool) → T (a || b) → T a ⊎ T b
or_cases true b t = inl tt
or_cases false b t = inr t

pub or_l : (a b : Bool) → T a → T (a || b)
or_l true b t = tt
or_l false b t = absurd t

pub or_r : (a b : Bool) → T b → T (a || b)
or_r true b t = tt
or_r false b t = t

module _ {A : Type 0} where
  pub all_among : (P : A → Type 0) (xs : List A) (x : A) → All P xs → OneOf xs x → P x
  all_among P [] x h m = absurd m
  all_among P (y ∷ ys) x h (inl e) = subst P (sym e) h.0
  all_among P (y ∷ ys) x h (inr m) = all_among P ys x h.1 m

  pub all_from : (P : A → Type 0) (xs : List A) → ((x : A) → OneOf xs x → P x) → All P xs
  all_from P [] f = tt
  all_from P (x ∷ xs) f = (f x (inl refl), all_from P xs (λ y m. f y (inr m)))

  pub all_weaken : (P Q : A → Type 0) (xs : List A) → ((x : A) → P x → Q x) → All P xs → All Q xs
  all_weaken P Q [] f h = tt
  all_weaken P Q (x ∷ xs) f h = (f x h.0, all_weaken P Q xs f h.1)

  pub all_append : (P : A → Type 0) (xs ys : List A) → All P xs → All P ys → All P (xs ++ ys)
  all_append P [] ys h k = k
  all_append P (x ∷ xs) ys h k = (h.0, all_append P xs ys h.1 k)

  pub all_left : (P : A → Type 0) (xs ys : List A) → All P (xs ++ ys) → All P xs
  all_left P [] ys h = tt
  all_left P (x ∷ xs) ys h = (h.0, all_left P xs ys h.1)

  pub all_right : (P : A → Type 0) (xs ys : List A) → All P (xs ++ ys) → All P ys
  all_right P [] ys h = h
  all_right P (x ∷ xs) ys h = all_right P xs ys h.1

  pub among_left : (x : A) (xs ys : List A) → OneOf xs x → OneOf (xs ++ ys) x
  among_left x [] ys m = absurd m
  among_left x (y ∷ xs) ys (inl e) = inl e
  among_left x (y ∷ xs) ys (inr m) = inr (among_left x xs ys m)

  pub among_right : (x : A) (xs ys : List A) → OneOf ys x → OneOf (xs ++ ys) x
  among_right x [] ys m = m
  among_right x (y ∷ xs) ys m = inr (among_right x xs ys m)

  pub among_cases : (x : A) (xs ys : List A) → OneOf (xs ++ ys) x → OneOf xs x ⊎ OneOf ys x
  among_cases x [] ys m = inr m
  among_cases x (y ∷ xs) ys (inl e) = inl (inl e)
  among_cases x (y ∷ xs) ys (inr m) = elim (among_cases x xs ys m) [ inl h ↦ inl (inr h) | inr h ↦ inr h ]

-- what holds at every place holds of all, and back
module _ {A : Type 0} (P : A → Type 0) (d : A) where
  pub all_at : (xs : List A) → ((k : ℕ) → k < length xs → P (get_or xs k d)) → All P xs
  all_at [] f = tt
  all_at (x ∷ xs) f = (f 0 (omega arith), all_at xs (λ k l. f (suc k) (omega arith)))

  pub at_all : (xs : List A) → All P xs → (k : ℕ) → k < length xs → P (get_or xs k d)
  at_all [] h k l = absurd (omega arith)
  at_all (x ∷ xs) h zero l = h.0
  at_all (x ∷ xs) h (suc k) l = at_all xs h.1 k (omega arith)

pub all_map : {A B : Type 0} (P : B → Type 0) (f : A → B) (xs : List A) → All (λ (x : A). P (f x)) xs → All P (map f xs)
all_map P f [] h = tt
all_map P f (x ∷ xs) h = (h.0, all_map P f xs h.1)

pub all_unmap : {A B : Type 0} (P : B → Type 0) (f : A → B) (xs : List A) → All P (map f xs) → All (λ (x : A). P (f x)) xs
all_unmap P f [] h = tt
all_unmap P f (x ∷ xs) h = (h.0, all_unmap P f xs h.1)

pub among_map : {A B : Type 0} (f : A → B) (x : A) (xs : List A) → OneOf xs x → OneOf (map f xs) (f x)
among_map f x [] m = absurd m
among_map f x (y ∷ ys) (inl e) = inl (ap f e)
among_map f x (y ∷ ys) (inr m) = inr (among_map f x ys m)

-- a test's value, from whether it holds
pub is_true : (t : Bool) → T t → t ≡ true
is_true true h = refl
is_true false h = absurd h

pub is_false : (t : Bool) → (T t → ⊥) → t ≡ false
is_false true h = absurd (h tt)
is_false false h = refl

pub test : (t : Bool) → T t ⊎ (T t → ⊥)
test true = inl tt
test false = inr (λ h. h)
