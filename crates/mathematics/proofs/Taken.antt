-- One element taken out of a list, wherever it stands: what holds of all, or of any two, holds before exactly when it holds after and of what was taken.
use Prim.Native.Nat.{suc}
use mathlib.Core.Path.{◌≡◌, refl, ap, subst}
use mathlib.Core.List.{List, [], ◌∷◌}
use mathlib.Core.Logic.{◌⊎◌, inl, inr}
use lib.ListN.{length}
use Rattle.mathematics.specs.Lists.{All, Pairwise}
use Rattle.mathematics.specs.Range.{OneOf}
use Rattle.mathematics.proofs.Basics.{all_among, all_from}

-- the second list is the first without x
pub data Taken {A : Type 0} (x : A) : List A → List A → Type 0 where
  here : {ys : List A} → Taken x (x ∷ ys) ys
  there : {y : A} {xs ys : List A} → Taken x xs ys → Taken x (y ∷ xs) (y ∷ ys)

module _ {A : Type 0} where
  pub taken_all : (P : A → Type 0) {x : A} {xs ys : List A} → Taken x xs ys → All P xs → P x × All P ys
  taken_all P here h = h
  taken_all P (there t) h = let r = taken_all P t h.1 in (r.0, (h.0, r.1))

  pub put_all : (P : A → Type 0) {x : A} {xs ys : List A} → Taken x xs ys → P x → All P ys → All P xs
  put_all P here p h = (p, h)
  put_all P (there t) p h = (h.0, put_all P t p h.1)

  pub taken_length : {x : A} {xs ys : List A} → Taken x xs ys → length xs ≡ suc (length ys)
  taken_length here = refl
  taken_length (there t) = ap suc (taken_length t)

  pub take_one : (x : A) (xs : List A) → OneOf xs x → (ys : List A) × Taken x xs ys
  take_one x [] m = absurd m
  take_one x (y ∷ xs) (inl e) = (xs, subst (λ (z : A). Taken x (z ∷ xs) xs) e here)
  take_one x (y ∷ xs) (inr m) = let t = take_one x xs m in (y ∷ t.0, there t.1)

  -- one of the whole is the one taken or one of what is left
  pub taken_cases : {x : A} {xs ys : List A} → Taken x xs ys → (z : A) → OneOf xs z → (z ≡ x) ⊎ OneOf ys z
  taken_cases {x} {xs} {ys} t z m =
      let P : A → Type 0 = λ y. (y ≡ x) ⊎ OneOf ys y in
      all_among P xs z (put_all P t (inl refl) (all_from P ys (λ y n. inr n))) m

  -- two are taken in either order
  pub taken_swap : {x y : A} {xs ys zs : List A} → Taken x xs ys → Taken y ys zs → (us : List A) × Taken y xs us × Taken x us zs
  taken_swap here t = (_, there t, here)
  taken_swap (there s) here = (_, here, s)
  taken_swap (there s) (there t) = let r = taken_swap s t in (_, there r.1, there r.2)

  module _ (R : A → A → Type 0) (swap : (x y : A) → R x y → R y x) where
    pub taken_pairwise : {x : A} {xs ys : List A} → Taken x xs ys → Pairwise R xs → All (R x) ys × Pairwise R ys
    taken_pairwise here h = h
    taken_pairwise {x} (there {y} {xs} {ys} t) h =
        let r = taken_pairwise t h.1 in
        let s = taken_all (R y) t h.0 in
        ((swap y x s.0, r.0), (s.1, r.1))

    pub put_pairwise : {x : A} {xs ys : List A} → Taken x xs ys → All (R x) ys → Pairwise R ys → Pairwise R xs
    put_pairwise here p h = (p, h)
    put_pairwise {x} (there {y} {xs} {ys} t) p h = (put_all (R y) t (swap x y p.0) h.0, put_pairwise t p.1 h.1)

  pub all_both : (P Q S : A → Type 0) (xs : List A) → ((x : A) → P x → Q x → S x) → All P xs → All Q xs → All S xs
  all_both P Q S [] f h k = tt
  all_both P Q S (x ∷ xs) f h k = (f x h.0 k.0, all_both P Q S xs f h.1 k.1)

  pub pairwise_both : (P Q S : A → A → Type 0) (xs : List A) → ((x y : A) → P x y → Q x y → S x y) → Pairwise P xs → Pairwise Q xs →
      Pairwise S xs
  pairwise_both P Q S [] f h k = tt
  pairwise_both P Q S (x ∷ xs) f h k = (all_both (P x) (Q x) (S x) xs (f x) h.0 k.0, pairwise_both P Q S xs f h.1 k.1)
