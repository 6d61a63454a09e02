-- A list that stands in another, as an equation of ++: `holds` and `begins` read so, cuts of one list compared (Levi), and lists whose numbers rise.
use Prim.Native.Nat.{ℕ, ◌≤◌, ◌<◌}
use native.Mathlib.Omega.{arith}
use mathlib.Core.Path.{◌≡◌, refl, sym, ap, ap₂, subst, ◌∙◌}
use mathlib.Core.List.{List, [], ◌∷◌, ◌++◌, append-nil, append_assoc, head-eq_of_cons-eq, tail-eq_of_cons-eq}
use mathlib.Core.Bool.{Bool, false, ◌&&◌, ◌||◌}
use mathlib.Core.Logic.{◌⊎◌, inl, inr}
use borrow.Author.Tests.{ne_eqb}
use lib.Dec.{T, eqb, eqb→eq, eqb_refl}
use lib.ListN.{length}
use Rattle.mathematics.specs.Lists.{All, begins, holds, some_holds}
use Rattle.mathematics.specs.Range.{OneOf}
pub use Rattle.mathematics.specs.Lists.{Rising}
use Rattle.mathematics.proofs.Basics.{and_l, and_r, and_in, or_cases, or_l, or_r, all_right}
use Rattle.mathematics.proofs.Merge.{some_holds_lem}

-- r stands in p
abbrev pub Within : List ℕ → List ℕ → Type 0
Within r p = (a : List ℕ) × (b : List ℕ) × (p ≡ a ++ (r ++ b))

-- r stands in one of ps
abbrev pub Held : List (List ℕ) → List ℕ → Type 0
Held ps r = (p : List ℕ) × OneOf ps p × Within r p

pub begins_rest : (r p : List ℕ) → T (begins r p) → (b : List ℕ) × (p ≡ r ++ b)
begins_rest [] p h = (p, refl)
begins_rest (x ∷ r) [] h = absurd h
begins_rest (x ∷ r) (y ∷ p) h =
    let t = begins_rest r p (and_r (eqb x y) (begins r p) h) in
    (t.0, ap₂ ◌∷◌ (sym (eqb→eq x y (and_l (eqb x y) (begins r p) h))) t.1)

pub begins_append : (r b : List ℕ) → T (begins r (r ++ b))
begins_append [] b = tt
begins_append (x ∷ r) b = and_in (eqb x x) (begins r (r ++ b)) (eqb_refl x) (begins_append r b)

pub holds_within : (p r : List ℕ) → T (holds p r) → Within r p
holds_within [] r h = let t = begins_rest r [] h in ([], t.0, t.1)
holds_within (y ∷ p) r h =
    elim (or_cases (begins r (y ∷ p)) (holds p r) h) [
      | inl t ↦ let u = begins_rest r (y ∷ p) t in ([], u.0, u.1)
      | inr t ↦ let u = holds_within p r t in (y ∷ u.0, u.1, ap {B = List ℕ} (λ q. y ∷ q) u.2)
    ]

holds_at : (a r b : List ℕ) → T (holds (a ++ (r ++ b)) r)
holds_at [] [] [] = tt
holds_at [] [] (y ∷ b) = tt
holds_at [] (x ∷ r) b = or_l (begins (x ∷ r) (x ∷ r ++ b)) (holds (r ++ b) (x ∷ r)) (begins_append (x ∷ r) b)
holds_at (y ∷ a) r b = or_r (begins r (y ∷ a ++ (r ++ b))) (holds (a ++ (r ++ b)) r) (holds_at a r b)

pub within_holds : (p r : List ℕ) → Within r p → T (holds p r)
within_holds p r w = subst (λ (q : List ℕ). T (holds q r)) (sym w.2) (holds_at w.0 r w.1)

pub some_held : (ps : List (List ℕ)) (r : List ℕ) → T (some_holds ps r) → Held ps r
some_held [] r h = absurd h
some_held (p ∷ ps) r h =
    elim (or_cases (holds p r) (some_holds ps r) h) [
      | inl t ↦ (p, inl refl, holds_within p r t)
      | inr t ↦ let u = some_held ps r t in (u.0, inr u.1, u.2)
    ]

pub held_some : (ps : List (List ℕ)) (r p : List ℕ) → OneOf ps p → Within r p → T (some_holds ps r)
held_some ps r p m w = some_holds_lem p ps r m (within_holds p r w)

pub within_self : (r : List ℕ) → Within r r
within_self r = ([], [], sym (append-nil r))

pub within_trans : (r s t : List ℕ) → Within r s → Within s t → Within r t
within_trans r s t u w =
    (w.0 ++ u.0, u.1 ++ w.1, w.2 ∙ (ap (λ (q : List ℕ). w.0 ++ (q ++ w.1)) u.2 ∙ simp append_assoc))

pub held_trans : (ps : List (List ℕ)) (r s : List ℕ) → Within r s → Held ps s → Held ps r
held_trans ps r s w h = (h.0, h.1, within_trans r s h.0 w h.2)

pub regroup : (a x o b : List ℕ) → a ++ ((x ++ o) ++ b) ≡ (a ++ x) ++ (o ++ b)
regroup a x o b = simp append_assoc

-- one cut of a list is before the other
abbrev pub Cuts : List ℕ → List ℕ → List ℕ → List ℕ → Type 0
Cuts a b c d =
    ((m : List ℕ) × (c ≡ a ++ m) × (b ≡ m ++ d)) ⊎ ((m : List ℕ) × (a ≡ c ++ m) × (d ≡ m ++ b))

cuts_after : (x y : ℕ) (a b c d : List ℕ) → x ≡ y → Cuts a b c d → Cuts (x ∷ a) b (y ∷ c) d
cuts_after x y a b c d e (inl t) = inl (t.0, ap₂ ◌∷◌ (sym e) t.1, t.2)
cuts_after x y a b c d e (inr t) = inr (t.0, ap₂ ◌∷◌ e t.1, t.2)

pub levi : (a b c d : List ℕ) → a ++ b ≡ c ++ d → Cuts a b c d
levi [] b c d e = inl (c, refl, e)
levi (x ∷ a) b [] d e = inr (x ∷ a, refl, sym e)
levi (x ∷ a) b (y ∷ c) d e = cuts_after x y a b c d (head-eq_of_cons-eq e) (levi a b c d (tail-eq_of_cons-eq e))

-- a list that stands in l ++ (o ++ r) stands in l ++ o, or in o ++ r, or reaches beyond o on both sides
abbrev pub Across : List ℕ → List ℕ → List ℕ → List ℕ → Type 0
Across k l o r =
    (before : List ℕ) × (after : List ℕ) × (u : List ℕ) × (w : List ℕ) ×
    (k ≡ before ++ (o ++ after)) × (l ≡ u ++ before) × (r ≡ after ++ w) × (1 ≤ length before) × (1 ≤ length after)

abbrev pub Parts : List ℕ → List ℕ → List ℕ → List ℕ → Type 0
Parts k l o r = Within k (l ++ o) ⊎ (Within k (o ++ r) ⊎ Across k l o r)

parts_over : (k l o r u w m n : List ℕ) → 1 ≤ length m → l ≡ u ++ m → k ≡ (m ++ o) ++ n → r ≡ n ++ w → Parts k l o r
parts_over k l o r u w m [] c e g h = inl (u, [], rw (e, g) (simp (append_assoc, append-nil)))
parts_over k l o r u w m (y ∷ n) c e g h =
    inr (inr (m, y ∷ n, u, w, g ∙ append_assoc m o (y ∷ n), e, h, c, omega arith))

-- the part begins with m, which ends l
parts_from : (k l o r u w m : List ℕ) → 1 ≤ length m → l ≡ u ++ m → k ++ w ≡ m ++ (o ++ r) → Parts k l o r
parts_from k l o r u w m c e f =
    elim (levi k w (m ++ o) r (f ∙ sym (append_assoc m o r))) [
      | inl t ↦ inl (u, t.0, rw e (append_assoc u m o ∙ ap (λ (q : List ℕ). u ++ q) t.1))
      | inr t ↦ parts_over k l o r u w m t.0 c e t.1 t.2
    ]

pub parts : (k l o r u w : List ℕ) → l ++ (o ++ r) ≡ u ++ (k ++ w) → Parts k l o r
parts k l o r u w e = go (levi l (o ++ r) u (k ++ w) e)
  where
    go : Cuts l (o ++ r) u (k ++ w) → Parts k l o r
    go (inl (m, f, g)) = inr (inl (m, w, g))
    go (inr ([], f, g)) = inr (inl ([], w, sym g))
    go (inr (x ∷ m, f, g)) = parts_from k l o r u w (x ∷ m) (omega arith) f g

rising_right : (l r : List ℕ) → Rising (l ++ r) → Rising r
rising_right [] r h = h
rising_right (x ∷ l) r h = rising_right l r h.1

one_place_cut : (v : ℕ) (l r l' r' m : List ℕ) → Rising (l ++ (v ∷ r)) → l' ≡ l ++ m → v ∷ r ≡ m ++ (v ∷ r') → (l ≡ l') × (r ≡ r')
one_place_cut v l r l' r' [] h f g = (sym (f ∙ append-nil l), tail-eq_of_cons-eq g)
one_place_cut v l r l' r' (x ∷ m) h f g =
    let above = (rising_right l (v ∷ r) h).0 in
    let again = (all_right (λ w. v < w) m (v ∷ r') (subst (All (λ w. v < w)) (tail-eq_of_cons-eq g) above)).0 in
    absurd (omega (arith, again))

-- a number stands at one place of a list that rises
pub one_place : (v : ℕ) (l r l' r' : List ℕ) → Rising (l ++ (v ∷ r)) → l ++ (v ∷ r) ≡ l' ++ (v ∷ r') → (l ≡ l') × (r ≡ r')
one_place v l r l' r' h e = go (levi l (v ∷ r) l' (v ∷ r') e)
  where
    go : Cuts l (v ∷ r) l' (v ∷ r') → (l ≡ l') × (r ≡ r')
    go (inl (m, f, g)) = one_place_cut v l r l' r' m h f g
    go (inr (m, f, g)) =
        let (a, b) = one_place_cut v l' r' l r m (subst Rising e h) f g in
        (sym a, sym b)

-- a list whose first number is below all of b stands nowhere in b
pub holds_above : (v : ℕ) (a b : List ℕ) → All (λ (w : ℕ). v < w) b → holds b (v ∷ a) ≡ false
holds_above v a [] h = refl
holds_above v a (y ∷ b) h =
    ap₂ ◌||◌ (ap (λ (t : Bool). t && begins a b) (ne_eqb v y (λ e. omega (arith, e, h.0)))) (holds_above v a b h.1)
