-- Laws on rising lists of numbers and on the reads of the table, a law for each step of the code that compares two reads.
use Rattle.std.proofs.Common.{ℕ, zero, suc, pred, ◌+◌, ◌-◌, ◌≤◌, ◌<◌, ◌≡◌, refl, sym, ap, ap₂, subst, ◌∙◌, List, [], ◌∷◌, ◌++◌, Bool, true, false, ◌&&◌, ◌||◌, T, eqb, inl, inr, length, get_or, take, drop, slice_range, arith, add-one, eq-or-lt_of_le, ne_eqb, length-append, length-drop, add-zero, get_or-drop, get_or-take, get_or-append-add}
use Rattle.std.proofs.Math.Decide.{dec_lt}
use Rattle.std.proofs.Math.ListN.{get_or-append}
use Rattle.std.proofs.lemmas.List.{take_rest}
use Rattle.std.specs.List.{starts_with}
use Rattle.mathematics.specs.Lists.{begins, holds}
use Rattle.mathematics.proofs.Basics.{all_weaken, all_at, at_all, is_false}
use Rattle.mathematics.proofs.Parts.{Rising, holds_within, holds_above}
use Rattle.reads.specs.ReadTable.{row_at, Climbs, ReadHolds, RowHolds, Place}

and_false : (t : Bool) → t && false ≡ false
and_false true = refl
and_false false = refl

or_false : (t : Bool) → t || false ≡ t
or_false true = refl
or_false false = refl

-- a number of a read stands in its row
pub row_get : (rows : List (List ℕ)) (lens : List ℕ) (i k : ℕ) → k < get_or lens i 0 → get_or (row_at rows lens i) k 0 ≡ get_or (get_or rows i []) k 0
unfolding row_at
row_get rows lens i k l = get_or-take (get_or lens i 0) (get_or rows i []) k 0 l

-- the numbers of a list that climbs rise from any place to any later one
pub climbs_at : (r : List ℕ) → Climbs r → (i j : ℕ) → i < j → j < length r → get_or r i 0 < get_or r j 0
climbs_at r c i zero l m = absurd (omega arith)
climbs_at r c i (suc j) l m =
    let step : get_or r j 0 < get_or r (suc j) 0 = rw (add-one j) at (c j (omega arith)) in
    elim (eq-or-lt_of_le l) [
      | inl e ↦ rw (ap pred e) step
      | inr h ↦ omega (arith, climbs_at r c i j (omega arith) (omega arith), step)
    ]

-- the same with equal places allowed
pub climbs_to : (r : List ℕ) → Climbs r → (i j : ℕ) → i ≤ j → j < length r → get_or r i 0 ≤ get_or r j 0
climbs_to r c i j l m =
    elim (eq-or-lt_of_le l) [ inl e ↦ rw e (omega arith) | inr h ↦ omega (arith, climbs_at r c i j h m) ]

-- no number is above the last
pub climbs_last : (r : List ℕ) → Climbs r → (k : ℕ) → k < length r → get_or r k 0 ≤ get_or r (length r - 1) 0
climbs_last r c k l = climbs_to r c k (length r - 1) (omega arith) (omega arith)

rising_tail : (x : ℕ) (r : List ℕ) → Climbs (x ∷ r) → Climbs r
rising_tail x r c k l = rw (add-one k) (rw (add-one (suc k)) at (c (suc k) (omega arith)))

-- each number below the next: each below all later ones
pub climbs_rising : (r : List ℕ) → Climbs r → Rising r
climbs_rising [] c = tt
climbs_rising (x ∷ r) c =
    (all_at (λ (w : ℕ). x < w) 0 r (λ k l. climbs_at (x ∷ r) c 0 (suc k) (omega arith) (omega arith)), climbs_rising r (rising_tail x r c))

-- each number below all later ones: each below the next
pub rising_climbs : (r : List ℕ) → Rising r → Climbs r
rising_climbs [] h k l = absurd (omega arith)
rising_climbs (x ∷ r) h zero l = at_all (λ (w : ℕ). x < w) 0 r h.0 0 (omega arith)
rising_climbs (x ∷ r) h (suc k) l = rw (add-one (suc k)) (rw (add-one k) at (rising_climbs r h.1 k (omega arith)))

begins_short : (a b : List ℕ) → length b < length a → begins a b ≡ false
begins_short [] b l = absurd (omega arith)
begins_short (x ∷ a) [] l = refl
begins_short (x ∷ a) (y ∷ b) l = ap (λ (t : Bool). eqb x y && t) (begins_short a b (omega arith)) ∙ and_false (eqb x y)

pub begins_else : (a b : List ℕ) → 1 ≤ length a → 1 ≤ length b → (get_or a 0 0 ≡ get_or b 0 0 → ⊥) → begins a b ≡ false
begins_else [] b l m n = absurd (omega arith)
begins_else (x ∷ a) [] l m n = absurd (omega arith)
begins_else (x ∷ a) (y ∷ b) l m n = ap (λ (t : Bool). t && begins a b) (ne_eqb x y n)

holds_short : (b a : List ℕ) → length b < length a → holds b a ≡ false
holds_short [] a l = begins_short a [] l
holds_short (y ∷ b) a l = ap₂ ◌||◌ (begins_short a (y ∷ b) l) (holds_short b a (omega arith))

place_tail : (y v p : ℕ) (b : List ℕ) → Place (y ∷ b) v (suc p) → Place b v p
place_tail y v p b g =
    record { within = omega (arith, g.within); before = λ k l. g.before (suc k) (omega arith); at = λ l. g.at (omega arith) }

-- "a consecutive part": in a list that rises the only place for it is where its first number stands
holds_place : (v : ℕ) (a b : List ℕ) (p : ℕ) → Rising b → Place b v p → holds b (v ∷ a) ≡ begins (v ∷ a) (drop p b)
holds_place v a [] zero h g = refl
holds_place v a [] (suc p) h g = absurd (omega (arith, g.within))
holds_place v a (y ∷ b) zero h g =
    ap (λ (t : Bool). begins (v ∷ a) (y ∷ b) || t)
    (holds_above v a b (all_weaken (λ (w : ℕ). y < w) (λ (w : ℕ). v < w) b (λ w l. omega (arith, l, g.at (omega arith))) h.0))
    ∙ or_false (begins (v ∷ a) (y ∷ b))
holds_place v a (y ∷ b) (suc p) h g =
    ap (λ (t : Bool). (t && begins a b) || holds b (v ∷ a)) (ne_eqb v y (λ e. omega (arith, e, g.before 0 (omega arith))))
    ∙ holds_place v a b p h.1 (place_tail y v p b g)

holds_at_place : (a b : List ℕ) (p : ℕ) → 1 ≤ length a → Rising b → Place b (get_or a 0 0) p → holds b a ≡ begins a (drop p b)
holds_at_place [] b p l h g = absurd (omega arith)
holds_at_place (v ∷ a) b p l h g = holds_place v a b p h g

-- a part of b ends where b is at its last number or before
holds_last : (a b : List ℕ) → 1 ≤ length a → Climbs b → T (holds b a) → get_or a (length a - 1) 0 ≤ get_or b (length b - 1) 0
holds_last a b l c t =
    let (u, w, e) = holds_within b a t in
    let k : ℕ = length a - 1 in
    let long : length b ≡ length u + (length a + length w) = ap length e ∙ (length-append u (a ++ w) ∙ ap (λ (n : ℕ). length u + n) (length-append a w)) in
    let same : get_or b (length u + k) 0 ≡ get_or a k 0 =
    ap (λ (q : List ℕ). get_or q (length u + k) 0) e ∙ (get_or-append-add u (a ++ w) k 0 ∙ get_or-append a w 0 k (omega arith))
    in
    omega (arith, climbs_last b c (length u + k) (omega (arith, long)), same)

-- a read's last number stands in its row
pub last_get : (rows : List (List ℕ)) (lens : List ℕ) (i : ℕ) → RowHolds rows lens i →
    get_or (row_at rows lens i) (length (row_at rows lens i) - 1) 0 ≡ get_or (get_or rows i []) (get_or lens i 0 - 1) 0
last_get rows lens i g = rw g.long (row_get rows lens i (get_or lens i 0 - 1) (omega (arith, g.long, g.read.some)))

-- the used part of a row that holds a read, as the code takes it
pub row_read : (rows : List (List ℕ)) (lens : List ℕ) (i : ℕ) → RowHolds rows lens i → (r : List ℕ) → r ≡ take (get_or lens i 0) (get_or rows i []) →
    (r ≡ row_at rows lens i) × ReadHolds r
unfolding row_at
row_read rows lens i g r e = (e, subst ReadHolds (sym e) g.read)

-- what a list begins with, as the library tests it and as the mathematics does
pub starts_begins : (p r : List ℕ) → starts_with eqb p r ≡ begins r p
starts_begins p [] = refl
starts_begins [] (x ∷ r) = refl
starts_begins (y ∷ p) (x ∷ r) = ap (λ (t : Bool). eqb x y && t) (starts_begins p r)

module _ (a b : List ℕ) (ga : ReadHolds a) (gb : ReadHolds b) where
  -- a read is no part of a shorter one
  pub part_short : length b < length a → false ≡ holds b a
  part_short l = sym (holds_short b a l)

  -- a part does not end above the last number
  pub part_last : get_or b (length b - 1) 0 < get_or a (length a - 1) 0 → false ≡ holds b a
  part_last l = sym (is_false (holds b a) (λ t. omega (arith, holds_last a b ga.some gb.climbs t)))

  -- a part stands where its first number stands
  pub part_run : (p : ℕ) → Place b (get_or a 0 0) p → starts_with eqb (slice_range b p (length b)) a ≡ holds b a
  part_run p g =
      starts_begins (slice_range b p (length b)) a
      ∙ (ap (begins a) (take_rest b p) ∙ sym (holds_at_place a b p ga.some (climbs_rising b gb.climbs) g))

  -- that place is inside, where the part does not end above the last number
  pub part_inside : (p : ℕ) → Place b (get_or a 0 0) p → get_or a (length a - 1) 0 ≤ get_or b (length b - 1) 0 → p < length b
  part_inside p g l =
      elim (dec_lt p (length b)) [
        | yes m ↦ m
        | no m ↦ absurd (omega (arith, g.before (length b - 1) (omega (arith, gb.some)), climbs_last a ga.climbs 0 (omega (arith, ga.some)), gb.some))
      ]

  -- where another number stands at that place there is no part
  pub part_else : (p : ℕ) → Place b (get_or a 0 0) p → p < length b → (get_or b p 0 ≡ get_or a 0 0 → ⊥) → false ≡ holds b a
  part_else p g l n =
      sym (begins_else a (drop p b) (omega (arith, ga.some)) (omega (arith, length-drop p b)) (λ e. n (ap (λ (k : ℕ). get_or b k 0) (sym (add-zero p)) ∙ (sym (get_or-drop p b 0 0) ∙ sym e))))
      ∙ sym (holds_at_place a b p ga.some (climbs_rising b gb.climbs) g)
