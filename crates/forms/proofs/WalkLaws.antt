-- A list of vertices, each consecutive pair an arc, read byte by byte; and what is found for a pair of vertices, against whether there is an arc.
use Prim.Native.Nat.{ℕ, suc, ◌+◌, ◌-◌, ◌<◌, ◌≤◌}
use native.Mathlib.Numerals.{add-one}
use native.Mathlib.Omega.{arith}
use mathlib.Core.Path.{◌≡◌, refl, sym, ap, ◌∙◌}
use mathlib.Core.List.{List, [], ◌∷◌}
use mathlib.Core.Bool.{Bool, true, false, cond, ◌&&◌, ◌||◌}
use lib.Dec.{ltb}
use lib.IntN.{ℤ}
use lib.ListN.{length, drop}
use lib.Seq.{drop-cons}
use borrow.Author.Tests.{lt-ltb, le-ltb, ltb-true}
use Rattle.std.specs.Prelude.{Option, Some, None}
use Rattle.mathematics.specs.Graph.{Arc, joins, has_arc, linked}
use Rattle.forms.specs.Bytes.{byte, part}
use Rattle.forms.specs.GraphFaults.{all_below, walks}
use Rattle.forms.specs.ArcTable.{number_from, arc_number, goes_on}

-- found exactly where there is an arc
abbrev pub is_at : Option ℕ → Bool
is_at (Some k) = true
is_at None = false

pub found_is : (arcs : List (Arc ℤ)) (u v k : ℕ) → is_at (number_from arcs u v k) ≡ has_arc arcs u v
unfolding number_from
found_is [] u v k = refl
found_is (a ∷ arcs) u v k = either (joins a u v) _ (found_is arcs u v (suc k))
  where
    either : (b : Bool) (rest : Option ℕ) {more : Bool} → is_at rest ≡ more → is_at (cond b (Some k) rest) ≡ (b || more)
    either true rest e = refl
    either false rest e = e

module _ (n : ℕ) (arcs : List (Arc ℤ)) (u v : ℕ) where
  pub goes_outside : n ≤ v → false ≡ goes_on n arcs u v
  unfolding goes_on
  goes_outside h = simp (le-ltb _ _ h)

  pub goes_nowhere : v < n → None ≡ arc_number arcs u v → false ≡ goes_on n arcs u v
  unfolding goes_on
  goes_nowhere h e = simp (lt-ltb _ _ h) (ap is_at e ∙ found_is arcs u v 0)

-- u, and a walk on from u along the list
unfoldable pub walks_from : ℕ → List (Arc ℤ) → ℕ → List ℕ → Bool
walks_from n arcs u [] = true
walks_from n arcs u (v ∷ vs) = goes_on n arcs u v && walks_from n arcs v vs

turned : (a h l : Bool) → (a && (h && l)) ≡ (h && (a && l))
turned true h l = refl
turned false true l = refl
turned false false l = refl

module _ (n : ℕ) (arcs : List (Arc ℤ)) where
  walk_is : (u : ℕ) (vs : List ℕ) → ltb u n ≡ true → walks n arcs (u ∷ vs) ≡ walks_from n arcs u vs
  unfolding walks walks_from goes_on
  walk_is u [] e = simp e
  walk_is u (v ∷ vs) e = simp e (onward (ltb v n) refl (walk_is v vs))
    where
      onward : (b : Bool) → ltb v n ≡ b → (ltb v n ≡ true → walks n arcs (v ∷ vs) ≡ walks_from n arcs v vs) → ((b && all_below n vs) && (has_arc arcs u v && linked arcs (v ∷ vs))) ≡ ((b && has_arc arcs u v) && walks_from n arcs v vs)
      onward true e ih = turned (all_below n vs) (has_arc arcs u v) (linked arcs (v ∷ vs)) ∙ ap (λ w. has_arc arcs u v && w) (ap (λ b. (b && all_below n vs) && linked arcs (v ∷ vs)) (sym e) ∙ ih e)
      onward false e ih = refl

  walk_outside' : (u : ℕ) (vs : List ℕ) → n ≤ u → walks n arcs (u ∷ vs) ≡ false
  unfolding walks
  walk_outside' u vs h = simp (le-ltb _ _ h)

-- the bytes from i up to end, one by one
part_more : (form : List ℕ) (i end : ℕ) → i < end → end ≤ length form → part form i (end - i) ≡ byte form i ∷ part form (i + 1) (end - (i + 1))
unfolding part
part_more form i end h fits =
    let split : end - i ≡ suc (end - (i + 1)) = omega arith in
    let more : drop i form ≡ byte form i ∷ drop (suc i) form = drop-cons form i 0 (omega arith) in
    rw (split, more, add-one)

part_done : (form : List ℕ) (i end : ℕ) → end ≤ i → part form i (end - i) ≡ []
unfolding part
part_done form i end h =
    let none : end - i ≡ 0 = omega arith in
    rw none

module _ (n : ℕ) (arcs : List (Arc ℤ)) (form : List ℕ) where
  module _ (at count : ℕ) (some : 1 ≤ count) (fits : at + count ≤ length form) {u : ℕ} (read : u ≡ byte form at) where
    opened : walks n arcs (part form at count) ≡ walks n arcs (u ∷ part form (at + 1) (at + count - (at + 1)))
    opened =
        let size : count ≡ at + count - at = omega arith in
        ap (λ k. walks n arcs (part form at k)) size ∙ ap (walks n arcs) (part_more form at (at + count) (omega arith) fits)
        ∙ ap (λ x. walks n arcs (x ∷ part form (at + 1) (at + count - (at + 1)))) (sym read)

    pub walk_outside : n ≤ u → false ≡ walks n arcs (part form at count)
    walk_outside h = sym (opened ∙ walk_outside' n arcs _ _ h)

    pub walk_begins : u < n → walks n arcs (part form at count) ≡ walks_from n arcs u (part form (at + 1) (at + count - (at + 1)))
    walk_begins h = opened ∙ walk_is n arcs _ _ (lt-ltb _ _ h)

  module _ (u i end : ℕ) where
    pub walk_ends : end ≤ i → walks_from n arcs u (part form i (end - i)) ≡ true
    unfolding walks_from
    walk_ends h = rw (part_done form i end h)

    module _ (h : i < end) (fits : end ≤ length form) {v : ℕ} (read : v ≡ byte form i) {g : Bool} (went : g ≡ goes_on n arcs u v) where
      on : walks_from n arcs u (part form i (end - i)) ≡ (g && walks_from n arcs v (part form (i + 1) (end - (i + 1))))
      unfolding walks_from
      on = rw (part_more form i end h fits, ← read, went)

      pub walk_stops : g ≡ false → walks_from n arcs u (part form i (end - i)) ≡ false
      walk_stops e = on ∙ rw e

      pub walk_turns : g ≡ true → walks_from n arcs u (part form i (end - i)) ≡ walks_from n arcs v (part form (i + 1) (end - (i + 1)))
      walk_turns e = on ∙ rw e

-- where a walk goes on, to a vertex
pub goes_inside : (n : ℕ) (arcs : List (Arc ℤ)) (u v : ℕ) {g : Bool} → g ≡ goes_on n arcs u v → g ≡ true → v < n
unfolding goes_on
goes_inside n arcs u v went e = ltb-true v n (and_fst (ltb v n) (has_arc arcs u v) (sym went ∙ e))
  where
    and_fst : (a b : Bool) → (a && b) ≡ true → a ≡ true
    and_fst true b e = refl
    and_fst false b e = e
