-- The arcs of a graph form that reads, by numbers: they rise, they are sorted by tail, and the tables have room for their ends.
use Prim.Native.Nat.{ℕ, zero, suc, ◌+◌, ◌-◌, ◌<◌, ◌≤◌}
use native.Mathlib.Nat.{le_of_eq}
use native.Mathlib.Omega.{arith}
use mathlib.Core.Path.{◌≡◌, ap, subst}
use mathlib.Core.List.{List}
use mathlib.Core.Logic.{⊎_elim}
use Rattle.forms.specs.GraphForm.{vertex_count, arc_count}
use Rattle.forms.specs.GraphReads.{ArcsRight}
use Rattle.forms.specs.Limits.{room_vertices}
use Rattle.forms.proofs.ArcLaws.{tail_of, head_of}

module _ (s : List ℕ) (right : ArcsRight s) where
  pub arc_inside : (b : ℕ) → b < arc_count s → (tail_of s b < head_of s b) × (head_of s b < vertex_count s)
  arc_inside b h = ((right.each b h).rises, (right.each b h).inside)

  -- "strictly ascending by tail, then head"
  later : (d a : ℕ) → a + d < arc_count s → tail_of s a ≤ tail_of s (a + d)
  later zero a h = le_of_eq (ap (tail_of s) (omega arith))
  later (suc d) a h =
      let e : suc (a + d) ≡ a + suc d = omega arith in
      let before = later d a (omega arith) in
      subst (λ k. tail_of s a ≤ tail_of s k) e
      (⊎_elim (λ l. omega arith) (λ l. omega (arith, l.0)) (right.ascending (a + d) (omega arith)))

  pub tails_rise : (a b : ℕ) → a ≤ b → b < arc_count s → tail_of s a ≤ tail_of s b
  tails_rise a b l h =
      let e : a + (b - a) ≡ b = omega arith in
      subst (λ k. tail_of s a ≤ tail_of s k) e (later (b - a) a (omega arith))

  -- the ends of arc a, as the code reads them
  module _ {a w : ℕ} (low : a < arc_count s) where
    pub tail_low : w ≡ tail_of s a → w < room_vertices
    tail_low e = omega (arith, arc_inside a low, right.header.vertices_room)

    pub head_low : w ≡ head_of s a → w < room_vertices
    head_low e = omega (arith, arc_inside a low, right.header.vertices_room)
