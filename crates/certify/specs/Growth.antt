-- The vertices and arcs that a walk passes, as items, and what it is that totals of vertices and arcs have grown by them.
use Rattle.std.specs.Prelude.{ℕ, ◌+◌, ◌*◌, ◌<◌, ◌≡◌, List, [], ◌∷◌, length, get_or}
use Rattle.mathematics.specs.Cover.{Item, vert, arc, count_of}
use Rattle.forms.specs.Limits.{room_vertices, room_arcs}
use Rattle.forms.specs.GraphForm.{arc_count}
use Rattle.forms.specs.GraphOf.{arc_item}

-- the arcs and vertices that a path passes after u, in turn
abbrev pub onward : ℕ → List ℕ → List Item
onward u [] = []
onward u (v ∷ q) = arc u v ∷ vert v ∷ onward v q

-- the total of each vertex and each arc has grown by the weight as often as it is among the items
pub record Grown (s : List ℕ) (weight : ℕ) (items : List Item) (vb va ab aa : List ℕ) : Type 0 where
  pub vertices_long : length va ≡ room_vertices
  pub arcs_long : length aa ≡ room_arcs
  pub vertices : (v : ℕ) → v < room_vertices → get_or va v 0 ≡ get_or vb v 0 + weight * count_of (vert v) items
  pub arcs : (k : ℕ) → k < arc_count s → get_or aa k 0 ≡ get_or ab k 0 + weight * count_of (arc_item s k) items
