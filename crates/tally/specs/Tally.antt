-- What one path of an answer adds to the tallies: for each vertex and arc on it its weight, for each read that it holds that it is met, and the costs of its arcs.
-- Document 01: "the weights of the paths through it total at least its demand, and each read is satisfied by some path".
use Rattle.std.specs.Prelude.{ℕ, ◌*◌, ◌<◌, ◌≤◌, ◌≡◌, List, [], ◌∷◌, Bool, true, false, ◌&&◌, ◌||◌, length, get_or, pos, Option, Some, None}
use Rattle.mathematics.specs.Price.{whole}
use Rattle.mathematics.specs.Lists.{last_of, holds}
use Rattle.mathematics.specs.Graph.{linked, is_path, is_end}
use Rattle.mathematics.specs.Cover.{Item, trail, arc_costs}
use Rattle.forms.specs.GraphFaults.{all_below}
use Rattle.forms.specs.GraphForm.{vertex_count, arc_count, read_count, first_read_at}
use Rattle.forms.specs.GraphOf.{graph_of, arcs_of, reads_from}
use Rattle.forms.specs.Layout.{max_weight}
use Rattle.forms.specs.Limits.{room_vertices, room_arcs, room_reads, max_cost}
use Rattle.certify.specs.Growth.{Grown}

-- read r of a graph form
abbrev pub read_of : List ℕ → ℕ → List ℕ
read_of s r = get_or (reads_from s (read_count s) (first_read_at s)) r []

-- the reads that the path p holds are met besides those that were met before
pub record ReadsMet (s p : List ℕ) (before after : List Bool) : Type 0 where
  pub long : length after ≡ room_reads
  pub met : (r : ℕ) → r < read_count s → get_or after r false ≡ (get_or before r false || holds p (read_of s r))

-- the path goes on rightly from u along q: vertices of the graph, each pair an arc, the last an end
unfoldable pub goes_on_to : List ℕ → ℕ → List ℕ → Bool
goes_on_to s u q = all_below (vertex_count s) q && (linked (arcs_of s) (u ∷ q) && is_end (graph_of s) (last_of u q))

-- the totals of vertices and of arcs are as many as there can be, and have room for the weight of one more path
pub record TotalsFit (s vertex_totals arc_totals : List ℕ) (weight times : ℕ) : Type 0 where
  pub low_weight : weight ≤ max_weight s
  pub vertices_long : length vertex_totals ≡ room_vertices
  pub arcs_long : length arc_totals ≡ room_arcs
  pub vertices_low : (v : ℕ) → v < room_vertices → get_or vertex_totals v 0 ≤ times * max_weight s
  pub arcs_low : (k : ℕ) → k < arc_count s → get_or arc_totals k 0 ≤ times * max_weight s

-- what walking along p gives: whether it is right, and where it is, the totals grown by the items on it and the costs of its arcs
pub record WalkTallied (s : List ℕ) (right : Bool) (items : List Item) (p : List ℕ) (weight : ℕ) (vb va ab aa : List ℕ) (ok : Bool) (cost : ℕ) : Type 0 where
  pub is_right : ok ≡ right
  pub grown : ok ≡ true → Grown s weight items vb va ab aa
  pub costs : ok ≡ true → pos cost ≡ arc_costs whole (arcs_of s) p
  pub low_cost : ok ≡ true → cost ≤ max_cost * room_vertices

-- the costs that a walk answers: "for an answer that is an enum, a definition gives this paper's number and values for each case"; whether the path is right says `is_some`
abbrev pub costs_of : Option ℕ → ℕ
costs_of (Some cost) = cost
costs_of None = 0

-- what walking along a whole path gives
abbrev pub PathWalked : List ℕ → List ℕ → ℕ → List ℕ → List ℕ → List ℕ → List ℕ → Bool → ℕ → Type 0
PathWalked s p = WalkTallied s (all_below (vertex_count s) p && is_path (graph_of s) p) (trail p) p
