-- The graph that a form which reads stands for: vertices with flags and demands, arcs with costs and demands, reads as lists of vertices, opening price.
use Rattle.std.specs.Prelude.{ℕ, zero, suc, ◌/◌, ◌%◌, List, [], ◌∷◌, eqb, ℤ, pos}
use Rattle.mathematics.specs.Graph.{Vertex, Arc, Graph}
use Rattle.mathematics.specs.Cover.{Item, arc}
use Rattle.forms.specs.Bytes.{tabulate}
use Rattle.forms.specs.GraphForm.{vertex_count, arc_count, read_count, opening_price, flags, vertex_demand, arc_at, arc_tail, arc_head, arc_cost, arc_demand, first_read_at, read_vertices, read_end}

-- "1 start, 2 end, 3 both, 0 neither"
abbrev pub vertex_of : List ℕ → ℕ → Vertex
vertex_of s v =
    record { start = eqb (flags s v % 2) 1; end = eqb (flags s v / 2) 1; demand = vertex_demand s v }

abbrev pub arc_of : List ℕ → ℕ → Arc ℤ
arc_of s a =
    record {
      tail = arc_tail s (arc_at s a);
      head = arc_head s (arc_at s a);
      cost = pos (arc_cost s (arc_at s a));
      demand = arc_demand s (arc_at s a);
    }

-- arc a as an item
abbrev pub arc_item : List ℕ → ℕ → Item
arc_item s a = arc (arc_tail s (arc_at s a)) (arc_head s (arc_at s a))

abbrev pub arcs_of : List ℕ → List (Arc ℤ)
arcs_of s = tabulate (arc_of s) (arc_count s) 0

-- count reads, the first at an offset
abbrev pub reads_from : List ℕ → ℕ → ℕ → List (List ℕ)
reads_from s zero at = []
reads_from s (suc count) at = read_vertices s at ∷ reads_from s count (read_end s at)

unfoldable pub graph_of : List ℕ → Graph ℤ
graph_of s =
    record {
      opening = pos (opening_price s);
      vertices = tabulate (vertex_of s) (vertex_count s) 0;
      arcs = arcs_of s;
      reads = reads_from s (read_count s) (first_read_at s);
    }
