-- Which vertices of a graph form that reads a start leads to and which lead on to an end, as arrays tell it; and what lies on no path. What the builder's
-- stages hand on cites these; its promise does not.
use Rattle.std.specs.Prelude.{ℕ, ◌+◌, ◌<◌, ◌≡◌, List, Bool, false, cond, length, get_or, ℤ}
use Rattle.mathematics.specs.Graph.{Graph}
use Rattle.mathematics.specs.Cover.{Ask, vert, arc, asks}
use Rattle.mathematics.specs.Reach.{from_start, to_end, ask_lies}
use Rattle.forms.specs.declared.Verdict.{Verdict}
use Rattle.forms.specs.GraphForm.{vertex_count, arc_count, vertex_demand, arc_tail, arc_head, arc_demand}
use Rattle.forms.specs.GraphOf.{graph_of}
use Rattle.forms.specs.GraphReads.{Reads}
use Rattle.forms.specs.BuildFaults.{asks_lie_verdict, reads_lie_verdict}
use Rattle.forms.specs.Limits.{room_vertices}
use Rattle.reach.specs.declared.Reach.{Reach}

-- n and m are the numbers of vertices and arcs of a form that reads
pub record FormSizes (s : List ℕ) (n m : ℕ) : Type 0 where
  pub reads : Reads s
  pub vertices : n ≡ vertex_count s
  pub arcs : m ≡ arc_count s

-- for each vertex of the form s the array, with room for as many as the tables hold, says what f says of it
pub record Tells (s : List ℕ) (f : ℕ → Bool) (xs : List Bool) : Type 0 where
  pub long : length xs ≡ room_vertices
  pub says : (v : ℕ) → v < vertex_count s → get_or xs v false ≡ f v

-- the arrays tell which vertices are reached from a start, and which reach an end
pub record Reachable (s : List ℕ) (reach : Reach) : Type 0 where
  pub reads : Reads s
  pub starts : Tells s (from_start (graph_of s)) reach.reached
  pub ends : Tells s (to_end (graph_of s)) reach.reaching

-- what vertex v, and the arc whose record stands at an offset, ask for
abbrev pub vertex_ask : List ℕ → ℕ → Ask
vertex_ask s v = record { item = vert v; demand = vertex_demand s v }

abbrev pub record_ask : List ℕ → ℕ → Ask
record_ask s at = record { item = arc (arc_tail s at) (arc_head s at); demand = arc_demand s at }

-- 8 where what is told of an item is that it does not lie on a path
abbrev pub off : Bool → ℕ
off lies = cond lies 0 8

-- 8 where it asks for something and lies on no path
unfoldable pub lacks : Graph ℤ → Ask → ℕ
lacks G a = off (ask_lies G a)

-- 8 with the first item that asks for something and lies on no path; where there is none, what comes after
unfoldable pub lie_verdict : Graph ℤ → Verdict → Verdict
lie_verdict G after =
    asks_lie_verdict G 0 (asks G) (reads_lie_verdict G (length G.vertices + length G.arcs) G.reads after)
