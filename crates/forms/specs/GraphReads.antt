-- Document 01's conditions on a graph form, stated plainly: a form that reads. That this is what a verdict of 0 says is proved in proofs/GraphReads.
use Rattle.std.specs.Prelude.{ℕ, zero, suc, ◌+◌, ◌<◌, ◌≤◌, ◌≡◌, List, ◌⊎◌, T, ℤ, pos, length}
use Rattle.mathematics.specs.Lists.{All}
use Rattle.mathematics.specs.Graph.{Graph, linked}
use Rattle.forms.specs.Limits.{max_opening, max_cost, max_demand, min_read_length, room_vertices, room_arcs, room_reads, room_read_length}
use Rattle.forms.specs.Layout.{version, newest, max_vertices, max_arcs, max_reads, max_read_length, max_flag, vertex_length}
use Rattle.forms.specs.GraphForm.{header_length, length_word, vertex_count, arc_count, read_count, opening_price, vertex_at, flags, vertex_demand, arc_length, arc_at, arc_tail, arc_head, arc_cost, arc_demand, first_read_at, read_length, read_vertices_at, read_vertices, read_end}
use Rattle.forms.specs.GraphOf.{arcs_of}

-- "length (4 bytes), version (1), n (1), number of arcs (2), number of reads (1), opening price (4): 13 bytes", and "Numbers allowed". The last three follow from
-- the limits: the tables have room for what any version allows.
pub record HeaderRight (s : List ℕ) : Type 0 where
  pub long : header_length s ≤ length s
  pub counted : length_word s ≡ length s
  pub known_version : (1 ≤ version s) × (version s ≤ newest)
  pub some_vertex : 1 ≤ vertex_count s
  pub few_vertices : vertex_count s ≤ max_vertices s
  pub few_arcs : arc_count s ≤ max_arcs s
  pub few_reads : read_count s ≤ max_reads s
  pub low_opening : opening_price s ≤ max_opening
  pub vertices_room : vertex_count s ≤ room_vertices
  pub arcs_room : arc_count s ≤ room_arcs
  pub reads_room : read_count s ≤ room_reads

-- "per vertex a flag byte (1 start, 2 end, 3 both, 0 neither) and demand (4)"
pub record VertexRight (s : List ℕ) (v : ℕ) : Type 0 where
  pub whole : vertex_at s v + vertex_length s ≤ length s
  pub a_flag : flags s v ≤ max_flag s
  pub low_demand : vertex_demand s v ≤ max_demand

-- "per arc tail (1), head (1), cost (4), demand (4)", tail < head < n
pub record ArcRight (s : List ℕ) (at : ℕ) : Type 0 where
  pub whole : at + arc_length ≤ length s
  pub low_cost : arc_cost s at ≤ max_cost
  pub low_demand : arc_demand s at ≤ max_demand
  pub rises : arc_tail s at < arc_head s at
  pub inside : arc_head s at < vertex_count s

-- the arc at an offset comes before the arc at another: "strictly ascending by tail, then head"
abbrev pub Before : List ℕ → ℕ → ℕ → Type 0
Before s a b = (arc_tail s a < arc_tail s b) ⊎ ((arc_tail s a ≡ arc_tail s b) × (arc_head s a < arc_head s b))

-- "A read (subpath constraint) is 2 to 16 vertices, each consecutive pair an arc." That the tables have room for it follows.
pub record ReadRight (s : List ℕ) (at : ℕ) : Type 0 where
  pub begins : read_vertices_at s at ≤ length s
  pub not_short : min_read_length ≤ read_length s at
  pub not_long : read_length s at ≤ max_read_length s
  pub room : read_length s at ≤ room_read_length
  pub whole : read_end s at ≤ length s
  pub inside : All (λ v. v < vertex_count s) (read_vertices s at)
  pub arcs : T (linked (arcs_of s) (read_vertices s at))

-- count reads, the first at an offset, and no byte behind the last
abbrev pub ReadsRight : List ℕ → ℕ → ℕ → Type 0
ReadsRight s zero at = at ≡ length s
ReadsRight s (suc count) at = ReadRight s at × ReadsRight s count (read_end s at)

-- a form whose header and arcs are right: what finding an arc asks for
pub record ArcsRight (s : List ℕ) : Type 0 where
  pub header : HeaderRight s
  pub each : (a : ℕ) → a < arc_count s → ArcRight s (arc_at s a)
  pub ascending : (a : ℕ) → suc a < arc_count s → Before s (arc_at s a) (arc_at s (suc a))

-- a form that reads
pub record Reads (s : List ℕ) : Type 0 where
  pub arcs : ArcsRight s
  pub vertices : (v : ℕ) → v < vertex_count s → VertexRight s v
  pub reads : ReadsRight s (read_count s) (first_read_at s)

-- a price that is a number from 0 to a limit
pub record AtMost (limit : ℕ) (x : ℤ) : Type 0 where
  pub number : ℕ
  pub is : x ≡ pos number
  pub low : number ≤ limit

-- "Numbers allowed", of the graph G that the form s stands for
pub record Within (s : List ℕ) (G : Graph ℤ) : Type 0 where
  pub some_vertex : 1 ≤ length G.vertices
  pub few_vertices : length G.vertices ≤ max_vertices s
  pub few_arcs : length G.arcs ≤ max_arcs s
  pub few_reads : length G.reads ≤ max_reads s
  pub low_opening : AtMost max_opening G.opening
  pub vertex_demands : All (λ v. v.demand ≤ max_demand) G.vertices
  pub arc_demands : All (λ a. a.demand ≤ max_demand) G.arcs
  pub low_arc_costs : All (λ a. AtMost max_cost a.cost) G.arcs
  pub short_reads : All (λ r. length r ≤ max_read_length s) G.reads

-- what the tables hold of a graph: every form that reads, of whatever version, has room in them
pub record HasRoom (G : Graph ℤ) : Type 0 where
  pub vertices : length G.vertices ≤ room_vertices
  pub arcs : length G.arcs ≤ room_arcs
  pub reads : length G.reads ≤ room_reads
  pub each_read : All (λ r. length r ≤ room_read_length) G.reads
