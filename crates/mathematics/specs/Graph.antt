-- Document 01, "Graphs and covers", first three sentences: vertices, arcs, flags, paths and reads, over any type E of prices and with no limits.
use Rattle.std.specs.Prelude.{ℕ, ◌<◌, ◌≤◌, List, [], ◌∷◌, map, Bool, true, false, ◌&&◌, ◌||◌, T, eqb, length, get_or}
use Rattle.mathematics.specs.Lists.{All, Distinct, last_of}

-- "A vertex may carry a start flag, an end flag, both or neither", and it has a demand.
pub record Vertex : Type 0 where
  pub start : Bool
  pub end : Bool
  pub demand : ℕ

-- an arc from tail to head, with its cost and its demand
pub record Arc (E : Type 0) : Type 0 where
  pub tail : ℕ
  pub head : ℕ
  pub cost : E
  pub demand : ℕ

-- "Vertices (exons) are numbered 0 to n-1": a vertex's number is its place in the list. A read is the list of its vertices.
pub record Graph (E : Type 0) : Type 0 where
  pub opening : E
  pub vertices : List Vertex
  pub arcs : List (Arc E)
  pub reads : List (List ℕ)

-- what stands for a vertex whose number is not below n: no flag, no demand
abbrev pub no_vertex : Vertex
no_vertex = record { start = false; end = false; demand = 0 }

module _ {E : Type 0} where
  abbrev pub is_start : Graph E → ℕ → Bool
  is_start G v = (get_or G.vertices v no_vertex).start

  abbrev pub is_end : Graph E → ℕ → Bool
  is_end G v = (get_or G.vertices v no_vertex).end

  -- the arc a goes from u to v
  abbrev pub joins : Arc E → ℕ → ℕ → Bool
  joins a u v = eqb a.tail u && eqb a.head v

  -- some arc goes from u to v
  abbrev pub has_arc : List (Arc E) → ℕ → ℕ → Bool
  has_arc [] u v = false
  has_arc (a ∷ arcs) u v = joins a u v || has_arc arcs u v

  -- "each consecutive pair an arc"
  abbrev pub linked : List (Arc E) → List ℕ → Bool
  linked arcs [] = true
  linked arcs (v ∷ []) = true
  linked arcs (u ∷ v ∷ p) = has_arc arcs u v && linked arcs (v ∷ p)

  -- "A path is one vertex or more, each consecutive pair an arc, the first a start, the last an end."
  abbrev pub is_path : Graph E → List ℕ → Bool
  is_path G [] = false
  is_path G (v ∷ p) = is_start G v && (linked G.arcs (v ∷ p) && is_end G (last_of v p))

  -- "Every arc goes from a lower number to a higher one", between vertices of the graph
  abbrev pub Rises : ℕ → Arc E → Type 0
  Rises n a = (a.tail < a.head) × (a.head < n)

  -- What the theorems ask of a graph, and what every form that reads gives: arcs rise, no two arcs have the same ends,
  -- and a read is two vertices or more, each consecutive pair an arc.
  pub record WellFormed (G : Graph E) : Type 0 where
    pub rises : All (Rises (length G.vertices)) G.arcs
    pub once : Distinct {A = ℕ × ℕ} (map (λ (a : Arc E). (a.tail, a.head)) G.arcs)
    pub reads_linked : All (λ r. (2 ≤ length r) × T (linked G.arcs r)) G.reads

  -- The graph with rs for its reads; opening price, vertices and arcs are kept. A cover of the prepared reads is a cover of such a graph.
  abbrev pub with_reads : Graph E → List (List ℕ) → Graph E
  with_reads G rs = record { opening = G.opening; vertices = G.vertices; arcs = G.arcs; reads = rs }
