-- #112, the least number of paths as a lowest price: where a copy costs one, arcs cost nothing and every vertex is asked for once, a cover's price is its
-- number of copies.
use Rattle.std.specs.Prelude.{ℕ, ◌≤◌, ◌≡◌, List, [], map, ◌↔◌, ℤ, pos}
use Rattle.mathematics.specs.Lists.{All}
use Rattle.mathematics.specs.Graph.{Vertex, Arc, Graph}
use Rattle.mathematics.specs.Safe.{PathCover}

-- k is the least number of paths: a cover of at most so many paths exists exactly where so many are k or more
abbrev pub LeastPaths : {E : Type 0} → Graph E → ℕ → Type 0
LeastPaths G k = (most : ℕ) → ((Q : List (List ℕ)) × PathCover G most Q) ↔ (k ≤ most)

-- the graph asks for nothing but each vertex once, and only copies cost: one each
pub record Counting (H : Graph ℤ) : Type 0 where
  pub opening_one : H.opening ≡ pos 1
  pub vertices_once : All (λ x. x.demand ≡ 1) H.vertices
  pub arcs_free : All (λ a. (a.cost ≡ pos 0) × (a.demand ≡ 0)) H.arcs
  pub no_reads : H.reads ≡ []

-- the counting graph of G: its vertices with their flags, each asked for once, and its arcs, which cost nothing and ask for nothing
abbrev pub counted_vertex : Vertex → Vertex
counted_vertex x = record { start = x.start; end = x.end; demand = 1 }

module _ {E : Type 0} where
  abbrev pub counted_arc : Arc E → Arc ℤ
  counted_arc a = record { tail = a.tail; head = a.head; cost = pos 0; demand = 0 }

  abbrev pub counting : Graph E → Graph ℤ
  counting G = record { opening = pos 1; vertices = map counted_vertex G.vertices; arcs = map counted_arc G.arcs; reads = [] }
