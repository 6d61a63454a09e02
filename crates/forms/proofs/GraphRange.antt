-- The numbers of a graph form that reads, as the limits of the mathematics ask for them.
use Prim.Native.Nat.{ℕ, zero, suc, ◌+◌, ◌<◌, ◌≤◌}
use native.Mathlib.Nat.{zero-add}
use native.Mathlib.Omega.{arith}
use mathlib.Core.Path.{◌≡◌, ap, ◌∙◌}
use mathlib.Core.List.{List, [], ◌∷◌, map}
use lib.ListN.{length, get_or, get_or-eq_default}
use lib.IntN.{ℤ, pos}
use Rattle.mathematics.specs.Lists.{All}
use Rattle.mathematics.specs.Graph.{Vertex, Arc, Graph, no_vertex}
use Rattle.mathematics.specs.Cover.{Ask, vertex_asks, arc_ask, asks}
use Rattle.mathematics.proofs.Basics.{all_weaken, all_append, all_map}
use Rattle.forms.specs.Bytes.{tabulate}
use Rattle.forms.specs.Limits.{max_cost, max_demand}
use Rattle.forms.specs.GraphForm.{vertex_count}
use Rattle.forms.specs.GraphOf.{vertex_of, graph_of}
use Rattle.forms.specs.GraphReads.{AtMost, Within}
use Rattle.forms.proofs.GraphFacts.{length_tabulate}

-- the graph has as many vertices as the form says
pub vertices_length : (s : List ℕ) → length (graph_of s).vertices ≡ vertex_count s
unfolding graph_of
vertices_length s = length_tabulate (vertex_of s) (vertex_count s) 0

get_d_tabulate : {A : Type 0} (g : ℕ → A) (d : A) (n i k : ℕ) → k < n → get_or (tabulate g n i) k d ≡ g (i + k)
get_d_tabulate g d zero i k h = absurd (omega arith)
get_d_tabulate g d (suc n) i zero h = ap g (omega arith)
get_d_tabulate g d (suc n) i (suc k) h = get_d_tabulate g d n (suc i) k (omega arith) ∙ ap g (omega arith)

-- vertex v of the graph is the form's; from n on there is none
pub vertex_is : (s : List ℕ) (v : ℕ) → v < vertex_count s → get_or (graph_of s).vertices v no_vertex ≡ vertex_of s v
unfolding graph_of
vertex_is s v h = get_d_tabulate (vertex_of s) no_vertex (vertex_count s) 0 v h ∙ ap (vertex_of s) (zero-add v)

pub no_vertex_lem : (s : List ℕ) (v : ℕ) → vertex_count s ≤ v → get_or (graph_of s).vertices v no_vertex ≡ no_vertex
no_vertex_lem s v h = get_or-eq_default (graph_of s).vertices no_vertex (omega (arith, vertices_length s))

vertex_demands_low : (k : ℕ) (xs : List Vertex) → All (λ v. v.demand ≤ max_demand) xs → All (λ a. a.demand ≤ max_demand) (vertex_asks k xs)
vertex_demands_low k [] h = tt
vertex_demands_low k (x ∷ xs) h = (h.0, vertex_demands_low (suc k) xs h.1)

module _ (s : List ℕ) (G : Graph ℤ) (w : Within s G) where
  -- "demand of a vertex or arc 0..1,000,000"
  pub demands_low : All (λ (a : Ask). a.demand ≤ max_demand) (asks G)
  demands_low =
      all_append (λ (a : Ask). a.demand ≤ max_demand) (vertex_asks 0 G.vertices) (map arc_ask G.arcs) (vertex_demands_low 0 G.vertices w.vertex_demands)
      (all_map (λ (a : Ask). a.demand ≤ max_demand) arc_ask G.arcs w.arc_demands)

  -- "arc cost 0..1,000,000"
  pub costs_low : All (λ (a : Arc ℤ). (c : ℕ) × (c ≤ max_cost) × (a.cost ≡ pos c)) G.arcs
  costs_low = all_weaken (λ a. AtMost max_cost a.cost) _ G.arcs (λ (a : Arc ℤ) c. (c.number, c.low, c.is)) w.low_arc_costs
