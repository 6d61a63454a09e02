-- Document 02, #108, "Fewest first means fewest first": the same graph with prices of another kind.
use Rattle.std.specs.Prelude.{◌≤◌, ◌≡◌, List, [], ◌∷◌, map, ℤ, pos, ◌+ℤ◌}
use Rattle.mathematics.specs.Price.{Le, times, whole, Pair}
use Rattle.mathematics.specs.Graph.{Arc, Graph}
use Rattle.mathematics.specs.Cover.{Weighted, total_weight, arc_costs, IsCover}
use Rattle.mathematics.specs.Bound.{Marks}

module _ {E F : Type 0} (f : E → F) where
  -- the arc with f of its cost for its cost; its ends and its demand are kept
  abbrev pub repriced_arc : Arc E → Arc F
  repriced_arc a = record { tail = a.tail; head = a.head; cost = f a.cost; demand = a.demand }

  -- the graph with other prices; its vertices, the ends and demands of its arcs and its reads are kept
  abbrev pub repriced : F → Graph E → Graph F
  repriced opening G = record { opening = opening; vertices = G.vertices; arcs = map repriced_arc G.arcs; reads = G.reads }

  -- f of each mark
  abbrev pub repriced_marks : Marks E → Marks F
  repriced_marks m = record { into = λ v. f (m.into v); out = λ v. f (m.out v) }

-- a plain number as a pair: nothing in the first part
abbrev pub plain : ℤ → Pair
plain c = record { first = pos 0; second = c }

-- "covers compared by total copies, then by total arc cost": "a copy costs one in the first part", and its arcs cost what they do in the second
abbrev pub fewest_first : Graph ℤ → Graph Pair
fewest_first G = repriced plain (record { first = pos 1; second = pos 0 }) G

-- graph versions 1 to 4: the prices are plain numbers, the opening price too
abbrev pub plainly : Graph ℤ → Graph Pair
plainly G = repriced plain (plain G.opening) G

-- "total arc cost" of a cover: weight times the costs of its arcs, over its paths
abbrev pub total_arc_cost : Graph ℤ → List Weighted → ℤ
total_arc_cost G [] = pos 0
total_arc_cost G (w ∷ W) = times whole w.weight (arc_costs whole G.arcs w.path) +ℤ total_arc_cost G W

-- a cover that is best when covers are compared so: none has fewer copies, and none with as many has a lower arc cost
pub record FewestThenCheapest (G : Graph ℤ) (W : List Weighted) : Type 0 where
  pub cover : IsCover G W
  pub fewest : (other : List Weighted) → IsCover G other → total_weight W ≤ total_weight other
  pub cheapest : (other : List Weighted) → IsCover G other → total_weight other ≡ total_weight W → Le whole (total_arc_cost G W) (total_arc_cost G other)
