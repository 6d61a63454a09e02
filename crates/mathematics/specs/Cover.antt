-- Document 01, "Graphs and covers": weights, what a cover is, its price, the lowest price.
use Rattle.std.specs.Prelude.{ℕ, suc, ◌+◌, ◌*◌, ◌≤◌, List, [], ◌∷◌, ◌++◌, map, Bool, true, false, cond, ◌&&◌, T, eqb}
use Rattle.mathematics.specs.Price.{Prices, Le, times}
use Rattle.mathematics.specs.Lists.{All, Distinct, some_holds}
use Rattle.mathematics.specs.Graph.{Vertex, Arc, Graph, is_path, joins}

-- "each vertex and each arc": the vertex v, or the arc from u to v
pub data Item : Type 0 where
  vert : ℕ → Item
  arc : ℕ → ℕ → Item

abbrev pub same_item : Item → Item → Bool
same_item (vert a) (vert b) = eqb a b
same_item (vert a) (arc b c) = false
same_item (arc a b) (vert c) = false
same_item (arc a b) (arc c d) = eqb a c && eqb b d

-- the vertices and arcs of a list of vertices, in turn
abbrev pub trail : List ℕ → List Item
trail [] = []
trail (v ∷ []) = vert v ∷ []
trail (u ∷ v ∷ p) = vert u ∷ arc u v ∷ trail (v ∷ p)

abbrev pub one_if : Bool → ℕ
one_if true = 1
one_if false = 0

abbrev pub count_of : Item → List Item → ℕ
count_of i [] = 0
count_of i (j ∷ js) = one_if (same_item i j) + count_of i js

-- how often p passes through the item: 0 or 1, since numbers rise along a path
abbrev pub through : Item → List ℕ → ℕ
through i p = count_of i (trail p)

-- an item of the graph and its demand
pub record Ask : Type 0 where
  pub item : Item
  pub demand : ℕ

abbrev pub vertex_asks : ℕ → List Vertex → List Ask
vertex_asks k [] = []
vertex_asks k (x ∷ xs) = record { item = vert k; demand = x.demand } ∷ vertex_asks (suc k) xs

-- "It has a weight, its number of copies"
pub record Weighted : Type 0 where
  pub weight : ℕ
  pub path : List ℕ

-- the weights of the paths through an item, in total
abbrev pub total : Item → List Weighted → ℕ
total i [] = 0
total i (w ∷ W) = w.weight * through i w.path + total i W

abbrev pub total_weight : List Weighted → ℕ
total_weight [] = 0
total_weight (w ∷ W) = w.weight + total_weight W

abbrev pub paths : List Weighted → List (List ℕ)
paths W = map (λ (w : Weighted). w.path) W

module _ {E : Type 0} where
  abbrev pub arc_ask : Arc E → Ask
  arc_ask a = record { item = arc a.tail a.head; demand = a.demand }

  -- each vertex, then each arc, with its demand
  abbrev pub asks : Graph E → List Ask
  asks G = vertex_asks 0 G.vertices ++ map arc_ask G.arcs

  -- "A cover is a set of distinct weighted paths such that, for each vertex and each arc, the weights of the paths through it total at least
  -- its demand, and each read is satisfied by some path." A weight is at least 1. A read is satisfied by holding its vertices consecutively.
  pub record IsCover (G : Graph E) (W : List Weighted) : Type 0 where
    pub are_paths : All (λ w. T (is_path G w.path)) W
    pub weights : All (λ w. 1 ≤ w.weight) W
    pub distinct : Distinct (paths W)
    pub demands_met : All (λ a. a.demand ≤ total a.item W) (asks G)
    pub reads_met : All (λ r. T (some_holds (paths W) r)) G.reads

module _ (P : Prices) where
  -- the cost of the arc from u to v
  abbrev pub cost_of : List (Arc P.El) → ℕ → ℕ → P.El
  cost_of [] u v = P.nil
  cost_of (a ∷ arcs) u v = cond (joins a u v) a.cost (cost_of arcs u v)

  -- "the costs of its arcs"
  abbrev pub arc_costs : List (Arc P.El) → List ℕ → P.El
  arc_costs arcs [] = P.nil
  arc_costs arcs (v ∷ []) = P.nil
  arc_costs arcs (u ∷ v ∷ p) = P.add (cost_of arcs u v) (arc_costs arcs (v ∷ p))

  -- "The price of one copy is the opening price plus the costs of its arcs."
  abbrev pub copy_price : Graph P.El → List ℕ → P.El
  copy_price G p = P.add G.opening (arc_costs G.arcs p)

  -- "The price of a cover is the sum of weight times price over its paths."
  abbrev pub price : Graph P.El → List Weighted → P.El
  price G [] = P.nil
  price G (w ∷ W) = P.add (times P w.weight (copy_price G w.path)) (price G W)

  -- a cover such that no cover, of any size, has a lower price
  pub record IsLowest (G : Graph P.El) (W : List Weighted) : Type 0 where
    pub cover : IsCover G W
    pub lowest : (other : List Weighted) → IsCover G other → Le P (price G W) (price G other)
