-- Document 02, #113, "More asked, never cheaper": "if a demand, an arc cost or (where used) the opening price is raised, or a read added, and both graphs
-- have covers, then the lowest price doesn't fall. Show too that reordering the reads doesn't change it." Over any kind of price, and with no limits.
use Rattle.std.specs.Prelude.{ℕ, zero, suc, ◌+◌, ◌≤◌, ◌≡◌, List, [], ◌∷◌, ◌++◌, take, drop}
use Rattle.mathematics.specs.Price.{Prices, Le}
use Rattle.mathematics.specs.Lists.{All}
use Rattle.mathematics.specs.Graph.{Vertex, Arc, Graph, with_reads}
use Rattle.mathematics.specs.Cover.{Weighted, price, IsLowest}
use Rattle.mathematics.specs.Range.{OneOf}

-- "the lowest price" of the graph is x: some cover has it, and no cover a lower one
abbrev pub LowestPrice : (P : Prices) → Graph P.El → P.El → Type 0
LowestPrice P G x = (W : List Weighted) × IsLowest P G W × (price P G W ≡ x)

-- ---- any number of the changes at once

-- as many of both, and R between each and the one at its place
abbrev pub Each : {A : Type 0} → (A → A → Type 0) → List A → List A → Type 0
Each R [] [] = Unit {0}
Each R [] (y ∷ ys) = ⊥
Each R (x ∷ xs) [] = ⊥
Each R (x ∷ xs) (y ∷ ys) = R x y × Each R xs ys

-- the same flags, and a demand that is kept or raised
pub record VertexRaised (x y : Vertex) : Type 0 where
  pub start_kept : x.start ≡ y.start
  pub end_kept : x.end ≡ y.end
  pub demand_raised : x.demand ≤ y.demand

module _ (P : Prices) where
  -- the same ends, and a cost and a demand that are kept or raised
  pub record ArcRaised (a b : Arc P.El) : Type 0 where
    pub tail_kept : a.tail ≡ b.tail
    pub head_kept : a.head ≡ b.head
    pub cost_raised : Le P a.cost b.cost
    pub demand_raised : a.demand ≤ b.demand

  -- H asks for what G asks for, and perhaps more: its numbers are those of G or greater, at each place, and each read of G is a read of H
  pub record AsksMore (G H : Graph P.El) : Type 0 where
    pub opening_no_less : Le P G.opening H.opening
    pub vertices_raised : Each VertexRaised G.vertices H.vertices
    pub arcs_raised : Each ArcRaised G.arcs H.arcs
    pub reads_kept : All (OneOf H.reads) G.reads

-- ---- the changes that the request names, one at a time

-- the list with f applied to what stands at place k
abbrev pub change_at : {A : Type 0} → (A → A) → ℕ → List A → List A
change_at f k [] = []
change_at f zero (x ∷ xs) = f x ∷ xs
change_at f (suc k) (x ∷ xs) = x ∷ change_at f k xs

module _ {E : Type 0} where
  -- "a demand": of vertex v, raised by `more`
  abbrev pub vertex_demand_raised : ℕ → ℕ → Graph E → Graph E
  vertex_demand_raised v more G =
      record {
        opening = G.opening;
        vertices = change_at (λ x. record { start = x.start; end = x.end; demand = x.demand + more }) v G.vertices;
        arcs = G.arcs;
        reads = G.reads;
      }

  -- or of arc a,
  abbrev pub arc_demand_raised : ℕ → ℕ → Graph E → Graph E
  arc_demand_raised a more G =
      record {
        opening = G.opening;
        vertices = G.vertices;
        arcs = change_at (λ x. record { tail = x.tail; head = x.head; cost = x.cost; demand = x.demand + more }) a G.arcs;
        reads = G.reads;
      }

  -- "or a read added": r, with k of the reads that were there in front of it and the others behind it
  abbrev pub read_added : ℕ → List ℕ → Graph E → Graph E
  read_added k r G = with_reads G (take k G.reads ++ (r ∷ drop k G.reads))

module _ (P : Prices) where
  -- "an arc cost": of arc a, raised by `more`, which is not below nothing
  abbrev pub arc_cost_raised : ℕ → P.El → Graph P.El → Graph P.El
  arc_cost_raised a more G =
      record {
        opening = G.opening;
        vertices = G.vertices;
        arcs = change_at (λ x. record { tail = x.tail; head = x.head; cost = P.add x.cost more; demand = x.demand }) a G.arcs;
        reads = G.reads;
      }

  -- "or (where used) the opening price", raised by `more`
  abbrev pub opening_raised : P.El → Graph P.El → Graph P.El
  opening_raised more G = record { opening = P.add G.opening more; vertices = G.vertices; arcs = G.arcs; reads = G.reads }

-- "reordering the reads": ys are xs in another order. The first of xs stands somewhere in ys, and the others of ys are the others of xs in another order.
abbrev pub Reordered : {A : Type 0} → List A → List A → Type 0
Reordered [] ys = ys ≡ []
Reordered {A} (x ∷ xs) ys = (before : List A) × (after : List A) × (ys ≡ before ++ (x ∷ after)) × Reordered xs (before ++ after)
