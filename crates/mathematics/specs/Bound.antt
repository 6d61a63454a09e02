-- Document 01, "Marks and the bound", and the rest of a demand.
use Rattle.std.specs.Prelude.{ℕ, suc, ◌+◌, ◌-◌, ◌<◌, ◌≡◌, List, [], ◌∷◌, Bool, true, cond, ◌&&◌, T, length, get_or}
use Rattle.mathematics.specs.Price.{Prices, Le, sub, times, sum_by}
use Rattle.mathematics.specs.Lists.{All, last_of}
use Rattle.mathematics.specs.Graph.{Vertex, Arc, Graph, no_vertex}
use Rattle.mathematics.specs.Cover.{Item, vert, arc, trail, through, Weighted, cost_of, arc_costs, price}
use Rattle.mathematics.specs.Prepare.{prepare}

-- how many of the reads rs pass through the item
abbrev pub reads_through : Item → List (List ℕ) → ℕ
reads_through i [] = 0
reads_through i (r ∷ rs) = through i r + reads_through i rs

-- "Call a vertex's or arc's rest its demand less the number of prepared reads through it, and 0 if that is negative." (rs are the prepared reads)
abbrev pub rest : List (List ℕ) → Item → ℕ → ℕ
rest rs i demand = demand - reads_through i rs

-- an in-mark and an out-mark for each vertex number
pub record Marks (E : Type 0) : Type 0 where
  pub into : ℕ → E
  pub out : ℕ → E

module _ (P : Prices) where
  -- "for a start vertex, opening price minus in-mark; for an end vertex, its out-mark; for each vertex, in-mark minus out-mark;
  -- for each arc, cost plus the tail's out-mark minus the head's in-mark"
  abbrev pub start_slack : Graph P.El → Marks P.El → ℕ → P.El
  start_slack G m v = sub P G.opening (m.into v)

  abbrev pub end_slack : Marks P.El → ℕ → P.El
  end_slack m v = m.out v

  abbrev pub vertex_slack : Marks P.El → ℕ → P.El
  vertex_slack m v = sub P (m.into v) (m.out v)

  abbrev pub arc_slack : Marks P.El → Arc P.El → P.El
  arc_slack m a = sub P (P.add a.cost (m.out a.tail)) (m.into a.head)

  -- the slacks of vertex v, which is x, are at least 0
  abbrev pub vertex_slacks_hold : Graph P.El → Marks P.El → ℕ → Vertex → Bool
  vertex_slacks_hold G m v x =
      cond x.start (P.leb P.nil (start_slack G m v)) true &&
      (cond x.end (P.leb P.nil (end_slack m v)) true && P.leb P.nil (vertex_slack m v))

  abbrev pub arc_slack_holds : Marks P.El → Arc P.El → Bool
  arc_slack_holds m a = P.leb P.nil (arc_slack m a)

  -- those of the vertices numbered from k on
  abbrev pub VertexSlacksHold : Graph P.El → Marks P.El → ℕ → List Vertex → Type 0
  VertexSlacksHold G m k [] = Unit {0}
  VertexSlacksHold G m k (x ∷ xs) = T (vertex_slacks_hold G m k x) × VertexSlacksHold G m (suc k) xs

  -- "Slacks, all of which must be at least 0"
  pub record SlacksHold (G : Graph P.El) (m : Marks P.El) : Type 0 where
    pub vertices_hold : VertexSlacksHold G m 0 G.vertices
    pub arcs_hold : All (λ a. T (arc_slack_holds m a)) G.arcs

  -- "the sum of rest times slack (in-mark minus out-mark) over vertices": those numbered from k on
  abbrev pub vertex_terms : List (List ℕ) → Marks P.El → ℕ → List Vertex → P.El
  vertex_terms rs m k [] = P.nil
  vertex_terms rs m k (x ∷ xs) =
      P.add (times P (rest rs (vert k) x.demand) (vertex_slack m k)) (vertex_terms rs m (suc k) xs)

  -- "plus rest times slack over arcs"
  abbrev pub arc_terms : List (List ℕ) → Marks P.El → List (Arc P.El) → P.El
  arc_terms rs m [] = P.nil
  arc_terms rs m (a ∷ arcs) =
      P.add (times P (rest rs (arc a.tail a.head) a.demand) (arc_slack m a)) (arc_terms rs m arcs)

  -- "for each prepared read, the cost of its arcs plus the first vertex's in-mark minus the last vertex's out-mark"
  abbrev pub read_term : Graph P.El → Marks P.El → List ℕ → P.El
  read_term G m [] = P.nil
  read_term G m (v ∷ r) = sub P (P.add (arc_costs P G.arcs (v ∷ r)) (m.into v)) (m.out (last_of v r))

  abbrev pub read_terms : Graph P.El → Marks P.El → List (List ℕ) → P.El
  read_terms G m [] = P.nil
  read_terms G m (r ∷ rs) = P.add (read_term G m r) (read_terms G m rs)

  -- the bound with rs for the prepared reads
  abbrev pub bound_with : List (List ℕ) → Graph P.El → Marks P.El → P.El
  bound_with rs G m =
      P.add (vertex_terms rs m 0 G.vertices) (P.add (arc_terms rs m G.arcs) (read_terms G m rs))

  -- "The bound"
  unfoldable pub bound : Graph P.El → Marks P.El → P.El
  bound G m = bound_with (prepare G.reads) G m

  -- "Where no slack is below 0, no term of the bound is negative": each term, with rs for the prepared reads
  pub record TermsHold (rs : List (List ℕ)) (G : Graph P.El) (m : Marks P.El) : Type 0 where
    pub vertex_terms_hold : (v : ℕ) → v < length G.vertices →
        Le P P.nil (times P (rest rs (vert v) (get_or G.vertices v no_vertex).demand) (vertex_slack m v))
    pub arc_terms_hold : All (λ a. Le P P.nil (times P (rest rs (arc a.tail a.head) a.demand) (arc_slack m a))) G.arcs
    pub read_terms_hold : All (λ r. Le P P.nil (read_term G m r)) rs

  -- The marks show that W costs no more than it must: no slack is below 0 and the bound is W's price. This is what an answer's marks are for.
  abbrev pub Shows : Graph P.El → Marks P.El → List Weighted → Type 0
  Shows G m W = SlacksHold G m × (bound G m ≡ price P G W)

  -- the slack of a vertex or of an arc
  abbrev pub item_slack : Graph P.El → Marks P.El → Item → P.El
  item_slack G m (vert v) = vertex_slack m v
  item_slack G m (arc u v) = sub P (P.add (cost_of P G.arcs u v) (m.out u)) (m.into v)

  -- The price of a copy and the term of a read, as slacks, for why the bound lies below the price:
  -- the slacks of the vertices and arcs of p, in total,
  abbrev pub slacks_along : Graph P.El → Marks P.El → List ℕ → P.El
  slacks_along G m p = sum_by P (item_slack G m) (trail p)

  -- and the first vertex's start slack and the last one's end slack
  abbrev pub slacks_at_ends : Graph P.El → Marks P.El → List ℕ → P.El
  slacks_at_ends G m [] = P.nil
  slacks_at_ends G m (v ∷ p) = P.add (start_slack G m v) (end_slack m (last_of v p))
