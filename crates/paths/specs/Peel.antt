-- Taking paths off the loads: what the table of collected paths stands for, and what it has to hold once all loads are taken off. `peel_all`
-- promises in these words; no promise of the builder's call does.
use Rattle.std.specs.Prelude.{ℕ, ◌+◌, ◌*◌, ◌-◌, ◌≤◌, ◌<◌, min, ◌≡◌, List, [], ◌∷◌, ◌++◌, map, Option, Some, None, Result, Ok, Err, ◌⊎◌, T, length, get_or, take}
use Rattle.mathematics.specs.Lists.{All, sum_over, some_holds}
use Rattle.mathematics.specs.Graph.{is_path}
use Rattle.mathematics.specs.Cover.{Item, Weighted, total, total_weight, paths}
use Rattle.mathematics.specs.Range.{OneOf}
use Rattle.mathematics.specs.Links.{AtEnds, passes, opens, path_of}
use Rattle.forms.specs.Bytes.{tabulate}
use Rattle.forms.specs.GraphForm.{vertex_count}
use Rattle.forms.specs.GraphOf.{graph_of}
use Rattle.forms.specs.GraphReads.{Reads}
use Rattle.reads.specs.ReadTable.{Leaves, row_length}
use Rattle.forms.specs.AnswerFaults.{list_before}
use Rattle.paths.specs.declared.collect.Path.{Path}
use Rattle.paths.specs.declared.collect.Paths.{Paths}
use Rattle.network.specs.Network.{nth, sum_to, leaving, entering, Chained, most_nodes, most_edges}
use Rattle.paths.specs.Slots.{prepared_of, plain_slots, all_slots, opening_slot, closing_slot, reading_slot, link_at, in_use, edge_from, edge_to}

-- a row that holds no path
abbrev pub no_path : Path
no_path = record { weight = 0; size = 0; row = [] }

-- the vertices of a collected path, and the path with its weight
abbrev pub vertices_of : Path → List ℕ
vertices_of p = take p.size p.row

abbrev pub weighted_of : Path → Weighted
weighted_of p = record { weight = p.weight; path = vertices_of p }

-- what stands in row i of the table of collected paths, its path, and the path with its weight
abbrev pub path_at : Paths → ℕ → Path
path_at table i = get_or table.rows i no_path

abbrev pub path_in_row : Paths → ℕ → List ℕ
path_in_row table i = vertices_of (path_at table i)

abbrev pub collected_at : Paths → ℕ → Weighted
collected_at table i = weighted_of (path_at table i)

-- the weighted paths in the first count rows
unfoldable pub collected : Paths → List Weighted
collected table = tabulate (collected_at table) table.count 0

-- "Paths strictly ascend as lists of numbers"
abbrev pub Ascend : List Weighted → Type 0
Ascend [] = Unit {0}
Ascend (w ∷ []) = Unit {0}
Ascend (w ∷ x ∷ more) = T (list_before w.path x.path) × Ascend (x ∷ more)

-- a row, as long as one of the table of reads, of which the first len numbers are in use
pub record RowFits (row : List ℕ) (len : ℕ) : Type 0 where
  pub wide : length row ≡ row_length
  pub fit : len ≤ row_length

-- The table has a row for each edge that there can be, since each path that is taken off empties an edge; and the paths in its first count rows
-- strictly ascend.
pub record PathTable (table : Paths) : Type 0 where
  pub counted : table.count ≤ most_edges
  pub tall : length table.rows ≡ most_edges
  pub wide : (k : ℕ) → k < table.count → length (path_at table k).row ≡ row_length
  pub fit : (k : ℕ) → k < table.count → (path_at table k).size ≤ row_length
  pub ascends : (k : ℕ) → k + 1 < table.count → T (list_before (path_in_row table k) (path_in_row table (k + 1)))

-- the path p belongs into row i
pub record Belongs (table : Paths) (p : List ℕ) (i : ℕ) : Type 0 where
  pub within : i ≤ table.count
  pub before : 1 ≤ i → T (list_before (path_in_row table (i - 1)) p)
  pub after : i < table.count → T (list_before p (path_in_row table i))

-- where the path p stands in the table, or belongs
abbrev pub Spotted : Paths → List ℕ → Result ℕ ℕ → Type 0
Spotted table p (Ok i) = (i < table.count) × (p ≡ path_in_row table i)
Spotted table p (Err i) = Belongs table p i

-- the weighted path w is added to the list: as a new one, or to the weight of the same path
pub data Inserted (w : Weighted) (W after : List Weighted) : Type 0 where
  fresh : (a b : List Weighted) → W ≡ a ++ b → after ≡ a ++ (w ∷ b) → Inserted w W after
  added : (a b : List Weighted) (n : ℕ) → W ≡ a ++ (record { weight = n; path = w.path } ∷ b) →
      after ≡ a ++ (record { weight = n + w.weight; path = w.path } ∷ b) → Inserted w W after

-- the table holds the weighted path w besides those that it held before
pub record Collected (w : Weighted) (before after : Paths) : Type 0 where
  pub table : PathTable after
  pub inserted : Inserted w (collected before) (collected after)
  pub few : after.count ≤ before.count + 1

-- what writing a walk's path asks: the number of vertices, the number of the first read's edge, and the table of the prepared reads
pub record ReadsHeld (s : List ℕ) (vertices plain : ℕ) (rows : List (List ℕ)) (lens : List ℕ) : Type 0 where
  pub vertices_right : vertices ≡ vertex_count s
  pub few_vertices : 2 * vertices + 1 ≤ most_nodes
  pub plain_right : plain ≡ plain_slots s
  pub table : Leaves rows lens (length (prepared_of s)) (prepared_of s)

-- the vertices vs stand in the row behind its first r numbers, which are those of before
pub record Written (before : List ℕ) (r : ℕ) (vs row : List ℕ) (end : ℕ) : Type 0 where
  pub wide : length row ≡ row_length
  pub end_right : end ≡ r + length vs
  pub stand : take end row ≡ take r before ++ vs

-- Loads on the links of the form s that go round: as much comes into each node as goes out, and only links in use carry something.
pub record GoesRound (s : List ℕ) (N : ℕ) (from to load : List ℕ) : Type 0 where
  pub from_right : (e : ℕ) → e < all_slots s → nth from e ≡ edge_from s e
  pub to_right : (e : ℕ) → e < all_slots s → nth to e ≡ edge_to s e
  pub links_in_use : (e : ℕ) → e < all_slots s → 1 ≤ nth load e → T (in_use s (link_at s e))
  pub balance : (u : ℕ) → u < N → leaving from load (all_slots s) u ≡ entering to load (all_slots s) u

-- the worth of the loads on the first E edges, of which each has a value
abbrev pub worth_to : ℕ → List ℕ → (ℕ → ℕ) → ℕ
worth_to E load value = sum_to E (λ e. nth load e * value e)

-- the worth of the loads on all links of the form s
abbrev pub worth_of : List ℕ → List ℕ → (ℕ → ℕ) → ℕ
worth_of s load value = worth_to (all_slots s) load value

-- Loads that go round, of a bare network: a loaded edge joins nodes, rises or leads back to the root, and as much comes into each node as goes out.
pub record Circles (N E : ℕ) (from to load : List ℕ) : Type 0 where
  pub from_node : (e : ℕ) → e < E → 1 ≤ nth load e → nth from e < N
  pub to_node : (e : ℕ) → e < E → 1 ≤ nth load e → nth to e < N
  pub rises : (e : ℕ) → e < E → 1 ≤ nth load e → ((nth to e ≡ 0) × (1 ≤ nth from e)) ⊎ (nth from e < nth to e)
  pub balance : (u : ℕ) → u < N → leaving from load E u ≡ entering to load E u

-- the number plus 1, and 0 where there is none
abbrev pub plus_one : Option ℕ → ℕ
plus_one None = 0
plus_one (Some e) = e + 1

-- r is the number plus 1 of a loaded edge that leaves u, or 0 where there is none
pub record NextLoaded (E : ℕ) (from load : List ℕ) (u r : ℕ) : Type 0 where
  pub none : r ≡ 0 → (e : ℕ) → e < E → nth from e ≡ u → nth load e ≡ 0
  pub some : (e : ℕ) → r ≡ e + 1 → (e < E) × (nth from e ≡ u) × (1 ≤ nth load e)

-- no edge of u from the number r on is loaded: so that loaded edge is the first in u's chain, in which the numbers fall
abbrev pub FirstInChain : ℕ → List ℕ → List ℕ → ℕ → ℕ → Type 0
FirstInChain E from load u r = (e : ℕ) → e < E → nth from e ≡ u → r ≤ e → nth load e ≡ 0

-- the search down the chain of u has come to h: no edge of u from h on is loaded
pub record Looking (E : ℕ) (from load : List ℕ) (u h : ℕ) : Type 0 where
  pub below : h ≤ E
  pub key : (f : ℕ) → h ≡ f + 1 → nth from f ≡ u
  pub passed : (e : ℕ) → e < E → nth from e ≡ u → h ≤ e → nth load e ≡ 0

-- for each node, where the search down its chain goes on
abbrev pub Onward : ℕ → ℕ → List ℕ → List ℕ → List ℕ → Type 0
Onward N E from load places = (u : ℕ) → u < N → Looking E from load u (nth places u)

-- the edges lead from the node u back to the root, and the nodes rise on the way
abbrev pub Winds : List ℕ → List ℕ → ℕ → List ℕ → Type 0
Winds from to u [] = ⊥
Winds from to u (e ∷ es) = (nth from e ≡ u) × (((nth to e ≡ 0) × (es ≡ [])) ⊎ ((u < nth to e) × Winds from to (nth to e) es))

-- A walk from the root back to it, along the edges ws: amount is the least load on them.
pub record Walked (E : ℕ) (from to load ws : List ℕ) (amount : ℕ) : Type 0 where
  pub winds : Winds from to 0 ws
  pub carries : All (λ e. (e < E) × (amount ≤ nth load e)) ws
  pub some : 1 ≤ amount
  pub empties : (e : ℕ) × OneOf ws e × (nth load e ≡ amount)

-- the loads after each edge of the way has lost the amount: whatever the edges are worth
pub record TakenOff (E : ℕ) (load : List ℕ) (ws : List ℕ) (amount : ℕ) (after : List ℕ) : Type 0 where
  pub long : length after ≡ most_edges
  pub worths : (g : ℕ → ℕ) → worth_to E load g ≡ worth_to E after g + amount * sum_over g ws

-- The weighted paths W carry the loads, and nothing else: what theorem 6 of the mathematics asks of a decomposition.
pub record Peeled (s : List ℕ) (load : List ℕ) (W : List Weighted) : Type 0 where
  pub are_paths : All (λ w. T (is_path (graph_of s) w.path)) W
  pub weights : All (λ w. 1 ≤ w.weight) W
  pub ascend : Ascend W
  pub totals : (i : Item) → total i W ≡ worth_of s load (λ e. passes i (link_at s e))
  pub copies : total_weight W ≡ worth_of s load (λ e. opens (link_at s e))
  pub at_ends : All (λ w. AtEnds (λ v. 1 ≤ nth load (opening_slot s v)) (λ v. 1 ≤ nth load (closing_slot s v)) w.path) W
  pub held : (r : ℕ) → r < length (prepared_of s) → T (some_holds (paths W) (get_or (prepared_of s) r []))
  pub few : length W ≤ all_slots s

-- What taking paths off asks of its arrays: a form that reads, its edges chained by where they come from, the table of its prepared reads.
pub record Ready (s : List ℕ) (vertices plain nodes edges : ℕ) (from head next : List ℕ) (rows : List (List ℕ)) (lens : List ℕ) : Type 0 where
  pub reads : Reads s
  pub held : ReadsHeld s vertices plain rows lens
  pub nodes_right : nodes ≡ 2 * vertex_count s + 1
  pub edges_right : edges ≡ all_slots s
  pub chained : Chained nodes edges from head next

-- how many of the first E edges carry something
abbrev pub loaded_in : ℕ → List ℕ → ℕ
loaded_in E load = sum_to E (λ e. min 1 (nth load e))

-- what the edges open: as many copies as they carry
abbrev pub opens_at : List ℕ → ℕ → ℕ
opens_at s e = opens (link_at s e)

-- One walk is taken off: its edges, the amount, the loads after it and the table of collected paths, which was as `before`.
pub record PeeledOne (s from to load after : List ℕ) (before table : Paths) : Type 0 where
  pub ws : List ℕ
  pub amount : ℕ
  pub winds : Winds from to 0 ws
  pub carries : All (λ e. (e < all_slots s) × (amount ≤ nth load e)) ws
  pub some : 1 ≤ amount
  pub empties : (e : ℕ) × OneOf ws e × (nth load e ≡ amount)
  pub taken : TakenOff (all_slots s) load ws amount after
  pub kept : Collected (record { weight = amount; path = path_of (map (link_at s) ws) }) before table

-- Part of the loads is taken off, as the weighted paths of the table; load is what is left.
pub record Peeling (s from to first load : List ℕ) (table : Paths) : Type 0 where
  pub long : length load ≡ most_edges
  pub goes : GoesRound s (2 * vertex_count s + 1) from to load
  pub below : (e : ℕ) → e < all_slots s → nth load e ≤ nth first e
  pub are_paths : All (λ w. T (is_path (graph_of s) w.path)) (collected table)
  pub weights : All (λ w. 1 ≤ w.weight) (collected table)
  pub at_ends : All (λ w. AtEnds (λ v. 1 ≤ nth first (opening_slot s v)) (λ v. 1 ≤ nth first (closing_slot s v)) w.path) (collected table)
  pub totals : (i : Item) → total i (collected table) + worth_of s load (λ e. passes i (link_at s e)) ≡ worth_of s first (λ e. passes i (link_at s e))
  pub copies : total_weight (collected table) + worth_of s load (opens_at s) ≡ worth_of s first (opens_at s)
  pub held : (r : ℕ) → r < length (prepared_of s) → (1 ≤ nth load (reading_slot s r)) ⊎ T (some_holds (paths (collected table)) (get_or (prepared_of s) r []))
  pub few : table.count + loaded_in (all_slots s) load ≤ all_slots s
