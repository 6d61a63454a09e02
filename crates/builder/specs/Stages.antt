-- What the stages of a build hand on: the prepared reads in their table with the counts of what they pass, and the arrays that the flow starts from. Private
-- functions cite these; no public promise does.
use Rattle.std.specs.Prelude.{ℕ, ◌+◌, ◌*◌, ◌≤◌, ◌<◌, ◌≡◌, List, Bool, cond, eqb, ◌≢◌, length, set}
use Rattle.mathematics.specs.Exists.{Coverable}
use Rattle.mathematics.specs.Reach.{useful}
use Rattle.forms.specs.GraphForm.{vertex_count}
use Rattle.forms.specs.GraphOf.{graph_of}
use Rattle.forms.specs.GraphReads.{Reads}
use Rattle.reads.specs.ReadTable.{Leaves}
use Rattle.network.specs.Network.{nth, base, most_nodes, most_edges}
use Rattle.paths.specs.Slots.{prepared_of, all_slots}
use Rattle.reach.specs.Reached.{Tells}
use Rattle.wiring.specs.Lay.{VerticesCounted, ArcsCounted, EdgesLaid, LoadsLaid, LiveLaid, Balanced}

-- the table holds the prepared reads, and the counts say how many of them pass each vertex and each arc
pub record ReadsReady (s : List ℕ) (rows : List (List ℕ)) (lens : List ℕ) (count : ℕ) (vertex_reads arc_reads : List ℕ) : Type 0 where
  pub table : Leaves rows lens count (prepared_of s)
  pub vertices : VerticesCounted s vertex_reads
  pub arcs : ArcsCounted s arc_reads

-- A cover exists, and the useful vertices are marked.
pub record Layable (s : List ℕ) (kept : List Bool) : Type 0 where
  pub reads : Reads s
  pub coverable : Coverable (graph_of s)
  pub marked : Tells s (useful (graph_of s)) kept

-- the whole network of the form s, with its first loads and what has to move
pub record NetworkLaid (s from to cost first : List ℕ) (live : List Bool) (surplus deficit : List ℕ) : Type 0 where
  pub edges : EdgesLaid s (all_slots s) from to cost
  pub loads : LoadsLaid s (all_slots s) first
  pub nodes : LiveLaid s (2 * vertex_count s + 1) live
  pub balance : Balanced (2 * vertex_count s + 1) (all_slots s) from to first surplus deficit

-- every mark is the base
pub record AtBase (mark : List ℕ) : Type 0 where
  pub long : length mark ≡ most_nodes
  pub each : (u : ℕ) → u < most_nodes → nth mark u ≡ base

-- what the flow carries on edge e is dropped where the edge is a loop, and else is added to its first load
pub data OneAdded (e : ℕ) (from to load full load' full' : List ℕ) : Type 0 where
  dropped : nth from e ≡ nth to e → load' ≡ set load e 0 → full' ≡ full → OneAdded e from to load full load' full'
  joined : nth from e ≢ nth to e → load' ≡ load → full' ≡ set full e (nth full e + nth load e) → OneAdded e from to load full load' full'

-- loads are being added to the first ones: those below k are, the others are as they were
pub record Adding (k : ℕ) (from to load first added full : List ℕ) : Type 0 where
  pub added_long : length added ≡ most_edges
  pub full_long : length full ≡ most_edges
  pub added_is : (e : ℕ) → e < k → nth added e ≡ cond (eqb (nth from e) (nth to e)) 0 (nth load e)
  pub full_is : (e : ℕ) → e < k → nth full e ≡ nth first e + nth added e
  pub load_kept : (e : ℕ) → k ≤ e → nth added e ≡ nth load e
  pub full_kept : (e : ℕ) → k ≤ e → nth full e ≡ nth first e
