-- The working network as it is laid from a graph form that reads: edges, first loads, live nodes, and what each node has too much or too little of.
-- What the builder's stages hand on cites these; its promise does not.
use Rattle.std.specs.Prelude.{ℕ, ◌+◌, ◌≤◌, ◌<◌, ◌≡◌, List, Bool, cond, ◌⊎◌, Option, Some, None, length, set}
use Rattle.mathematics.specs.Bound.{reads_through}
use Rattle.mathematics.specs.Cover.{vert}
use Rattle.forms.specs.GraphForm.{vertex_count, arc_count}
use Rattle.forms.specs.GraphOf.{arc_item}
use Rattle.network.specs.Network.{nth, live_at, leaving, entering, most_nodes, most_edges}
use Rattle.wiring.specs.declared.Edge.{Edge}
use Rattle.paths.specs.Slots.{prepared_of, live_node, edge_from, edge_to, edge_cost, first_load}

-- the edge that stands where one is used or not
abbrev pub edge_of : Option Edge → Edge
edge_of (Some edge) = edge
edge_of None = record { from = 0; to = 0; cost = 0 }

-- an edge is stored at place e: with its ends and its cost where it is used, and else as a loop of cost 0 at the root
pub record Stored (e : ℕ) (used : Bool) (a b k : ℕ) (from to cost from' to' cost' : List ℕ) : Type 0 where
  pub from_is : from' ≡ set from e (cond used a 0)
  pub to_is : to' ≡ set to e (cond used b 0)
  pub cost_is : cost' ≡ set cost e (cond used k 0)

-- the edges below k are laid
pub record EdgesLaid (s : List ℕ) (k : ℕ) (from to cost : List ℕ) : Type 0 where
  pub from_long : length from ≡ most_edges
  pub to_long : length to ≡ most_edges
  pub cost_long : length cost ≡ most_edges
  pub from_is : (e : ℕ) → e < k → nth from e ≡ edge_from s e
  pub to_is : (e : ℕ) → e < k → nth to e ≡ edge_to s e
  pub cost_is : (e : ℕ) → e < k → nth cost e ≡ edge_cost s e

-- how many of the prepared reads pass each vertex, and each arc
pub record VerticesCounted (s counts : List ℕ) : Type 0 where
  pub each : (v : ℕ) → v < vertex_count s → nth counts v ≡ reads_through (vert v) (prepared_of s)

pub record ArcsCounted (s counts : List ℕ) : Type 0 where
  pub each : (a : ℕ) → a < arc_count s → nth counts a ≡ reads_through (arc_item s a) (prepared_of s)

-- the first loads of the edges below k are laid
pub record LoadsLaid (s : List ℕ) (k : ℕ) (load : List ℕ) : Type 0 where
  pub long : length load ≡ most_edges
  pub is : (e : ℕ) → e < k → nth load e ≡ first_load s e

-- of the nodes below k it is laid whether they are live
pub record LiveLaid (s : List ℕ) (k : ℕ) (live : List Bool) : Type 0 where
  pub long : length live ≡ most_nodes
  pub is : (u : ℕ) → u < k → live_at live u ≡ live_node s u

-- of what enters and what leaves each node below k, the difference stands where there is more of it, and 0 on the other side
pub record Netted (k : ℕ) (into out surplus deficit : List ℕ) : Type 0 where
  pub surplus_long : length surplus ≡ most_nodes
  pub deficit_long : length deficit ≡ most_nodes
  pub balance : (u : ℕ) → u < k → nth surplus u + nth out u ≡ nth deficit u + nth into u
  pub apart : (u : ℕ) → u < k → (nth surplus u ≡ 0) ⊎ (nth deficit u ≡ 0)
  pub surplus_kept : (u : ℕ) → k ≤ u → nth surplus u ≡ nth into u
  pub deficit_kept : (u : ℕ) → k ≤ u → nth deficit u ≡ nth out u

-- What each node has too much of, or too little: with what leaves it a node's surplus is its deficit with what enters it, and one of the two is 0.
pub record Balanced (N E : ℕ) (from to load surplus deficit : List ℕ) : Type 0 where
  pub surplus_long : length surplus ≡ most_nodes
  pub deficit_long : length deficit ≡ most_nodes
  pub balance : (u : ℕ) → u < N → nth surplus u + leaving from load E u ≡ nth deficit u + entering to load E u
  pub apart : (u : ℕ) → u < N → (nth surplus u ≡ 0) ⊎ (nth deficit u ≡ 0)
