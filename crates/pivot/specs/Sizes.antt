-- How many nodes and edges a network can have. The code's constants NODES and EDGES are these numbers; an index that is cut to its range is below them.
use Rattle.std.specs.Prelude.{◌≡◌, ℕ, List, length}

abbrev pub most_nodes : ℕ
most_nodes = 129

abbrev pub most_edges : ℕ
most_edges = 464

-- an array with a number for each node, and one with a number for each edge: all that is said of what the guess leaves behind
pub record PerNode (xs : List ℕ) : Type 0 where
  pub long : length xs ≡ most_nodes

pub record PerEdge (xs : List ℕ) : Type 0 where
  pub long : length xs ≡ most_edges
