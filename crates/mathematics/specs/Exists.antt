-- Document 01: "A cover exists exactly when each vertex and arc of positive demand, and each read, lies on some path from a start to an end."
use Rattle.std.specs.Prelude.{ℕ, ◌≤◌, List, T}
use Rattle.mathematics.specs.Lists.{All, holds}
use Rattle.mathematics.specs.Graph.{Graph, is_path}
use Rattle.mathematics.specs.Cover.{Item, through, asks}

module _ {E : Type 0} where
  -- the item lies on some path
  abbrev pub ItemOnPath : Graph E → Item → Type 0
  ItemOnPath G i = (p : List ℕ) × T (is_path G p) × (1 ≤ through i p)

  -- the read lies on some path
  abbrev pub ReadOnPath : Graph E → List ℕ → Type 0
  ReadOnPath G r = (p : List ℕ) × T (is_path G p) × T (holds p r)

  pub record Coverable (G : Graph E) : Type 0 where
    pub items_lie : All (λ a. 1 ≤ a.demand → ItemOnPath G a.item) (asks G)
    pub reads_lie : All (ReadOnPath G) G.reads
