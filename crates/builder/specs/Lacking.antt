-- Document 01, number 8, its place: "first item that asks for something (positive demand, or a read) and lies on no start-to-end path".
use Rattle.std.specs.Prelude.{ℕ, ◌+◌, ◌≤◌, ◌<◌, ◌≡◌, [], ℤ, length, get_or}
use Rattle.mathematics.specs.Graph.{Graph}
use Rattle.mathematics.specs.Cover.{asks}
use Rattle.mathematics.specs.Exists.{ItemOnPath, ReadOnPath}
use Rattle.forms.specs.BuildFaults.{no_ask}

-- item q asks for nothing or lies on a path; "Item" counts vertices, then arcs, then reads, which always ask
pub record Lies (G : Graph ℤ) (q : ℕ) : Type 0 where
  pub item : q < length (asks G) → 1 ≤ (get_or (asks G) q no_ask).demand → ItemOnPath G (get_or (asks G) q no_ask).item
  pub read : (j : ℕ) → q ≡ length (asks G) + j → j < length G.reads → ReadOnPath G (get_or G.reads j [])

-- p is the first item that does not
pub record FirstLacking (G : Graph ℤ) (p : ℕ) : Type 0 where
  pub inside : p < length (asks G) + length G.reads
  pub lacks : Lies G p → ⊥
  pub before : (q : ℕ) → q < p → Lies G q
