-- #112, where safe stretches are looked for: in the paths of one cover of at most the given number of paths, the rows. Every safe stretch stands in a row, so
-- a size for each place of each row tells them all: how many vertices the longest safe stretch has that begins there and runs along the row.
use Rattle.std.specs.Prelude.{ℕ, suc, ◌+◌, ◌-◌, ◌≤◌, ◌<◌, ◌≡◌, List, [], length, get_or, take, drop}
use Rattle.mathematics.specs.Graph.{Graph}
use Rattle.mathematics.specs.Safe.{Safe}

-- m vertices of a row, from place i on
abbrev pub part : List ℕ → ℕ → ℕ → List ℕ
part row i m = take m (drop i row)

-- row number r
abbrev pub row_of : List (List ℕ) → ℕ → List ℕ
row_of C r = get_or C r []

-- p stands in row r, from place i on
pub record StandsAt (C : List (List ℕ)) (p : List ℕ) (r i : ℕ) : Type 0 where
  pub row_there : r < length C
  pub fits : i + length p ≤ length (row_of C r)
  pub is_part : part (row_of C r) i (length p) ≡ p

module _ {E : Type 0} where
  -- m is the size at place i of a row: so many vertices are safe, and one more are not, or are not there
  pub record SizeIs (G : Graph E) (most : ℕ) (row : List ℕ) (i m : ℕ) : Type 0 where
    pub some : 1 ≤ m
    pub fits : i + m ≤ length row
    pub safe : Safe G most (part row i m)
    pub no_more : i + m < length row → Safe G most (part row i (suc m)) → ⊥

  -- the table of sizes, by row and place
  abbrev pub SizesRight : Graph E → ℕ → List (List ℕ) → (ℕ → ℕ → ℕ) → Type 0
  SizesRight G most C size = (r i : ℕ) → r < length C → i < length (row_of C r) → SizeIs G most (row_of C r) i (size r i)

-- p is kept: wherever it stands, no longer safe stretch begins there, and none that is longer begins one vertex before
abbrev pub Kept : List (List ℕ) → (ℕ → ℕ → ℕ) → List ℕ → Type 0
Kept C size p = (r i : ℕ) → StandsAt C p r i → (size r i ≤ length p) × (1 ≤ i → size r (i - 1) ≤ length p)
