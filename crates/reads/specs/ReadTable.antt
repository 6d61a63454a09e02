-- Document 01, "The reads of the form fill a table of reads, a row each, lengths beside it": what the table stands for, and what holds of one.
use Rattle.std.specs.Prelude.{ℕ, ◌+◌, ◌≤◌, ◌<◌, ◌≡◌, List, [], ◌∷◌, Option, Some, None, Bool, false, cond, ◌||◌, eqb, length, get_or, take, drop}
use Rattle.mathematics.specs.Lists.{All, some_holds}
use Rattle.mathematics.specs.Prepare.{some_longer, overlap, Meeting, longer, longest_with}
use Rattle.reads.specs.declared.meeting.Meeting.{Meeting as MeetingStruct}

-- the size of the table: so many rows of so many numbers, as the code's arrays have it; no number in it is as high as a row is long
abbrev pub table_rows : ℕ
table_rows = 16

abbrev pub row_length : ℕ
row_length = 64

-- the read in row i
unfoldable pub row_at : List (List ℕ) → List ℕ → ℕ → List ℕ
row_at rows lens i = take (get_or lens i 0) (get_or rows i [])

-- the used part of each row
abbrev pub used : List (List ℕ) → List ℕ → List (List ℕ)
used [] lens = []
used (r ∷ rows) [] = []
used (r ∷ rows) (n ∷ lens) = take n r ∷ used rows lens

-- the reads of a table of count reads
unfoldable pub rows_of : List (List ℕ) → List ℕ → ℕ → List (List ℕ)
rows_of rows lens count = take count (used rows lens)

-- each number is below the next
abbrev pub Climbs : List ℕ → Type 0
Climbs r = (k : ℕ) → k + 1 < length r → get_or r k 0 < get_or r (k + 1) 0

-- a read of the table: not empty, its numbers rise and are below the length of a row
pub record ReadHolds (r : List ℕ) : Type 0 where
  pub some : 1 ≤ length r
  pub climbs : Climbs r
  pub below : All (λ v. v < row_length) r

-- row i holds a read
pub record RowHolds (rows : List (List ℕ)) (lens : List ℕ) (i : ℕ) : Type 0 where
  pub inside : i < table_rows
  pub fit : get_or lens i 0 ≤ row_length
  pub wide : length (get_or rows i []) ≡ row_length
  pub long : length (row_at rows lens i) ≡ get_or lens i 0
  pub read : ReadHolds (row_at rows lens i)

-- the table has its size, whatever it holds
pub record TableSized (rows : List (List ℕ)) (lens : List ℕ) : Type 0 where
  pub tall : length rows ≡ table_rows
  pub wide : All (λ r. length r ≡ row_length) rows
  pub sized : length lens ≡ table_rows

-- the table has its size, and count of its rows hold reads
pub record TableHolds (rows : List (List ℕ)) (lens : List ℕ) (count : ℕ) : Type 0 where
  pub counted : count ≤ table_rows
  pub tall : length rows ≡ table_rows
  pub wide : All (λ r. length r ≡ row_length) rows
  pub sized : length lens ≡ table_rows
  pub fit : (i : ℕ) → i < count → get_or lens i 0 ≤ row_length
  pub reads : All ReadHolds (rows_of rows lens count)

-- the table holds the reads rs, in its first count rows
pub record Leaves (rows : List (List ℕ)) (lens : List ℕ) (count : ℕ) (rs : List (List ℕ)) : Type 0 where
  pub table : TableHolds rows lens count
  pub reads : rows_of rows lens count ≡ rs

-- one of the first i reads, from the j-th on, holds the read in row i
unfoldable pub held_from : List (List ℕ) → List ℕ → ℕ → ℕ → Bool
held_from rows lens i j = some_holds (drop j (rows_of rows lens i)) (row_at rows lens i)

-- one of the count reads, from the j-th on, is longer than the read in row i and holds it
unfoldable pub longer_from : List (List ℕ) → List ℕ → ℕ → ℕ → ℕ → Bool
longer_from rows lens count i j = some_longer (drop j (rows_of rows lens count)) (row_at rows lens i)

-- the read in row i is dropped
unfoldable pub gone : List (List ℕ) → List ℕ → ℕ → ℕ → Bool
gone rows lens count i = held_from rows lens i 0 || longer_from rows lens count i (i + 1)

-- marks of the reads that are dropped
abbrev pub Marks : List (List ℕ) → List ℕ → ℕ → List Bool → Type 0
Marks rows lens count marks = (k : ℕ) → k < count → get_or marks k false ≡ gone rows lens count k

-- the struct's value as the mathematics' pair of reads
abbrev pub meeting : MeetingStruct → Meeting
meeting p = record { shared = p.shared; i = p.i; j = p.j }

-- the best pair so far as the mathematics' pair of reads; none is shared where there is no pair
abbrev pub best_of : Option MeetingStruct → Meeting
best_of (Some p) = meeting p
best_of None = record { shared = 0; i = 0; j = 0 }

-- the better of best and the pair of the rows i and j
unfoldable pub next_at : List (List ℕ) → List ℕ → ℕ → ℕ → Meeting → Meeting
next_at rows lens i j best =
    cond (eqb i j) best (longer best (record { shared = overlap (row_at rows lens i) (row_at rows lens j); i = i; j = j }))

-- the longest with the read in row i, among the count reads from the j-th on, and best
unfoldable pub with_from : List (List ℕ) → List ℕ → ℕ → ℕ → ℕ → Meeting → Meeting
with_from rows lens count i j best = longest_with i (row_at rows lens i) j (drop j (rows_of rows lens count)) best

-- p is where v stands in the rising list r, or would stand
pub record Place (r : List ℕ) (v p : ℕ) : Type 0 where
  pub within : p ≤ length r
  pub before : (k : ℕ) → k < p → get_or r k 0 < v
  pub at : p < length r → v ≤ get_or r p 0
