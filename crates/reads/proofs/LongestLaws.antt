-- The search for the longest overlap, row by row, finds what `longest` of the table's reads is.
use Rattle.std.proofs.Common.{ℕ, ◌+◌, ◌≤◌, ◌<◌, ◌≡◌, refl, sym, ap, ap₂, ◌∙◌, List, drop, arith, add-one, eq-eqb, ne_eqb, lt-ltb, le-ltb, drop_of_length-le}
use Rattle.mathematics.specs.Prepare.{overlap, Meeting, longest_with, longest_from, longest}
use Rattle.reads.specs.ReadTable.{row_at, rows_of, TableHolds, next_at, with_from}
use Rattle.reads.proofs.TableRows.{table_from, table_length}

-- the longest with a read from row i on, and best
pub all_from : List (List ℕ) → List ℕ → ℕ → ℕ → Meeting → Meeting
all_from rows lens count i best = longest_from i (rows_of rows lens count) (drop i (rows_of rows lens count)) best

module _ (rows : List (List ℕ)) (lens : List ℕ) (i j : ℕ) (best : Meeting) where
  -- a read is not paired with itself
  pub next_same : i ≡ j → best ≡ next_at rows lens i j best
  unfolding next_at
  next_same e = sym (simp (eq-eqb i j e))

  module _ (d : i ≡ j → ⊥) (a b : List ℕ) (ea : a ≡ row_at rows lens i) (eb : b ≡ row_at rows lens j) where
    -- a longer overlap is the better one
    pub next_longer : (n : ℕ) → n ≡ overlap a b → best.shared < n → record { shared = n; i = i; j = j } ≡ next_at rows lens i j best
    unfolding next_at
    next_longer n e l = sym (simp (ne_eqb i j d, sym ea, sym eb, sym e, lt-ltb best.shared n l))

    -- an overlap that is not longer leaves the best so far
    pub next_kept : overlap a b ≤ best.shared → best ≡ next_at rows lens i j best
    unfolding next_at
    next_kept l = sym (simp (ne_eqb i j d, sym ea, sym eb, le-ltb best.shared (overlap a b) l))

module _ (rows : List (List ℕ)) (lens : List ℕ) (count i : ℕ) (t : TableHolds rows lens count) where
  -- one row as the second of the pair is looked at
  pub with_turn : (j : ℕ) (best next m : Meeting) → m ≡ with_from rows lens count i j best → j < count → next ≡ next_at rows lens i j best →
      m ≡ with_from rows lens count i (j + 1) next
  unfolding with_from next_at
  with_turn j best next m p l e =
      p ∙ (ap (λ (rs : List (List ℕ)). longest_with i (row_at rows lens i) j rs best) (table_from rows lens count t j l)
      ∙ ap₂ (λ (k : ℕ) (b : Meeting). longest_with i (row_at rows lens i) k (drop (j + 1) (rows_of rows lens count)) b) (sym (add-one j)) (sym e))

  -- no second row is left
  pub with_end : (j : ℕ) (best : Meeting) → count ≤ j → with_from rows lens count i j best ≡ best
  unfolding with_from
  with_end j best l =
      ap (λ (rs : List (List ℕ)). longest_with i (row_at rows lens i) j rs best)
      (drop_of_length-le (rows_of rows lens count) {i = j} (omega (arith, table_length rows lens count t)))

  -- one row as the first of the pair is looked at
  pub all_turn : (best next m : Meeting) → m ≡ all_from rows lens count i best → i < count → next ≡ with_from rows lens count i 0 best →
      m ≡ all_from rows lens count (i + 1) next
  unfolding with_from all_from
  all_turn best next m p l e =
      p ∙ (ap (λ (rs : List (List ℕ)). longest_from i (rows_of rows lens count) rs best) (table_from rows lens count t i l)
      ∙ ap₂ (λ (k : ℕ) (b : Meeting). longest_from k (rows_of rows lens count) (drop (i + 1) (rows_of rows lens count)) b) (sym (add-one i)) (sym e))

  -- no first row is left
  pub all_end : (best : Meeting) → count ≤ i → all_from rows lens count i best ≡ best
  unfolding all_from
  all_end best l =
      ap (λ (rs : List (List ℕ)). longest_from i (rows_of rows lens count) rs best)
      (drop_of_length-le (rows_of rows lens count) {i = i} (omega (arith, table_length rows lens count t)))

-- the search begins with length 0
pub all_start : (rows : List (List ℕ)) (lens : List ℕ) (count : ℕ) →
    longest (rows_of rows lens count) ≡ all_from rows lens count 0 (record { shared = 0; i = 0; j = 0 })
unfolding longest all_from
all_start rows lens count = refl
