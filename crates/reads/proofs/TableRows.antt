-- The table of reads and the list of reads that it stands for: a row's read, stores into a row and its length, and the tests of dropping, read row by row.
use Rattle.std.proofs.Common.{ℕ, zero, suc, ◌+◌, ◌≤◌, ◌<◌, min, ◌≡◌, refl, sym, ap, subst, ◌∙◌, List, [], ◌∷◌, Bool, true, false, ◌&&◌, ◌||◌, ltb, length, get_or, take, drop, set, replicate, arith, add-one, length-take, drop_of_length-le, get_or-take, drop-cons, take-take, get_or-set_same, get_or-set_other}
use Rattle.std.proofs.Math.Decide.{dec_lt}
use Rattle.std.proofs.Math.ListN.{length-replicate}
use Rattle.mathematics.specs.Lists.{All, holds, some_holds}
use Rattle.mathematics.specs.Prepare.{some_longer}
use Rattle.mathematics.proofs.Basics.{at_all}
use Rattle.reads.specs.ReadTable.{row_at, used, rows_of, ReadHolds, RowHolds, TableHolds, Leaves, held_from, longer_from, gone, table_rows, row_length, TableSized}

used_length : (rows : List (List ℕ)) (lens : List ℕ) → length (used rows lens) ≡ min (length rows) (length lens)
used_length [] lens = omega arith
used_length (r ∷ rows) [] = omega arith
used_length (r ∷ rows) (n ∷ lens) = omega (arith, used_length rows lens)

used_get : (rows : List (List ℕ)) (lens : List ℕ) (i : ℕ) → i < length rows → i < length lens → get_or (used rows lens) i [] ≡ take (get_or lens i 0) (get_or rows i [])
used_get [] lens i l m = absurd (omega arith)
used_get (r ∷ rows) [] i l m = absurd (omega arith)
used_get (r ∷ rows) (n ∷ lens) zero l m = refl
used_get (r ∷ rows) (n ∷ lens) (suc i) l m = used_get rows lens i (omega arith) (omega arith)

-- a store into a row and its length is a store into the reads
pub used_set : (rows : List (List ℕ)) (lens : List ℕ) (i : ℕ) (r : List ℕ) (n : ℕ) →
    used (set rows i r) (set lens i n) ≡ set (used rows lens) i (take n r)
used_set [] lens i r n = refl
used_set (s ∷ rows) [] zero r n = refl
used_set (s ∷ rows) [] (suc i) r n = refl
used_set (s ∷ rows) (m ∷ lens) zero r n = refl
used_set (s ∷ rows) (m ∷ lens) (suc i) r n = ap {B = List (List ℕ)} (λ q. take m s ∷ q) (used_set rows lens i r n)

module _ (rows : List (List ℕ)) (lens : List ℕ) (tall : length rows ≡ table_rows) (sized : length lens ≡ table_rows) where
  -- the table has all its rows
  pub used_rows : length (used rows lens) ≡ table_rows
  used_rows = omega (arith, used_length rows lens)

  -- the used part of a row is its read
  pub used_row : (i : ℕ) → i < table_rows → get_or (used rows lens) i [] ≡ row_at rows lens i
  unfolding row_at
  used_row i l = used_get rows lens i (omega arith) (omega arith)

  rows_length : (count : ℕ) → count ≤ table_rows → length (rows_of rows lens count) ≡ count
  unfolding rows_of
  rows_length count l = omega (arith, length-take count (used rows lens), used_rows)

  rows_get : (count i : ℕ) → count ≤ table_rows → i < count → get_or (rows_of rows lens count) i [] ≡ row_at rows lens i
  unfolding rows_of
  rows_get count i l m = get_or-take count (used rows lens) i [] m ∙ used_row i (omega arith)

  -- the reads from the j-th on: the read in row j, and those behind it
  rows_from : (count j : ℕ) → count ≤ table_rows → j < count → drop j (rows_of rows lens count) ≡ row_at rows lens j ∷ drop (j + 1) (rows_of rows lens count)
  rows_from count j l m =
      rw (add-one j) (drop-cons (rows_of rows lens count) j [] (omega (arith, rows_length count l)) ∙ ap (λ (r : List ℕ). r ∷ drop (suc j) (rows_of rows lens count)) (rows_get count j l m))

module _ (rows : List (List ℕ)) (lens : List ℕ) (count : ℕ) (t : TableHolds rows lens count) where
  -- a table of count reads stands for count reads
  pub table_length : length (rows_of rows lens count) ≡ count
  table_length = rows_length rows lens t.tall t.sized count t.counted

  -- the i-th read is the read in row i
  pub table_get : (i : ℕ) → i < count → get_or (rows_of rows lens count) i [] ≡ row_at rows lens i
  table_get i l = rows_get rows lens t.tall t.sized count i t.counted l

  -- the reads from the j-th on are the read in row j and those behind it
  pub table_from : (j : ℕ) → j < count → drop j (rows_of rows lens count) ≡ row_at rows lens j ∷ drop (j + 1) (rows_of rows lens count)
  table_from j l = rows_from rows lens t.tall t.sized count j t.counted l

  row_wide : (i : ℕ) → i < count → length (get_or rows i []) ≡ row_length
  row_wide i l = at_all (λ (r : List ℕ). length r ≡ row_length) [] rows t.wide i (omega (arith, t.tall, t.counted))

  row_long : (i : ℕ) → i < count → length (row_at rows lens i) ≡ get_or lens i 0
  unfolding row_at
  row_long i l = omega (arith, row_wide i l, length-take (get_or lens i 0) (get_or rows i []), t.fit i l)

  -- each of the first rows holds a read
  pub table_row : (i : ℕ) → i < count → RowHolds rows lens i
  table_row i l =
      record {
        inside = omega (arith, t.counted);
        fit = t.fit i l;
        wide = row_wide i l;
        long = row_long i l;
        read = subst ReadHolds (table_get i l) (at_all ReadHolds [] (rows_of rows lens count) t.reads i (omega (arith, table_length)));
      }

module _ (rows : List (List ℕ)) (lens : List ℕ) (i j : ℕ) where
  -- the lower rows from j on: row j, or those behind it
  pub earlier_here : (t : TableHolds rows lens (i + 1)) → j < i → (outer inner : List ℕ) → outer ≡ row_at rows lens j → inner ≡ row_at rows lens i →
      (part : Bool) → part ≡ holds outer inner → held_from rows lens i j ≡ part || held_from rows lens i (j + 1)
  unfolding held_from
  earlier_here t l outer inner a b part e =
      rw (e, a, b)
      (ap (λ (rs : List (List ℕ)). some_holds rs (row_at rows lens i)) (rows_from rows lens t.tall t.sized i j (omega (arith, t.counted)) l))

  -- no lower row is left
  pub earlier_end : (t : TableHolds rows lens (i + 1)) → i ≤ j → false ≡ held_from rows lens i j
  unfolding held_from
  earlier_end t l =
      sym (ap (λ (rs : List (List ℕ)). some_holds rs (row_at rows lens i))
      (drop_of_length-le (rows_of rows lens i) {i = j} (omega (arith, rows_length rows lens t.tall t.sized i (omega (arith, t.counted))))))

module _ (rows : List (List ℕ)) (lens : List ℕ) (count i j : ℕ) (t : TableHolds rows lens count) where
  -- the higher rows from j on: row j, or those behind it
  pub later_here : j < count → (outer inner : List ℕ) → outer ≡ row_at rows lens j → inner ≡ row_at rows lens i →
      (longer : Bool) → longer ≡ ltb (length inner) (length outer) && holds outer inner → longer_from rows lens count i j ≡ longer || longer_from rows lens count i (j + 1)
  unfolding longer_from
  later_here l outer inner a b longer e =
      rw (e, a, b) (ap (λ (rs : List (List ℕ)). some_longer rs (row_at rows lens i)) (table_from rows lens count t j l))

  -- no higher row is left
  pub later_end : count ≤ j → false ≡ longer_from rows lens count i j
  unfolding longer_from
  later_end l =
      sym (ap (λ (rs : List (List ℕ)). some_longer rs (row_at rows lens i)) (drop_of_length-le (rows_of rows lens count) {i = j} (omega (arith, table_length rows lens count t))))

-- a test that is one test or the rest: where that one holds, and where it does not
pub or_found : (b rest t u : Bool) → t ≡ u → u ≡ b || rest → b ≡ true → true ≡ t
or_found b rest t u p q e = sym (p ∙ (q ∙ ap (λ (x : Bool). x || rest) e))

-- where the first test fails, the rest decides
pub or_rest : (b rest t u : Bool) → t ≡ u → u ≡ b || rest → b ≡ false → t ≡ rest
or_rest b rest t u p q e = p ∙ (q ∙ ap (λ (x : Bool). x || rest) e)

pub all_take : {A : Type 0} (P : A → Type 0) (k : ℕ) (xs : List A) → All P xs → All P (take k xs)
all_take P zero xs h = tt
all_take P (suc k) [] h = tt
all_take P (suc k) (x ∷ xs) h = (h.0, all_take P k xs h.1)

-- the first reads of a table are a table
pub table_fewer : (rows : List (List ℕ)) (lens : List ℕ) (count k : ℕ) → TableHolds rows lens count → k ≤ count → TableHolds rows lens k
unfolding rows_of
table_fewer rows lens count k t l =
    record {
      counted = omega (arith, t.counted);
      tall = t.tall;
      wide = t.wide;
      sized = t.sized;
      fit = λ i m. t.fit i (omega arith);
      reads = subst (All ReadHolds) (take-take k count (used rows lens) l) (all_take ReadHolds k (rows_of rows lens count) t.reads);
    }

-- a read is dropped for a read in a lower row that holds it, and else for a longer one in a higher row
pub gone_where : (rows : List (List ℕ)) (lens : List ℕ) (count i : ℕ) → gone rows lens count i ≡ held_from rows lens i 0 || longer_from rows lens count i (i + 1)
unfolding gone
gone_where rows lens count i = refl

-- a list filled from the front with the values of a function, one store a turn
pub fill_turn : (f : ℕ → Bool) (l : List Bool) (i : ℕ) (v : Bool) → i < length l → ((k : ℕ) → k < i → get_or l k false ≡ f k) → v ≡ f i → (k : ℕ) →
    k < i + 1 → get_or (set l i v) k false ≡ f k
fill_turn f l i v h u e k m =
    elim (dec_lt k i) [
      | yes b ↦ get_or-set_other l i k v false (omega arith) ∙ u k b
      | no b ↦ let same : k ≡ i = omega arith in rw same (get_or-set_same l i v false h ∙ e)
    ]

-- the same reads under another name
pub leaves_same : {rows : List (List ℕ)} {lens : List ℕ} {count : ℕ} {rs rs' : List (List ℕ)} → Leaves rows lens count rs → rs ≡ rs' →
    Leaves rows lens count rs'
leaves_same h e = record { table = h.table; reads = h.reads ∙ e }

-- a table as it is made, all 0, has its size
all_replicate : {A : Type 0} (P : A → Type 0) (n : ℕ) (x : A) → P x → All P (replicate n x)
all_replicate P zero x h = tt
all_replicate P (suc n) x h = (h, all_replicate P n x h)

pub blank_table : TableSized (replicate table_rows (replicate row_length 0)) (replicate table_rows 0)
blank_table =
    record {
      tall = length-replicate {A = List ℕ} table_rows (replicate row_length 0);
      wide = all_replicate (λ (r : List ℕ). length r ≡ row_length) table_rows (replicate row_length 0) (length-replicate {A = ℕ} row_length 0);
      sized = length-replicate {A = ℕ} table_rows 0;
    }
