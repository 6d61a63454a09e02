-- Joining two reads in the table: the joined read is put into its row, and the row that is taken out is closed up.
use Rattle.std.proofs.Common.{ℕ, zero, suc, ◌+◌, ◌-◌, ◌≤◌, ◌<◌, ◌≡◌, refl, sym, ap, ap₂, subst, ◌∙◌, List, [], ◌∷◌, ◌++◌, length, get_or, take, drop, set, arith, add-one, length-set, length-append, length-take, length-drop, take-take, get_or-set_same, get_or-set_other}
use Rattle.std.proofs.Math.Decide.{dec_lt, ℕ_discrete}
use Rattle.std.proofs.Math.Seq.{take-set-lt, take-nil}
use Rattle.std.proofs.lemmas.List.{drop-take}
use Rattle.std.proofs.lemmas.List.Edits.{take-paste, length-paste}
use Rattle.std.specs.List.{copy_within, CopiedTo, SameBelow}
use Rattle.mathematics.specs.Lists.{All}
use Rattle.mathematics.specs.Prepare.{without}
use Rattle.mathematics.proofs.Basics.{all_append}
use Rattle.reads.specs.ReadTable.{used, rows_of, ReadHolds, TableHolds, Leaves, row_length}
use Rattle.reads.proofs.TableRows.{used_set, used_rows, all_take}
use Rattle.reads.proofs.DropLaws.{all_set}

module _ {A : Type 0} where
  without_parts : (gap : ℕ) (xs : List A) → without gap xs ≡ take gap xs ++ drop (suc gap) xs
  without_parts gap [] = sym (ap₂ {A = List A} ◌++◌ (take-nil gap) refl)
  without_parts zero (x ∷ xs) = refl
  without_parts (suc gap) (x ∷ xs) = ap {B = List A} (λ q. x ∷ q) (without_parts gap xs)

  all_without : (P : A → Type 0) (gap : ℕ) (xs : List A) → All P xs → All P (without gap xs)
  all_without P gap [] h = tt
  all_without P zero (x ∷ xs) h = h.1
  all_without P (suc gap) (x ∷ xs) h = (h.0, all_without P gap xs h.1)

  all_drop : (P : A → Type 0) (k : ℕ) (xs : List A) → All P xs → All P (drop k xs)
  all_drop P zero xs h = h
  all_drop P (suc k) [] h = tt
  all_drop P (suc k) (x ∷ xs) h = all_drop P k xs h.1

  all_copy : (P : A → Type 0) (i j k : ℕ) (xs : List A) → All P xs → All P (copy_within xs i j k)
  all_copy P i j k xs h =
      all_append P (take k xs ++ take (j - i) (drop i xs)) (drop (k + (j - i)) xs)
      (all_append P (take k xs) (take (j - i) (drop i xs)) (all_take P k xs h) (all_take P (j - i) (drop i xs) (all_drop P i xs h)))
      (all_drop P (k + (j - i)) xs h)

used_append : (rows more : List (List ℕ)) (lens rest : List ℕ) → length rows ≡ length lens → used (rows ++ more) (lens ++ rest) ≡ used rows lens ++ used more rest
used_append [] more [] rest e = refl
used_append [] more (n ∷ lens) rest e = cc
used_append (r ∷ rows) more [] rest e = cc
used_append (r ∷ rows) more (n ∷ lens) rest e = ap {B = List (List ℕ)} (λ q. take n r ∷ q) (used_append rows more lens rest (omega arith))

used_take : (k : ℕ) (rows : List (List ℕ)) (lens : List ℕ) → used (take k rows) (take k lens) ≡ take k (used rows lens)
used_take zero rows lens = refl
used_take (suc k) [] lens = refl
used_take (suc k) (r ∷ rows) [] = refl
used_take (suc k) (r ∷ rows) (n ∷ lens) = ap {B = List (List ℕ)} (λ q. take n r ∷ q) (used_take k rows lens)

used_none : (rows : List (List ℕ)) → used rows [] ≡ []
used_none [] = refl
used_none (r ∷ rows) = refl

used_drop : (k : ℕ) (rows : List (List ℕ)) (lens : List ℕ) → used (drop k rows) (drop k lens) ≡ drop k (used rows lens)
used_drop zero rows lens = refl
used_drop (suc k) [] lens = refl
used_drop (suc k) (r ∷ rows) [] = used_none (drop k rows)
used_drop (suc k) (r ∷ rows) (n ∷ lens) = used_drop k rows lens

same_length : (k : ℕ) (rows : List (List ℕ)) (lens : List ℕ) → length rows ≡ length lens → length (take k rows) ≡ length (take k lens)
same_length k rows lens e = omega (arith, length-take k rows, length-take k lens)

-- the reads of a table whose rows from i up to j were copied to k
used_copy : (rows : List (List ℕ)) (lens : List ℕ) (i j k : ℕ) → length rows ≡ length lens →
    used (copy_within rows i j k) (copy_within lens i j k) ≡ copy_within (used rows lens) i j k
used_copy rows lens i j k e =
    let n : ℕ = j - i in
    let front = same_length k rows lens e in
    let part : length (take n (drop i rows)) ≡ length (take n (drop i lens)) = same_length n (drop i rows) (drop i lens) (omega (arith, length-drop i rows, length-drop i lens)) in
    used_append (take k rows ++ take n (drop i rows)) (drop (k + n) rows) (take k lens ++ take n (drop i lens)) (drop (k + n) lens)
    (omega (arith, length-append (take k rows) (take n (drop i rows)), length-append (take k lens) (take n (drop i lens))))
    ∙ ap₂ ◌++◌
    (used_append (take k rows) (take n (drop i rows)) (take k lens) (take n (drop i lens)) front
    ∙ ap₂ ◌++◌ (used_take k rows lens) (used_take n (drop i rows) (drop i lens) ∙ ap (take n) (used_drop i rows lens)))
    (used_drop (k + n) rows lens)

-- the rows behind the gap were copied to where it was
module _ (rows : List (List ℕ)) (lens : List ℕ) (count gap : ℕ) (t : TableHolds rows lens count) (l : gap < count) where
  gap_reads : rows_of (copy_within rows (gap + 1) count gap) (copy_within lens (gap + 1) count gap) (count - 1) ≡ without gap (rows_of rows lens count)
  unfolding rows_of
  gap_reads =
      let u = used rows lens in
      let m : ℕ = count - (gap + 1) in
      let less : count - 1 ≡ gap + m = omega arith in
      let more : count ≡ gap + 1 + m = omega arith in
      let tall = used_rows rows lens t.tall t.sized in
      ap (take (count - 1)) (used_copy rows lens (gap + 1) count gap (omega (arith, t.tall, t.sized)))
      ∙ (ap (λ (n : ℕ). take n (copy_within u (gap + 1) count gap)) less
      ∙ (take-paste u gap (drop (gap + 1) u) m (omega (arith, tall, t.counted)) (omega (arith, tall, t.counted, length-drop (gap + 1) u))
      ∙ sym
      (without_parts gap (take count u)
      ∙ ap₂ ◌++◌ (take-take gap count u (omega arith)) (ap₂ (λ (i n : ℕ). drop i (take n u)) (sym (add-one gap)) more ∙ drop-take (gap + 1) m u))))

  gap_fit : (lens' : List ℕ) → CopiedTo lens lens' (gap + 1) gap (count - (gap + 1)) → SameBelow lens lens' gap → (i : ℕ) → i < count - 1 →
      get_or lens' i 0 ≤ row_length
  gap_fit lens' moved same i h =
      elim (dec_lt i gap) [
        | yes b ↦ omega (arith, same i 0 b, t.fit i (omega arith))
        | no b ↦ omega (arith, moved i 0 (omega arith) (omega arith), t.fit (gap + 1 + (i - gap)) (omega arith))
      ]

  -- what is left is the table without the gap
  pub gap_closed : (rows' : List (List ℕ)) (lens' : List ℕ) → rows' ≡ copy_within rows (gap + 1) count gap → lens' ≡ copy_within lens (gap + 1) count gap →
      CopiedTo lens lens' (gap + 1) gap (count - (gap + 1)) → SameBelow lens lens' gap →
      Leaves rows' lens' (count - 1) (without gap (rows_of rows lens count))
  gap_closed rows' lens' er el moved same =
      let left : rows_of rows' lens' (count - 1) ≡ without gap (rows_of rows lens count) = rw (er, el) gap_reads in
      record {
        table = record {
          counted = omega (arith, t.counted);
          tall = ap length er ∙ (length-paste rows gap (drop (gap + 1) rows) (count - (gap + 1)) (omega (arith, t.tall, t.counted)) (omega (arith, t.tall, t.counted, length-drop (gap + 1) rows)) ∙ t.tall);
          wide = subst (All (λ (r : List ℕ). length r ≡ row_length)) (sym er) (all_copy (λ (r : List ℕ). length r ≡ row_length) (gap + 1) count gap rows t.wide);
          sized = ap length el ∙ (length-paste lens gap (drop (gap + 1) lens) (count - (gap + 1)) (omega (arith, t.sized, t.counted)) (omega (arith, t.sized, t.counted, length-drop (gap + 1) lens)) ∙ t.sized);
          fit = gap_fit lens' moved same;
          reads = subst (All ReadHolds) (sym left) (all_without ReadHolds gap (rows_of rows lens count) t.reads);
        };
        reads = left;
      }

-- a store of a read into a row of the table
module _ (rows : List (List ℕ)) (lens : List ℕ) (count low : ℕ) (row : List ℕ) (size : ℕ) (t : TableHolds rows lens count) (l : low < count) where
  -- the reads after the store
  pub put_reads : rows_of (set rows low row) (set lens low size) count ≡ set (rows_of rows lens count) low (take size row)
  unfolding rows_of
  put_reads = ap (take count) (used_set rows lens low row size) ∙ take-set-lt count (used rows lens) low (take size row) l

  put_fit : size ≤ row_length → (m : ℕ) → m < count → get_or (set lens low size) m 0 ≤ row_length
  put_fit s m h =
      elim (ℕ_discrete m low) [
        | yes e ↦ rw e (omega (arith, get_or-set_same lens low size 0 (omega (arith, t.sized, t.counted))))
        | no n ↦ omega (arith, get_or-set_other lens low m size 0 n, t.fit m h)
      ]

  -- and they are a table of reads
  pub put_table : length row ≡ row_length → size ≤ row_length → ReadHolds (take size row) → TableHolds (set rows low row) (set lens low size) count
  put_table w s r =
      record {
        counted = t.counted;
        tall = length-set rows low row ∙ t.tall;
        wide = all_set (λ (q : List ℕ). length q ≡ row_length) rows low row t.wide w;
        sized = length-set lens low size ∙ t.sized;
        fit = put_fit s;
        reads = subst (All ReadHolds) (sym put_reads) (all_set ReadHolds (rows_of rows lens count) low (take size row) t.reads r);
      }
