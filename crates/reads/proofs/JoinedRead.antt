-- The joined read of the pair with the longest overlap is a read again: it rises, so it is no longer than there are vertices; and the table's join is `join_at`.
use Rattle.std.proofs.Common.{ℕ, suc, ◌+◌, ◌≤◌, ◌<◌, min, max, ◌≡◌, sym, ap, ap₂, subst, ◌∙◌, List, [], ◌∷◌, ◌++◌, append_assoc, inl, inr, length, take, drop, set, get_or, slice_range, arith, length-append}
use Rattle.std.proofs.Math.Seq.{drop-append_seam}
use Rattle.std.proofs.lemmas.List.{take_rest}
use Rattle.mathematics.specs.Lists.{All}
use Rattle.mathematics.specs.Prepare.{overlap, Meeting, longest, without, join_at}
use Rattle.mathematics.proofs.Basics.{all_weaken, all_append, all_left, all_right}
use Rattle.mathematics.proofs.Parts.{Rising}
use Rattle.mathematics.proofs.Overlap.{overlap_meets}
use Rattle.mathematics.proofs.Longest.{Meets, longest_meets}
use Rattle.reads.specs.ReadTable.{row_at, rows_of, ReadHolds, TableHolds, row_length}
use Rattle.reads.proofs.TableLaws.{climbs_rising, rising_climbs}
use Rattle.reads.proofs.TableRows.{table_length, table_get, table_row}
use Rattle.reads.proofs.JoinLaws.{put_table, put_reads}

rising_size : (r : List ℕ) (low top : ℕ) → low ≤ top → Rising r → All (λ (v : ℕ). low ≤ v) r → All (λ (v : ℕ). v < top) r → low + length r ≤ top
rising_size [] low top l h a b = omega arith
rising_size (v ∷ r) low top l h a b = omega (arith, rising_size r (suc v) top b.0 h.1 h.0 b.1, a.0)

-- a read has at most as many numbers as there are vertices
read_size : (r : List ℕ) → ReadHolds r → length r ≤ row_length
read_size r h =
    omega (arith, rising_size r 0 row_length (omega arith) (climbs_rising r h.climbs) (all_weaken (λ (v : ℕ). v < row_length) (λ (v : ℕ). 0 ≤ v) r (λ v l. omega arith) h.below) h.below)

above_join : (v : ℕ) (x o y : List ℕ) → 1 ≤ length o → All (λ (w : ℕ). v < w) (x ++ o) → Rising (o ++ y) → All (λ (w : ℕ). v < w) (x ++ (o ++ y))
above_join v x [] y l a h = absurd (omega arith)
above_join v x (u ∷ o) y l a h =
    let high : v < u = (all_right (λ (w : ℕ). v < w) x (u ∷ o) a).0 in
    all_append (λ (w : ℕ). v < w) x (u ∷ o ++ y) (all_left (λ (w : ℕ). v < w) x (u ∷ o) a)
    (high, all_weaken (λ (w : ℕ). u < w) (λ (w : ℕ). v < w) (o ++ y) (λ w m. omega arith) h.0)

rising_join : (x o y : List ℕ) → 1 ≤ length o → Rising (x ++ o) → Rising (o ++ y) → Rising (x ++ (o ++ y))
rising_join [] o y l g h = h
rising_join (v ∷ x) o y l g h = (above_join v x o y l g.0 h, rising_join x o y l g.1 h)

holds_join : (x o y : List ℕ) → 1 ≤ length o → ReadHolds (x ++ o) → ReadHolds (o ++ y) → ReadHolds (x ++ (o ++ y))
holds_join x o y l g h =
    record {
      some = omega (arith, length-append x (o ++ y), length-append o y);
      climbs = rising_climbs (x ++ (o ++ y)) (rising_join x o y l (climbs_rising (x ++ o) g.climbs) (climbs_rising (o ++ y) h.climbs));
      below = all_append (λ (v : ℕ). v < row_length) x (o ++ y) (all_left (λ (v : ℕ). v < row_length) x o g.below) h.below;
    }

read_join : (a b : List ℕ) → ReadHolds a → ReadHolds b → 1 ≤ overlap a b → ReadHolds (a ++ drop (overlap a b) b)
read_join a b g h l =
    let m = overlap_meets a b l in
    let behind : drop (overlap a b) b ≡ m.y = ap₂ drop (sym m.size) m.begin ∙ drop-append_seam m.o m.y in
    subst ReadHolds (sym (ap₂ ◌++◌ m.ends behind ∙ append_assoc m.x m.o m.y))
    (holds_join m.x m.o m.y (omega (arith, m.size)) (subst ReadHolds m.ends g) (subst ReadHolds m.begin h))

overlap_less : (a b : List ℕ) → 1 ≤ overlap a b → overlap a b ≤ length b
overlap_less a b l =
    let m = overlap_meets a b l in
    omega (arith, m.size, ap length m.begin ∙ length-append m.o m.y)

-- two rows of the table that can be joined
pub record Joins (rows : List (List ℕ)) (lens : List ℕ) (count : ℕ) (m : Meeting) : Type 0 where
  pub i_below : m.i < count
  pub j_below : m.j < count
  pub part : m.shared ≤ length (row_at rows lens m.j)
  pub read : ReadHolds (row_at rows lens m.i ++ drop m.shared (row_at rows lens m.j))

module _ (rows : List (List ℕ)) (lens : List ℕ) (count : ℕ) (t : TableHolds rows lens count) (m : Meeting) where
  joins_at : m.i < count → m.j < count → m.shared ≡ overlap (row_at rows lens m.i) (row_at rows lens m.j) → 1 ≤ m.shared →
      Joins rows lens count m
  joins_at li lj e l =
      let a = row_at rows lens m.i in
      let b = row_at rows lens m.j in
      let gi = table_row rows lens count t m.i li in
      let gj = table_row rows lens count t m.j lj in
      let some : 1 ≤ overlap a b = omega (arith, e) in
      record { i_below = li; j_below = lj; part = omega (arith, e, overlap_less a b some); read = rw e (read_join a b gi.read gj.read some) }

  -- the pair with the longest overlap can be joined
  pub longest_joins : m ≡ longest (rows_of rows lens count) → 1 ≤ m.shared → Joins rows lens count m
  longest_joins e l =
      elim (longest_meets (rows_of rows lens count)) [
        | inl z ↦ absurd (omega (arith, ap {B = ℕ} (λ (q : Meeting). q.shared) e, z))
        | inr h ↦
            let g : Meets (rows_of rows lens count) m = subst (Meets (rows_of rows lens count)) (sym e) h in
            let li : m.i < count = omega (arith, g.i_below, table_length rows lens count t) in
            let lj : m.j < count = omega (arith, g.j_below, table_length rows lens count t) in
            joins_at li lj
            (g.size ∙ ap₂ overlap (table_get rows lens count t m.i li) (table_get rows lens count t m.j lj)) l
      ]

  -- the two reads, and what of the second is behind their overlap, as the code takes it
  module _ (f : Joins rows lens count m) (a b : List ℕ) (ea : a ≡ row_at rows lens m.i) (eb : b ≡ row_at rows lens m.j) where
    abbrev rest : List ℕ
    rest = slice_range b m.shared (length b)

    join_read : a ++ rest ≡ row_at rows lens m.i ++ drop m.shared (row_at rows lens m.j)
    join_read = ap₂ ◌++◌ ea (take_rest b m.shared ∙ ap (drop m.shared) eb)

    join_holds : ReadHolds (a ++ rest)
    join_holds = subst ReadHolds (sym join_read) f.read

    -- the joined read fits a row
    pub join_room : length a + length rest ≤ row_length
    join_room = omega (arith, read_size (a ++ rest) join_holds, length-append a rest)

    -- "Replace both by the joined read, in the lower of the two places."
    module _ (low : ℕ) (row : List ℕ) (el : low ≡ min m.i m.j) (wide : length row ≡ row_length) (e : take (length a + length rest) row ≡ a ++ rest) where
      -- the joined read in its row
      pub join_table : TableHolds (set rows low row) (set lens low (length a + length rest)) count
      join_table =
          put_table rows lens count low row (length a + length rest) t (omega (arith, f.i_below)) wide join_room (subst ReadHolds (sym e) join_holds)

      -- without the other row
      pub join_lower : (high : ℕ) → high ≡ max m.i m.j →
          without high (rows_of (set rows low row) (set lens low (length a + length rest)) count) ≡ join_at m (rows_of rows lens count)
      unfolding join_at
      join_lower high eh =
          let read : take (length a + length rest) row ≡ get_or (rows_of rows lens count) m.i [] ++ drop m.shared (get_or (rows_of rows lens count) m.j []) =
          e ∙ (join_read ∙ sym (ap₂ (λ (x y : List ℕ). x ++ drop m.shared y) (table_get rows lens count t m.i f.i_below) (table_get rows lens count t m.j f.j_below)))
          in
          ap (without high) (put_reads rows lens count low row (length a + length rest) t (omega (arith, f.i_below)) ∙ ap (set (rows_of rows lens count) low) read)
          ∙ ap₂ (λ (h k : ℕ). without h (set (rows_of rows lens count) k (get_or (rows_of rows lens count) m.i [] ++ drop m.shared (get_or (rows_of rows lens count) m.j [])))) eh el
