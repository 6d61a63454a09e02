-- Counting the reads of the table: what one read adds at each vertex and arc, and what all of them come to.
use Rattle.std.proofs.Common.{ℕ, zero, suc, ◌+◌, ◌*◌, ◌-◌, ◌<◌, ◌≤◌, add-zero, le_refl, le_of_eq, arith, add-one, ◌≡◌, refl, sym, ap, ◌∙◌, List, [], ◌∷◌, Bool, true, false, ◌&&◌, eqb, length, get_or, take, drop, set, length-set, length-drop, drop_of_length-le, replicate, drop-cons, eqb-true, Some, None}
use Rattle.std.proofs.Math.ListN.{length-replicate}
use Rattle.std.proofs.Math.Seq.{take-length}
use Rattle.std.proofs.lemmas.List.{get_or-take, get_or-drop}
use Rattle.mathematics.specs.Cover.{Item, vert, arc, same_item, one_if, count_of, trail}
use Rattle.mathematics.specs.Bound.{reads_through}
use Rattle.mathematics.proofs.Basics.{all_at, at_all}
use Rattle.mathematics.proofs.Items.{reads_few}
use Rattle.forms.specs.Limits.{room_vertices, room_arcs}
use Rattle.forms.specs.GraphForm.{arc_count, arc_at, arc_tail, arc_head}
use Rattle.forms.specs.GraphOf.{arcs_of, arc_item}
use Rattle.forms.specs.GraphReads.{ArcsRight}
use Rattle.forms.specs.ArcTable.{arc_number}
use Rattle.certify.specs.Growth.{onward, Grown}
use Rattle.reads.specs.ReadTable.{row_at, rows_of, ReadHolds, TableHolds, row_length}
use Rattle.certify.specs.Certify.{CountsLow, ArcPassed, ReadsCounted, most_reads}
use Rattle.certify.proofs.GrowthLaws.{found_arc, only_arc, grow, count_few, trail_onward, length_onward}
use Rattle.forms.proofs.Lookup.{found_iff_goes}
use Rattle.mathematics.specs.Lists.{All}
use Rattle.reads.proofs.TableRows.{table_length, table_get, table_from, table_row}

module _ (s : List ℕ) (right : ArcsRight s) (u v : ℕ) (counts : List ℕ) (long : length counts ≡ room_arcs) where
  -- no arc goes from u to v: no arc is counted
  pub arc_none : None ≡ arc_number (arcs_of s) u v → ArcPassed s u v counts counts
  arc_none e = record { long = long; each = λ a h. sym (ap (λ b. get_or counts a 0 + one_if b) (other a h (same_item (arc_item s a) (arc u v)) refl) ∙ add-zero _) }
    where
      both : (x y : Bool) → (x && y) ≡ true → (x ≡ true) × (y ≡ true)
      both true y q = (refl, q)
      both false y q = let z : ◌≡◌ {A = ℕ} 0 1 = cc in absurd (omega arith)

      other : (a : ℕ) → a < arc_count s → (b : Bool) → same_item (arc_item s a) (arc u v) ≡ b → b ≡ false
      other a h true q =
          let ends = both (eqb (arc_tail s (arc_at s a)) u) (eqb (arc_head s (arc_at s a)) v) q in
          let at : arc_number (arcs_of s) u v ≡ Some a = (found_iff_goes s u v right a).1 (h, eqb-true _ _ ends.0, eqb-true _ _ ends.1) in
          let z : ◌≡◌ {A = ℕ} 0 1 = cc in
          absurd (omega arith)
      other a h false q = refl

  module _ (k : ℕ) (found : Some k ≡ arc_number (arcs_of s) u v) where
    arc_inside : k < arc_count s
    arc_inside = (found_arc s u v right k found).inside

    -- arc k goes from u to v: it alone is counted
    pub arc_one : ArcPassed s u v counts (set counts k (get_or counts k 0 + 1))
    arc_one =
        record {
          long = simp length-set long;
          each =
              λ a h.
              let e = grow counts k 1 a 0 (omega (arith, long, arc_inside, right.header.arcs_room)) in
              let same = ap one_if (only_arc s right u v k a (found_arc s u v right k found) h) in
              omega (arith, e, same);
        }

-- Of the read's vertices those from place k on are left, after u: with what they add, the counts are those of all after the first vertex f.
pub record CountLeft (s row vb va ab aa : List ℕ) (f u k : ℕ) : Type 0 where
  pub sized : (length va ≡ room_vertices) × (length aa ≡ room_arcs) × (u < room_vertices) × (k ≤ length row)
  pub vertices : (x : ℕ) → x < room_vertices → get_or va x 0 + count_of (vert x) (onward u (drop k row)) ≡ get_or vb x 0 + count_of (vert x) (onward f (drop 1 row))
  pub arcs : (a : ℕ) → a < arc_count s → get_or aa a 0 + count_of (arc_item s a) (onward u (drop k row)) ≡ get_or ab a 0 + count_of (arc_item s a) (onward f (drop 1 row))

-- a list that is not empty, by its first number
headed : (row : List ℕ) → 1 ≤ length row → row ≡ get_or row 0 0 ∷ drop 1 row
headed row h = drop-cons row 0 0 h

-- what is left of a read passes an item at most twice for each of its vertices
onward_few : (i : Item) (f : ℕ) (q : List ℕ) → count_of i (onward f q) ≤ 2 * length q
onward_few i f q = omega (arith, count_few i (onward f q), length_onward f q)

pub count_begin : (s row vb ab : List ℕ) (f : ℕ) → length vb ≡ room_vertices → length ab ≡ room_arcs → 1 ≤ length row → f < room_vertices → CountLeft s row vb vb ab ab f f 1
count_begin s row vb ab f lv la some inside = record { sized = (lv, la, inside, some); vertices = λ x h. refl; arcs = λ a h. refl }

-- one turn of the loop over the read's vertices
module _ {s row vb va ab aa : List ℕ} {f u k : ℕ} (c : CountLeft s row vb va ab aa f u k) where
  -- a count has room for one more
  pub arc_room : (a : ℕ) → a < arc_count s → length row ≤ row_length → get_or ab a 0 ≤ most_reads → get_or aa a 0 ≤ 2 * most_reads
  arc_room a h short low = omega (arith, c.arcs a h, onward_few (arc_item s a) f (drop 1 row), length-drop 1 row)

  module _ (v : ℕ) (new : List ℕ) (h : k < length row) (e : v ≡ get_or row k 0) (inside : v < room_vertices) (passed : ArcPassed s u v aa new) where
    left : drop k row ≡ v ∷ drop (k + 1) row
    left = drop-cons row k 0 h ∙ rw (e, add-one k)

    pub count_turn : CountLeft s row vb (set va v (get_or va v 0 + 1)) ab new f v (k + 1)
    count_turn =
        record {
          sized = (simp length-set c.sized.0, passed.long, inside, omega arith);
          vertices =
              λ x b.
              let g = grow va v 1 x (count_of (vert x) (onward v (drop (k + 1) row))) (omega (arith, c.sized)) in
              let t = ap (λ q. count_of (vert x) (onward u q)) left in
              omega (arith, g, t, c.vertices x b);
          arcs =
              λ a b.
              let t = ap (λ q. count_of (arc_item s a) (onward u q)) left in
              omega (arith, t, c.arcs a b, passed.each a b);
        }

one_more : (b : Bool) → one_if b ≤ 1
one_more true = le_refl 1
one_more false = omega arith

pub vertex_room : (vb : List ℕ) {s row va ab aa : List ℕ} {f u k : ℕ} → CountLeft s row (set vb f (get_or vb f 0 + 1)) va ab aa f u k → (x : ℕ) → x < room_vertices → length row ≤ row_length →
    f < length vb → get_or vb x 0 ≤ most_reads → get_or va x 0 ≤ 2 * most_reads
vertex_room vb {s} {row} {va} {ab} {aa} {f} c x h short inside low =
    omega (arith, c.vertices x h, onward_few (vert x) f (drop 1 row), length-drop 1 row, grow vb f 1 x 0 inside, one_more (eqb x f))

-- all are counted, the first vertex before the others
pub count_end : {s row vb va ab aa : List ℕ} {f u k : ℕ} → CountLeft s row (set vb f (get_or vb f 0 + 1)) va ab aa f u k → length row ≤ k → 1 ≤ length row → f ≡ get_or row 0 0 → f < length vb →
    Grown s 1 (trail row) vb va ab aa
count_end {s} {row} {vb} {va} {ab} {aa} {f} {u} {k} c h some e inside =
    record {
      vertices_long = c.sized.0;
      arcs_long = c.sized.1;
      vertices =
          λ x b.
          let t = ap (λ q. count_of (vert x) (onward u q)) none in
          let g = grow vb f 1 x (count_of (vert x) (onward f (drop 1 row))) inside in
          let l = ap (count_of (vert x)) split in
          omega (arith, t, g, l, c.vertices x b);
      arcs =
          λ a b.
          let t = ap (λ q. count_of (arc_item s a) (onward u q)) none in
          let l = ap (count_of (arc_item s a)) split in
          omega (arith, t, l, c.arcs a b);
    }
  where
    none : drop k row ≡ []
    none = drop_of_length-le row {i = k} h

    split : trail row ≡ vert f ∷ onward f (drop 1 row)
    split = ap trail (headed row some) ∙ (rw e (trail_onward (get_or row 0 0) (drop 1 row)))

-- a number of a read of the table is below the number of vertices
pub number_room : {row : List ℕ} {k v : ℕ} → ReadHolds row → k < length row → v ≡ get_or row k 0 → v < room_vertices
number_room {row} {k} r h e = omega (arith, e, at_all (λ (w : ℕ). w < row_length) 0 row r.below k h)

-- the numbers of a row behind its first: how many they are, and which stands at place j of them
pub behind_length : (row : List ℕ) → length (take (length row - 1) (drop 1 row)) ≡ length row - 1
behind_length row = rw (← length-drop 1 row, take-length)

pub behind_first : (row : List ℕ) (j : ℕ) → j < length (take (length row - 1) (drop 1 row)) → (get_or (take (length row - 1) (drop 1 row)) j 0 ≡ get_or row (j + 1) 0) × (j + 1 < length row)
behind_first row j h =
    let inside : j < length row - 1 = omega (arith, behind_length row) in
    let place : 1 + j ≡ j + 1 = omega arith in
    (get_or-take (length row - 1) (drop 1 row) j 0 inside ∙ (get_or-drop 1 row j 0 ∙ ap (λ k. get_or row k 0) place), omega arith)

-- Of the table's reads those from row i on are left: with what they add, the counts are those of all.
pub record ReadsLeft (s : List ℕ) (rs : List (List ℕ)) (vr ar : List ℕ) (i : ℕ) : Type 0 where
  pub vertices_long : length vr ≡ room_vertices
  pub arcs_long : length ar ≡ room_arcs
  pub vertices : (x : ℕ) → x < room_vertices → get_or vr x 0 + reads_through (vert x) (drop i rs) ≡ reads_through (vert x) rs
  pub arcs : (a : ℕ) → a < arc_count s → get_or ar a 0 + reads_through (arc_item s a) (drop i rs) ≡ reads_through (arc_item s a) rs

pub reads_begin : {s vr ar : List ℕ} (rs : List (List ℕ)) → CountsLow s vr ar 0 → ReadsLeft s rs vr ar 0
reads_begin rs low =
    record {
      vertices_long = low.vertices_long;
      arcs_long = low.arcs_long;
      vertices = λ x h. omega (arith, low.vertices x h);
      arcs = λ a h. omega (arith, low.arcs a h);
    }

module _ {s vr ar : List ℕ} {rows : List (List ℕ)} {lens : List ℕ} {count i : ℕ} (t : TableHolds rows lens count) (left : ReadsLeft s (rows_of rows lens count) vr ar i) where
  short : All (λ r. length r ≤ row_length) (rows_of rows lens count)
  short =
      all_at (λ (r : List ℕ). length r ≤ row_length) [] (rows_of rows lens count)
      (λ k h.
      let inside : k < count = omega (arith, table_length rows lens count t) in
      let row = table_row rows lens count t k inside in
      omega (arith, ap length (table_get rows lens count t k inside), row.long, row.fit))

  few : (j : Item) → reads_through j (rows_of rows lens count) ≤ most_reads
  few j = omega (arith, reads_few row_length j (rows_of rows lens count) short, table_length rows lens count t, t.counted)

  pub reads_low : CountsLow s vr ar most_reads
  reads_low =
      record {
        vertices_long = left.vertices_long;
        arcs_long = left.arcs_long;
        vertices = λ x h. omega (arith, left.vertices x h, few (vert x));
        arcs = λ a h. omega (arith, left.arcs a h, few (arc_item s a));
      }

  pub reads_turn : {va aa : List ℕ} → i < count → Grown s 1 (trail (row_at rows lens i)) vr va ar aa → ReadsLeft s (rows_of rows lens count) va aa (i + 1)
  reads_turn h g =
      record {
        vertices_long = g.vertices_long;
        arcs_long = g.arcs_long;
        vertices = λ x b. omega (arith, left.vertices x b, g.vertices x b, ap (reads_through (vert x)) (table_from rows lens count t i h));
        arcs = λ a b. omega (arith, left.arcs a b, g.arcs a b, ap (reads_through (arc_item s a)) (table_from rows lens count t i h));
      }

  pub reads_end : ArcsRight s → count ≤ i → ReadsCounted s (rows_of rows lens count) vr ar
  reads_end right h =
      record {
        vertices = λ x b. omega (arith, left.vertices x (omega (arith, right.header.vertices_room)), ap (reads_through (vert x)) none);
        arcs = λ a b. omega (arith, left.arcs a b, ap (reads_through (arc_item s a)) none);
        vertices_low = λ x b. reads_low.vertices x (omega (arith, right.header.vertices_room));
        arcs_low = λ a b. reads_low.arcs a b;
      }
    where
      none : drop i (rows_of rows lens count) ≡ []
      none = drop_of_length-le (rows_of rows lens count) {i = i} (omega (arith, table_length rows lens count t))

-- an array as it is made holds one value everywhere
pub same_at : {A : Type 0} (a : A) (n k : ℕ) → get_or (replicate n a) k a ≡ a
same_at a zero k = refl
same_at a (suc n) zero = refl
same_at a (suc n) (suc k) = same_at a n k

-- counts that are 0 everywhere
pub counts_none : {s : List ℕ} → CountsLow s (replicate room_vertices 0) (replicate room_arcs 0) 0
counts_none =
    record {
      vertices_long = length-replicate {A = ℕ} room_vertices 0;
      arcs_long = length-replicate {A = ℕ} room_arcs 0;
      vertices = λ v h. le_of_eq (same_at {A = ℕ} 0 room_vertices v);
      arcs = λ a h. le_of_eq (same_at {A = ℕ} 0 room_arcs a);
    }
