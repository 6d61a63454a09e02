-- Filling the table of reads with the reads of a form that reads, a row each.
use Rattle.std.proofs.Common.{ℕ, suc, ◌+◌, ◌-◌, ◌<◌, ◌≤◌, arith, add-one, ◌≡◌, sym, ap, ◌∙◌, List, [], ◌∷◌, ◌++◌, append-nil, length, get_or, take, drop, set, length-drop, length-set, take-suc-set, get_or-set_same, get_or-set_other}
use Rattle.std.proofs.Math.Nat.{sub-zero}
use Rattle.std.proofs.Math.Decide.{dec_lt}
use Rattle.std.proofs.lemmas.List.{length-append, length-take-le}
use Rattle.std.proofs.Math.Seq.{take-append_seam, append_snoc}
use Rattle.mathematics.specs.Lists.{All}
use Rattle.mathematics.proofs.Basics.{all_weaken}
use Rattle.mathematics.proofs.Linked.{linked_rising}
use Rattle.forms.specs.Bytes.{part}
use Rattle.forms.specs.GraphForm.{read_count, first_read_at, read_length, read_vertices, read_end, read_vertices_at}
use Rattle.forms.specs.GraphOf.{graph_of, reads_from, arcs_of}
use Rattle.forms.specs.GraphReads.{Reads, ReadRight, ReadsRight}
use Rattle.reads.specs.ReadTable.{rows_of, used, ReadHolds, Leaves, TableSized, table_rows, row_length}
use Rattle.forms.proofs.GraphFacts.{all_reads, read_length_lem, graph_well_formed}
use Rattle.reads.proofs.TableLaws.{rising_climbs}
use Rattle.reads.proofs.TableRows.{used_set, used_rows}
use Rattle.reads.proofs.DropLaws.{all_set}
use Rattle.forms.proofs.LayoutLaws.{read_length_room}

begins_with : (len : ℕ) (copied behind : List ℕ) → length copied ≡ len → take len (copied ++ behind) ≡ copied
begins_with len copied behind e = rw (← e) (take-append_seam copied behind)

-- a row whose first len bytes are copied from s, whatever stands behind them
pub row_filled : (s : List ℕ) (at len : ℕ) (row copied : List ℕ) → at + len ≤ length s → len ≤ length row → copied ≡ take (at + len - at) (drop at s) →
    (take len (copied ++ drop len row) ≡ part s at len) × (length (copied ++ drop len row) ≡ length row)
unfolding part
row_filled s at len row copied h fit e =
    let size : at + len - at ≡ len = omega arith in
    let same : copied ≡ take len (drop at s) = rw size at e in
    let inside : len ≤ length (drop at s) = simp length-drop (omega arith) in
    let long : length copied ≡ len = ap length same ∙ length-take-le len (drop at s) inside in
    (begins_with len copied (drop len row) long ∙ same, omega (arith, length-append copied (drop len row), long, length-drop len row))

-- a read of a form that reads is a read of the table: linked in the graph, so its numbers rise
reads_hold : (s : List ℕ) → Reads s → All ReadHolds (graph_of s).reads
unfolding graph_of
reads_hold s r =
    all_reads s ReadHolds
    (λ at x.
    record {
      some = omega (arith, read_length_lem s at x, x.not_short);
      climbs = rising_climbs (read_vertices s at) (linked_rising _ (arcs_of s) (graph_well_formed s r).rises (read_vertices s at) x.arcs);
      below = all_weaken _ _ (read_vertices s at) (λ v h. omega (arith, r.arcs.header.vertices_room)) x.inside;
    })
    (read_count s) (first_read_at s) r.reads

-- Of count reads the first i are in the table, and those left are read from an offset on.
pub record Loading (s : List ℕ) (rows : List (List ℕ)) (lens : List ℕ) (count at i : ℕ) : Type 0 where
  pub reads : Reads s
  pub few : i ≤ count
  pub counted : count ≡ read_count s
  pub sized : TableSized rows lens
  pub fit : (k : ℕ) → k < i → get_or lens k 0 ≤ row_length
  pub right : ReadsRight s (count - i) at
  pub same : rows_of rows lens i ++ reads_from s (count - i) at ≡ (graph_of s).reads

pub load_begin : {s : List ℕ} {rows : List (List ℕ)} {lens : List ℕ} {count at : ℕ} → Reads s → TableSized rows lens → count ≡ read_count s → at ≡ first_read_at s →
    Loading s rows lens count at 0
unfolding graph_of rows_of
load_begin r z e p =
    record {
      reads = r;
      few = omega arith;
      counted = e;
      sized = z;
      fit = λ k h. absurd (omega arith);
      right = rw (sub-zero, e, p) r.reads;
      same = rw (sub-zero, e, p);
    }

module _ {s : List ℕ} {rows : List (List ℕ)} {lens : List ℕ} {count at i : ℕ} (l : Loading s rows lens count at i) where
  load_left : i < count → count - i ≡ suc (count - (i + 1))
  load_left h = omega arith

  pub load_next : i < count → ReadRight s at
  load_next h = (rw (load_left h) at l.right).0

  module _ (len : ℕ) (row : List ℕ) (h : i < count) (e : len ≡ read_length s at) {from next : ℕ} (begins : from ≡ read_vertices_at s at) (ends : next ≡ read_end s at) (same : take len row ≡ part s from len) (long : length row ≡ row_length) where
    room : i < table_rows
    room = omega (arith, l.counted, l.reads.arcs.header.reads_room)

    fits : (k : ℕ) → k < i + 1 → get_or (set lens i len) k 0 ≤ row_length
    fits k b = go (dec_lt k i)
      where
        go : Dec (k < i) → get_or (set lens i len) k 0 ≤ row_length
        go (yes m) = omega (arith, l.fit k m, get_or-set_other lens i k len 0 (λ q. omega arith))
        go (no m) =
            let q : k ≡ i = omega arith in
            rw (q, get_or-set_same lens i len 0 (omega (arith, l.sized.sized, room))) (omega (arith, (load_next h).not_long, read_length_room s))

    front : rows_of (set rows i row) (set lens i len) (i + 1) ≡ rows_of rows lens i ++ (take len row ∷ [])
    unfolding rows_of
    front =
        let inside : i < length (used rows lens) = omega (arith, room, used_rows rows lens l.sized.tall l.sized.sized) in
        rw (add-one i, used_set rows lens i row len, take-suc-set (used rows lens) i (take len row) inside)

    pub load_turn : Loading s (set rows i row) (set lens i len) count next (i + 1)
    unfolding rows_of
    load_turn =
        record {
          reads = l.reads;
          few = omega arith;
          counted = l.counted;
          sized = record {
            tall = simp length-set l.sized.tall;
            wide = all_set (λ (r : List ℕ). length r ≡ row_length) rows i row l.sized.wide long;
            sized = simp length-set l.sized.sized;
          };
          fit = fits;
          right = rw ends (rw (load_left h) at l.right).1;
          same =
              ap (λ q. q ++ reads_from s (count - (i + 1)) next) front ∙
              (append_snoc (take i (used rows lens)) (take len row) _ ∙ rw (same, begins, e, ends) (rw (load_left h) at l.same));
        }

  pub load_end : count ≤ i → Leaves rows lens count (graph_of s).reads
  load_end h =
      record {
        table = record {
          counted = omega (arith, l.counted, l.reads.arcs.header.reads_room);
          tall = l.sized.tall;
          wide = l.sized.wide;
          sized = l.sized.sized;
          fit = λ k b. l.fit k (omega (arith, l.few));
          reads = rw all (reads_hold s l.reads);
        };
        reads = all;
      }
    where
      all : rows_of rows lens count ≡ (graph_of s).reads
      all =
          let none : count - i ≡ 0 = omega arith in
          let last : i ≡ count = omega (arith, l.few) in
          sym (append-nil (rows_of rows lens count)) ∙ (rw (none, last) at l.same)
