-- Reading the path records of an answer: the verdict on one record, and the laws of the loop over all of them, with what is tallied.
use Rattle.std.proofs.Common.{ℕ, zero, suc, ◌+◌, ◌-◌, ◌*◌, ◌<◌, ◌≤◌, zero-add, add-zero, add_assoc, zero-mul, suc-mul, mul-le-mul_left, arith, ◌≡◌, refl, sym, ap, ◌∙◌, List, [], ◌∷◌, Bool, true, false, cond, not, ◌&&◌, ◌||◌, eqb, length, get_or, take, drop, replicate, pos, ◌+ℤ◌, lt-ltb, le-ltb, eq-eqb, ne_eqb}
use mathlib.Core.Bool.{or_assoc}
use lib.ListN.{length-replicate}
use lib.IntN.{+ℤ_assoc, +ℤ_idl, +ℤ_idr}
use borrow.Author.Tests.{not-true, not-false}
use Rattle.std.proofs.lemmas.Bool.Decides.{nat_tests}
use Rattle.mathematics.specs.Price.{whole, times}
use Rattle.mathematics.specs.Lists.{some_holds}
use Rattle.mathematics.specs.Graph.{is_path}
use Rattle.mathematics.specs.Cover.{Item, vert, Weighted, count_of, trail, arc_costs, total, paths, price}
use Rattle.forms.specs.AnswerFaults.{list_before, path_fault, paths_verdict}
use Rattle.forms.specs.AnswerForm.{path_count, first_path_at, path_vertices_at, path_weight, path_length, path_vertices, path_end, path_of, paths_from, cover_of}
use Rattle.forms.specs.Bytes.{part}
use Rattle.forms.specs.GraphFaults.{all_below, refusal, nothing_refused, or_else}
use Rattle.forms.specs.GraphForm.{vertex_count, arc_count, read_count, opening_price}
use Rattle.forms.specs.GraphOf.{graph_of, arcs_of, arc_item}
use Rattle.forms.specs.GraphReads.{Reads}
use Rattle.forms.specs.Layout.{max_weight}
use Rattle.forms.specs.Limits.{room_vertices, room_arcs, room_reads, max_opening, max_cost}
use Rattle.tally.specs.Tally.{read_of, ReadsMet, TotalsFit, PathWalked}
use Rattle.checker.specs.Tallies.{path_head_fault, PathHead, Recorded, PathRead, NothingTallied, PathsRead}
use Rattle.forms.proofs.LayoutLaws.{bytes_few}
use Rattle.forms.proofs.PartLaws.{part_length}
use Rattle.certify.proofs.CertifyLawsCount.{same_at}
use Rattle.tally.proofs.PathWalkLaws.{path_length_room, weight_low, through_few}

-- the head of a record lies within the answer, and its weight fits a number
module _ {s t : List ℕ} {at copies : ℕ} (head : PathHead s t at copies) where
  pub head_within : at + 6 ≤ length t
  head_within = omega (arith, head, bytes_few s)

  pub head_room : path_length s t at ≤ room_vertices
  head_room = omega (arith, head.short, path_length_room s)

  pub head_low : copies + path_weight t at < 4294967296
  head_low = omega (arith, head.few_copies, weight_low s)

-- one record: its head, whether it is a path of the graph, whether it comes after the path before
module _ (s t : List ℕ) (at : ℕ) (before : List ℕ) (copies : ℕ) where
  -- the test that walking along the vertices is
  abbrev right_path : Bool
  right_path = all_below (vertex_count s) (path_vertices s t at) && is_path (graph_of s) (path_vertices s t at)

  fault_split : path_fault s t at before copies ≡ cond (eqb (path_head_fault s t at copies) 0) (cond (not right_path) 16 (cond (list_before before (path_vertices s t at)) 0 18)) (path_head_fault s t at copies)
  unfolding path_fault path_head_fault
  fault_split = grind (arith, nat_tests)

  pub fault_head : (fault : ℕ) → fault ≡ path_head_fault s t at copies → (fault ≡ 0 → ⊥) → fault ≡ path_fault s t at before copies
  fault_head fault e wrong = e ∙ sym (fault_split ∙ simp (ne_eqb (path_head_fault s t at copies) 0 (λ z. wrong (e ∙ z))))

  -- what reading a record gives, where it is refused and where it is not
  pub record_refused : {vb va ab aa : List ℕ} {mb ma : List Bool} {fault : ℕ} → fault ≡ path_fault s t at before copies → (fault ≡ 0 → ⊥) → PathRead s t at before copies vb va ab aa mb ma fault 0
  record_refused e wrong = record { is_fault = e; tallied = λ z. absurd (wrong z) }

  module _ (head : PathHead s t at copies) (headed : 0 ≡ path_head_fault s t at copies) {w : ℕ} (weighs : w ≡ path_weight t at) {p : List ℕ} (same : p ≡ path_vertices s t at) {vb va ab aa : List ℕ} {ok : Bool} {cost : ℕ} (walked : PathWalked s p w vb va ab aa ok cost) where
    pub record_no_path : {mb ma : List Bool} → ok ≡ false → PathRead s t at before copies vb va ab aa mb ma 16 0
    record_no_path e = record_refused (sym (fault_split ∙ simp (eq-eqb _ _ (sym headed), rw same at (sym walked.is_right ∙ e)))) (λ z. omega arith)

    module _ (is_a_path : ok ≡ true) where
      walks : right_path ≡ true
      walks = rw same at (sym walked.is_right ∙ is_a_path)

      module _ {o : Bool} (ordered : o ≡ not (list_before before p)) where
        order : o ≡ not (list_before before (path_vertices s t at))
        order = rw same at ordered

        pub record_no_order : {mb ma : List Bool} → o ≡ true → PathRead s t at before copies vb va ab aa mb ma 18 0
        record_no_order e = record_refused (sym (fault_split ∙ simp (eq-eqb _ _ (sym headed), walks, not-true _ (sym order ∙ e)))) (λ z. omega arith)

        pub record_right : {mb ma : List Bool} → o ≡ false → ReadsMet s p mb ma → PathRead s t at before copies vb va ab aa mb ma 0 cost
        record_right e marked =
            record {
              is_fault = sym (fault_split ∙ simp (eq-eqb _ _ (sym headed), walks, not-false _ (sym order ∙ e)));
              tallied =
                  λ z.
                  record {
                    head = head;
                    grown = rw (same, weighs) at (walked.grown is_a_path);
                    marked = rw same at marked;
                    costs = rw same at (walked.costs is_a_path);
                    low_cost = walked.low_cost is_a_path;
                  };
            }

-- the bytes between the places where the vertices of a path begin and end are those vertices
pub path_slice : (s t : List ℕ) (at : ℕ) {a b : ℕ} → a ≡ path_vertices_at s at → b ≡ path_end s t at → take (b - a) (drop a t) ≡ path_vertices s t at
unfolding part
path_slice s t at e f =
    let long : path_end s t at - path_vertices_at s at ≡ path_length s t at = omega arith in
    rw (e, f, long)

pub path_slice_long : {s t : List ℕ} {at copies : ℕ} → PathHead s t at copies → {a b : ℕ} → a ≡ path_vertices_at s at → b ≡ path_end s t at → length (take (b - a) (drop a t)) ≡ path_length s t at
path_slice_long {s} {t} {at} head e f = ap length (path_slice s t at e f) ∙ part_length t (path_vertices_at s at) (path_length s t at) head.whole

pub room_for : {s vb ab : List ℕ} {w : ℕ} → TotalsFit s vb ab 0 (2 * room_vertices) → w ≤ max_weight s → TotalsFit s vb ab w (2 * room_vertices)
room_for room h =
    record {
      low_weight = h;
      vertices_long = room.vertices_long;
      arcs_long = room.arcs_long;
      vertices_low = room.vertices_low;
      arcs_low = room.arcs_low;
    }

-- the price of one copy at the most
abbrev pub most_price : ℕ
most_price = max_opening + max_cost * room_vertices

-- The records before at are tallied. With what the records from at on add, the tallies are those of all, and these records decide.
pub record PathsLeft (s t vl al : List ℕ) (met : List Bool) (before : List ℕ) (copies cost left at : ℕ) : Type 0 where
  pub within : (at ≤ length t) × (copies ≤ max_weight s) × (cost ≤ copies * most_price)
  pub long : (length vl ≡ room_vertices) × (length al ≡ room_arcs) × (length met ≡ room_reads)
  pub decide : paths_verdict s t (path_count t) (first_path_at s) [] 0 nothing_refused ≡ paths_verdict s t left at before copies nothing_refused
  pub vertices : (v : ℕ) → v < room_vertices → get_or vl v 0 + total (vert v) (paths_from s t left at) ≡ total (vert v) (cover_of s t)
  pub vertices_low : (v : ℕ) → v < room_vertices → get_or vl v 0 ≤ 2 * room_vertices * copies
  pub arcs : (k : ℕ) → k < arc_count s → get_or al k 0 + total (arc_item s k) (paths_from s t left at) ≡ total (arc_item s k) (cover_of s t)
  pub arcs_low : (k : ℕ) → k < arc_count s → get_or al k 0 ≤ 2 * room_vertices * copies
  pub reads : (r : ℕ) → r < read_count s → (get_or met r false || some_holds (paths (paths_from s t left at)) (read_of s r)) ≡ some_holds (paths (cover_of s t)) (read_of s r)
  pub costs : pos cost +ℤ price whole (graph_of s) (paths_from s t left at) ≡ price whole (graph_of s) (cover_of s t)

pub paths_begin : {s t vl al : List ℕ} {met : List Bool} {copies cost left at : ℕ} → Reads s → first_path_at s ≤ length t → NothingTallied vl al met × (copies ≡ 0) × (cost ≡ 0) → left ≡ path_count t → at ≡ first_path_at s → PathsLeft s t vl al met [] copies cost left at
unfolding cover_of
paths_begin {s} {t} {vl} {al} {met} {copies} {cost} {left} {at} reads fits (none, no_copies, no_cost) e f =
    record {
      within = omega arith;
      long = (none.vertices_long, none.arcs_long, none.reads_long);
      decide = rw (e, f, no_copies);
      vertices = λ v l. rw (none.vertices v, e, f, zero-add);
      vertices_low = λ v l. omega (arith, none.vertices v);
      arcs = λ k l. rw (none.arcs k, e, f, zero-add);
      arcs_low = λ k l. omega (arith, none.arcs k);
      reads = λ r l. rw (none.reads r, e, f);
      costs = rw (e, f, no_cost) (+ℤ_idl _);
    }

-- one copy's price, weight times
times_pos : (w c : ℕ) → times whole w (pos c) ≡ pos (w * c)
times_pos zero c = ap pos (sym (zero-mul c))
times_pos (suc w) c =
    let e : c + w * c ≡ suc w * c = omega (arith, suc-mul w c) in
    ap (λ x. pos c +ℤ x) (times_pos w c) ∙ ap pos e

-- the price of one path more
price_step : (s t : List ℕ) (at cost c : ℕ) (W : List Weighted) → pos c ≡ arc_costs whole (arcs_of s) (path_vertices s t at) → pos (cost + path_weight t at * (opening_price s + c)) +ℤ price whole (graph_of s) W ≡ pos cost +ℤ price whole (graph_of s) (path_of s t at ∷ W)
unfolding graph_of
price_step s t at cost c W e =
    let copy : times whole (path_weight t at) (pos (opening_price s) +ℤ arc_costs whole (arcs_of s) (path_vertices s t at)) ≡ pos (path_weight t at * (opening_price s + c)) = ap (λ x. times whole (path_weight t at) (pos (opening_price s) +ℤ x)) (sym e) ∙ times_pos (path_weight t at) (opening_price s + c) in
    +ℤ_assoc (pos cost) (pos (path_weight t at * (opening_price s + c))) (price whole (graph_of s) W)
    ∙ ap (λ x. pos cost +ℤ (x +ℤ price whole (graph_of s) W)) (sym copy)

paths_split : (s t : List ℕ) (left at : ℕ) → 0 < left → paths_from s t left at ≡ path_of s t at ∷ paths_from s t (left - 1) (path_end s t at)
paths_split s t zero at h = absurd (omega arith)
paths_split s t (suc left) at h =
    let same : suc left - 1 ≡ left = omega arith in
    rw same

verdict_split : (s t : List ℕ) (left at : ℕ) (before : List ℕ) (copies : ℕ) → 0 < left → paths_verdict s t left at before copies nothing_refused ≡ or_else (path_fault s t at before copies) at (paths_verdict s t (left - 1) (path_end s t at) (path_vertices s t at) (copies + path_weight t at) nothing_refused)
unfolding paths_verdict
verdict_split s t zero at before copies h = absurd (omega arith)
verdict_split s t (suc left) at before copies h =
    let same : suc left - 1 ≡ left = omega arith in
    rw same

verdict_remain : (s t : List ℕ) (at : ℕ) (before : List ℕ) (copies : ℕ) → at < length t → paths_verdict s t 0 at before copies nothing_refused ≡ refusal 15 at
unfolding paths_verdict
verdict_remain s t at before copies h = simp (lt-ltb _ _ h)

verdict_end : (s t : List ℕ) (at : ℕ) (before : List ℕ) (copies : ℕ) → length t ≤ at → paths_verdict s t 0 at before copies nothing_refused ≡ nothing_refused
unfolding paths_verdict
verdict_end s t at before copies h = simp (le-ltb _ _ h)

or_none : (x : Bool) → (x || false) ≡ x
or_none true = refl
or_none false = refl

module _ {s t vl al : List ℕ} {met : List Bool} {before : List ℕ} {copies cost left at : ℕ} (inv : PathsLeft s t vl al met before copies cost left at) where
  pub paths_room : TotalsFit s vl al 0 (2 * room_vertices)
  paths_room =
      record {
        low_weight = omega arith;
        vertices_long = inv.long.0;
        arcs_long = inv.long.1;
        vertices_low = λ v l. omega (arith, inv.vertices_low v l, inv.within.1);
        arcs_low = λ k l. omega (arith, inv.arcs_low k l, inv.within.1);
      }

  -- a record that is refused decides
  pub paths_stop : {va aa : List ℕ} {ma : List Bool} {fault told : ℕ} → 0 < left → fault ≡ path_fault s t at before copies → (fault ≡ 0 → ⊥) → PathsRead s t va aa ma fault at told
  paths_stop {fault = fault} more e wrong =
      record {
        verdict =
            rw e
            (sym
            (inv.decide ∙ verdict_split s t left at before copies more
            ∙ simp (ne_eqb (path_fault s t at before copies) 0 (λ z. wrong (e ∙ z)))));
        tallied = λ z. absurd (wrong z);
      }

  module _ (over : left ≤ 0) where
    none : left ≡ 0
    none = omega arith

    -- bytes remain
    pub paths_remain : at < length t → PathsRead s t vl al met 15 at cost
    paths_remain h =
        record {
          verdict = sym (inv.decide ∙ rw none (verdict_remain s t at before copies h));
          tallied = λ z. absurd (omega arith);
        }

    -- nothing is refused
    pub paths_end : length t ≤ at → Reads s → PathsRead s t vl al met 0 0 cost
    paths_end h reads =
        record {
          verdict = sym (inv.decide ∙ rw none (verdict_end s t at before copies h));
          tallied =
              λ z.
              record {
                vertices = λ v l. rw (none, add-zero) at (inv.vertices v (omega (arith, reads.arcs.header.vertices_room)));
                arcs = λ k l. rw (none, add-zero) at (inv.arcs k l);
                reads = λ r l. sym (or_none (get_or met r false)) ∙ (rw none at (inv.reads r l));
                costs = sym (+ℤ_idr (pos cost)) ∙ ap (λ k. pos cost +ℤ price whole (graph_of s) (paths_from s t k at)) (sym none) ∙ inv.costs;
              };
        }

  module _ (more : 0 < left) {va aa : List ℕ} {ma : List Bool} {c : ℕ} (done : Recorded s t at copies vl va al aa met ma c) (right : path_fault s t at before copies ≡ 0) where
    split : paths_from s t left at ≡ path_of s t at ∷ paths_from s t (left - 1) (path_end s t at)
    split = paths_split s t left at more

    few : (i : Item) → path_weight t at * count_of i (trail (path_vertices s t at)) ≤ path_weight t at * (2 * room_vertices)
    few i =
        mul-le-mul_left (path_weight t at)
        (omega (arith, through_few i (path_vertices s t at), part_length t (path_vertices_at s at) (path_length s t at) done.head.whole, done.head.short, path_length_room s))

    -- the price of this path's copies is no more than the most
    pub price_low : (w o : ℕ) → o ≤ max_opening → w * (o + c) ≤ w * most_price
    price_low w o h = mul-le-mul_left w (omega (arith, done.low_cost))

    price_turn : pos (cost + path_weight t at * (opening_price s + c)) +ℤ price whole (graph_of s) (paths_from s t (left - 1) (path_end s t at)) ≡ price whole (graph_of s) (cover_of s t)
    price_turn =
        price_step s t at cost c (paths_from s t (left - 1) (path_end s t at)) done.costs
        ∙ ap (λ W. pos cost +ℤ price whole (graph_of s) W) (sym split)
        ∙ inv.costs

    turned : opening_price s ≤ max_opening → PathsLeft s t va aa ma (path_vertices s t at) (copies + path_weight t at) (cost + path_weight t at * (opening_price s + c)) (left - 1) (path_end s t at)
    turned low =
        record {
          within = omega (arith, done.head, price_low (path_weight t at) (opening_price s) low, inv.within);
          long = (done.grown.vertices_long, done.grown.arcs_long, done.marked.long);
          decide = inv.decide ∙ verdict_split s t left at before copies more ∙ simp (eq-eqb _ _ right);
          vertices = λ v l. ap (λ x. x + total (vert v) (paths_from s t (left - 1) (path_end s t at))) (done.grown.vertices v l) ∙ add_assoc _ _ _ ∙ (rw split at (inv.vertices v l));
          vertices_low = λ v l. omega (arith, done.grown.vertices v l, few (vert v), inv.vertices_low v l);
          arcs = λ k l. ap (λ x. x + total (arc_item s k) (paths_from s t (left - 1) (path_end s t at))) (done.grown.arcs k l) ∙ add_assoc _ _ _ ∙ (rw split at (inv.arcs k l));
          arcs_low = λ k l. omega (arith, done.grown.arcs k l, few (arc_item s k), inv.arcs_low k l);
          reads = λ r l. rw (done.marked.met r l, or_assoc) (rw split at (inv.reads r l));
          costs = price_turn;
        }

    -- the next record, from what the code has read
    pub paths_turn : {w o a b next copies' cost' : ℕ} → (copies' ≡ copies) × (cost' ≡ cost) → w ≡ path_weight t at → o ≡ opening_price s → opening_price s ≤ max_opening → a ≡ path_vertices_at s at → b ≡ path_end s t at → next ≡ left - 1
        → PathsLeft s t va aa ma (take (b - a) (drop a t)) (copies' + w) (cost' + w * (o + c)) next b
    paths_turn kept weighs opens low begins ends next = rw (kept.0, kept.1, path_slice s t at begins ends, weighs, opens, next, ends) (turned low)

-- nothing is tallied in arrays as they are made
pub nothing_tallied : NothingTallied (replicate room_vertices 0) (replicate room_arcs 0) (replicate room_reads false)
nothing_tallied =
    record {
      vertices_long = length-replicate {A = ℕ} room_vertices 0;
      arcs_long = length-replicate {A = ℕ} room_arcs 0;
      reads_long = length-replicate room_reads false;
      vertices = same_at {A = ℕ} 0 room_vertices;
      arcs = same_at {A = ℕ} 0 room_arcs;
      reads = same_at false room_reads;
    }
