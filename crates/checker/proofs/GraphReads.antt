-- Theorems on a graph form that reads: a verdict of 0 says exactly that document 01's conditions hold; the graph it stands for is well formed, its
-- costs hold and its sizes are within "Numbers allowed"; any two answers that the reader's promise allows are equal.
use Rattle.std.proofs.Common.{ℕ, zero, suc, ◌+◌, ◌-◌, ◌<◌, ◌≤◌, arith, ◌≡◌, refl, sym, ap, ◌∙◌, List, Bool, true, false, cond, not, ◌&&◌, ◌||◌, ◌↔◌, ltb, eqb, lit≤, length, ltb-false, le-ltb, eq-eqb, eqb-true}
use borrow.Author.Tests.{eqb-false}
use Rattle.std.proofs.lemmas.Bool.Decides.{nat_tests}
use Rattle.std.specs.Prelude.{Result}
use Rattle.forms.specs.declared.Verdict.{Verdict}
use Rattle.forms.specs.declared.refusals.Refused.{Refused}
use Rattle.forms.specs.Refusals.{verdict_of}
use Rattle.forms.proofs.ResultLaws.{same_verdict}
use Rattle.forms.specs.GraphFaults.{refusal, nothing_refused, then, header_verdict, first_fault, vertex_fault, ascends, arc_fault, vertices_verdict, arcs_verdict, walks, read_fault, reads_verdict, graph_verdict}
use Rattle.forms.specs.GraphForm.{header_length, length_word, vertex_count_at, vertex_count, arc_count_at, arc_count, read_count_at, read_count, opening_price_at, opening_price, vertex_at, flags, vertex_demand, arc_length, arc_at, arc_tail, arc_head, arc_cost, arc_demand, first_read_at, read_length, read_vertices_at, read_vertices, read_end}
use Rattle.forms.specs.GraphOf.{arcs_of}
use Rattle.forms.specs.GraphReads.{HeaderRight, VertexRight, ArcRight, ReadRight, ReadsRight, ArcsRight, Reads}
use Rattle.forms.specs.Layout.{version_at, version, newest, max_vertices, max_arcs, max_reads, max_read_length, max_flag, vertex_length}
use Rattle.forms.specs.Limits.{max_opening, max_cost, max_demand, min_read_length}
use Rattle.forms.proofs.RightLaws.{header_holds, vertex_holds, arcs_hold, read_holds, next_follows, before_follows, all_below_lem, each_right, all_right}
use Rattle.forms.proofs.LayoutLaws.{vertex_next}
use Rattle.forms.proofs.ThenLaws.{then_ok}
use Rattle.mathematics.proofs.Basics.{is_true}

-- no refusal by the first, and none after it
then_none : (v after : Verdict) → (then v after).number ≡ 0 → (v.number ≡ 0) × (after.number ≡ 0)
unfolding then
then_none v after e = by (eqb v.number 0) refl e
  where
    by : (b : Bool) → eqb v.number 0 ≡ b → (cond b after v).number ≡ 0 → (v.number ≡ 0) × (after.number ≡ 0)
    by true t e = (eqb-true _ _ t, e)
    by false t e = absurd (eqb-false _ _ t e)

-- reads that are not refused are right, and end where the form ends
reads_hold : (s : List ℕ) (count at : ℕ) → at ≤ length s → (reads_verdict s count at).number ≡ 0 → ReadsRight s count at
unfolding reads_verdict
reads_hold s zero at h e = by (ltb at (length s)) refl e
  where
    by : (b : Bool) → ltb at (length s) ≡ b → (cond b (refusal 5 at) nothing_refused).number ≡ 0 → at ≡ length s
    by true t e = absurd (omega arith)
    by false t e = omega (arith, ltb-false at (length s) t)
reads_hold s (suc count) at h e = by (eqb (read_fault s at) 0) refl e (reads_hold s count (read_end s at))
  where
    by : (b : Bool) → eqb (read_fault s at) 0 ≡ b → (cond b (reads_verdict s count (read_end s at)) (refusal (read_fault s at) at)).number ≡ 0 → (read_end s at ≤ length s → (reads_verdict s count (read_end s at)).number ≡ 0 → ReadsRight s count (read_end s at)) → ReadRight s at × ReadsRight s count (read_end s at)
    by true t e more = let r = read_holds s at (eqb-true _ _ t) in (r, more r.whole e)
    by false t e more = absurd (eqb-false _ _ t e)

-- the records of vertices and arcs end within the form
records_whole : (s : List ℕ) → ArcsRight s → ((v : ℕ) → v < vertex_count s → VertexRight s v) → first_read_at s ≤ length s
records_whole s right vertices = by (arc_count s) refl
  where
    by : (m : ℕ) → arc_count s ≡ m → first_read_at s ≤ length s
    by zero e =
        let last = vertex_count s - 1 in
        let after : suc last ≡ vertex_count s = omega (arith, right.header.some_vertex) in
        omega (arith, (vertices last (omega arith)).whole, vertex_next s last, ap (vertex_at s) after)
    by (suc a) e = omega (arith, (right.each a (omega arith)).whole)

-- Document 01, the table's numbers 1 to 7: "Given exactly when". Nothing is refused exactly where the form reads.
reads_of_zero : (s : List ℕ) → (graph_verdict s).number ≡ 0 → Reads s
unfolding graph_verdict
reads_of_zero s e =
    let a = then_none (header_verdict s) _ e in
    let b = then_none (vertices_verdict s) _ a.1 in
    let c = then_none (arcs_verdict s) _ b.1 in
    let arcs = arcs_hold s (header_holds s a.0) c.0 in
    let vertices : (v : ℕ) → v < vertex_count s → VertexRight s v = λ v h. vertex_holds s v (each_right (vertex_fault s) _ (vertex_count s) 0 b.0 v (omega arith) (omega arith)) in
    record { arcs = arcs; vertices = vertices; reads = reads_hold s (read_count s) (first_read_at s) (records_whole s arcs vertices) c.1 }

header_passes : (s : List ℕ) → HeaderRight s → nothing_refused ≡ header_verdict s
unfolding header_verdict
header_passes s h = grind (arith, nat_tests)

vertex_passes : (s : List ℕ) (v : ℕ) → VertexRight s v → vertex_fault s v ≡ 0
unfolding vertex_fault
vertex_passes s v h = grind (arith, nat_tests)

read_passes : (s : List ℕ) (at : ℕ) → ReadRight s at → read_fault s at ≡ 0
unfolding read_fault walks
read_passes s at r =
    let below = all_below_lem (vertex_count s) (read_vertices s at) r.inside in
    let joined = is_true _ r.arcs in
    grind (arith, nat_tests, below, joined)

reads_pass : (s : List ℕ) (count at : ℕ) → ReadsRight s count at → nothing_refused ≡ reads_verdict s count at
unfolding reads_verdict
reads_pass s zero at e = simp (le-ltb at (length s) (omega arith))
reads_pass s (suc count) at r = simp (eq-eqb (read_fault s at) 0 (read_passes s at r.0)) (reads_pass s count (read_end s at) r.1)

arc_right : (s : List ℕ) (at : ℕ) → ArcRight s at → ascends s at ≡ true → arc_fault s at ≡ 0
unfolding arc_fault
arc_right s at r e = grind (arith, nat_tests)

arc_passes : (s : List ℕ) → ArcsRight s → (a : ℕ) → a < arc_count s → arc_fault s (arc_at s a) ≡ 0
arc_passes s right a h = arc_right s (arc_at s a) (right.each a h) (order a h)
  where
    order : (a : ℕ) → a < arc_count s → ascends s (arc_at s a) ≡ true
    order zero h = simp (eq-eqb (arc_at s 0) (arc_at s 0) refl)
    order (suc a) h = next_follows s a ∙ before_follows s _ _ (right.ascending a h)

nothing_of_reads : (s : List ℕ) → Reads s → nothing_refused ≡ graph_verdict s
unfolding graph_verdict
nothing_of_reads s r =
    then_ok (header_passes s r.arcs.header)
    (then_ok (all_right (vertex_fault s) (vertex_at s) (vertex_count s) 0 (λ k a b. vertex_passes s k (r.vertices k (omega arith))))
    (then_ok (all_right (λ a. arc_fault s (arc_at s a)) (arc_at s) (arc_count s) 0 (λ k a b. arc_passes s r.arcs k (omega arith)))
    (reads_pass s (read_count s) (first_read_at s) r.reads)))

-- Document 01, the table's rows 1 to 7, "Given exactly when": nothing is refused exactly where the form reads.
pub number_zero_iff_reads : (s : List ℕ) → ((graph_verdict s).number ≡ 0) ↔ Reads s
number_zero_iff_reads s = (reads_of_zero s, λ r. sym (ap (λ (v : Verdict). v.number) (nothing_of_reads s r)))

-- "Each answer holds number and place; both are 0 where nothing is refused."
pub place_zero : (s : List ℕ) → (graph_verdict s).number ≡ 0 → (graph_verdict s).place ≡ 0
place_zero s e = sym (ap (λ (v : Verdict). v.place) (nothing_of_reads s (reads_of_zero s e)))

-- each number that is given is one of 0 to 7
lower : (t : Bool) (x y : ℕ) → x ≤ 7 → y ≤ 7 → cond t x y ≤ 7
lower true x y h k = h
lower false x y h k = k

low : (t : Bool) (x y : Verdict) → x.number ≤ 7 → y.number ≤ 7 → (cond t x y).number ≤ 7
low true x y h k = h
low false x y h k = k

low_vertex : (s : List ℕ) (v : ℕ) → vertex_fault s v ≤ 7
unfolding vertex_fault
low_vertex s v =
    lower (ltb (length s) (vertex_at s v + vertex_length s)) 5 _ (lit≤ tt)
    (lower (ltb (max_flag s) (flags s v) || ltb max_demand (vertex_demand s v)) 4 0 (lit≤ tt) (lit≤ tt))

low_arc : (s : List ℕ) (at : ℕ) → arc_fault s at ≤ 7
unfolding arc_fault
low_arc s at =
    lower (ltb (length s) (at + arc_length)) 5 _ (lit≤ tt)
    (lower (ltb max_cost (arc_cost s at) || ltb max_demand (arc_demand s at)) 4 _ (lit≤ tt)
    (lower (ltb (arc_tail s at) (arc_head s at) && (ltb (arc_head s at) (vertex_count s) && ascends s at)) 0 6 (lit≤ tt) (lit≤ tt)))

low_read : (s : List ℕ) (at : ℕ) → read_fault s at ≤ 7
unfolding read_fault
low_read s at =
    lower (ltb (length s) (read_vertices_at s at)) 5 _ (lit≤ tt)
    (lower (ltb (read_length s at) min_read_length || ltb (max_read_length s) (read_length s at)) 7 _ (lit≤ tt)
    (lower (ltb (length s) (read_end s at)) 5 _ (lit≤ tt) (lower (walks (vertex_count s) (arcs_of s) (read_vertices s at)) 0 7 (lit≤ tt) (lit≤ tt))))

low_header : (s : List ℕ) → (header_verdict s).number ≤ 7
unfolding header_verdict
low_header s =
    low (ltb (length s) (header_length s) || not (eqb (length_word s) (length s))) (refusal 1 0) _ (lit≤ tt)
    (low (eqb (version s) 0 || ltb newest (version s)) (refusal 2 version_at) _ (lit≤ tt)
    (low (eqb (vertex_count s) 0 || ltb (max_vertices s) (vertex_count s)) (refusal 3 vertex_count_at) _ (lit≤ tt)
    (low (ltb (max_arcs s) (arc_count s)) (refusal 3 (arc_count_at s)) _ (lit≤ tt)
    (low (ltb (max_reads s) (read_count s)) (refusal 3 (read_count_at s)) _ (lit≤ tt)
    (low (ltb max_opening (opening_price s)) (refusal 4 (opening_price_at s)) nothing_refused (lit≤ tt) (lit≤ tt))))))

low_records : (fault place : ℕ → ℕ) → ((k : ℕ) → fault k ≤ 7) → (n i : ℕ) → (first_fault fault place n i).number ≤ 7
unfolding first_fault
low_records fault place h zero i = lit≤ tt
low_records fault place h (suc n) i = low (eqb (fault i) 0) _ _ (low_records fault place h n (suc i)) (h i)

low_reads : (s : List ℕ) (count at : ℕ) → (reads_verdict s count at).number ≤ 7
unfolding reads_verdict
low_reads s zero at = low (ltb at (length s)) (refusal 5 at) nothing_refused (lit≤ tt) (lit≤ tt)
low_reads s (suc count) at = low (eqb (read_fault s at) 0) _ (refusal (read_fault s at) at) (low_reads s count (read_end s at)) (low_read s at)

low_then : (v after : Verdict) → v.number ≤ 7 → after.number ≤ 7 → (then v after).number ≤ 7
unfolding then
low_then v after h k = low (eqb v.number 0) after v k h

-- Document 01, the table: reading a graph form gives no number but 0 and 1 to 7.
pub number_to_seven : (s : List ℕ) → (graph_verdict s).number ≤ 7
unfolding graph_verdict
number_to_seven s =
    low_then _ _ (low_header s)
    (low_then _ _ (low_records _ _ (low_vertex s) (vertex_count s) 0)
    (low_then _ _ (low_records _ _ (λ a. low_arc s (arc_at s a)) (arc_count s) 0) (low_reads s (read_count s) (first_read_at s))))

-- "Show that any two results allowed by a promise are equal."
pub determined : (s : List ℕ) (r r' : Result (Unit {0}) Refused) → verdict_of r ≡ graph_verdict s → verdict_of r' ≡ graph_verdict s → r ≡ r'
determined s r r' e d = same_verdict r r' (e ∙ sym d)
