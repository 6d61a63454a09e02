-- The whole check from its stages: numbers 19 to 22 as the code finds them are the certificate's verdict, and what the stages before give is what it asks.
use Rattle.std.proofs.Common.{ℕ, zero, suc, ◌+◌, ◌*◌, ◌<◌, ◌≤◌, add-zero, zero-add, arith, ◌≡◌, refl, sym, ap, ap₂, ◌∙◌, List, ◌++◌, map, Bool, true, false, cond, not, ◌&&◌, leb, eqb, length, get_or, pos, eqb-true, le-leb, leb-true, eq-eqb, ne_eqb}
use borrow.Author.Tests.{eqb-false}
use Rattle.mathematics.specs.Price.{whole}
use Rattle.mathematics.specs.Bound.{bound}
use Rattle.mathematics.specs.Cover.{vertex_asks, arc_ask}
use Rattle.forms.specs.declared.Verdict.{Verdict}
use Rattle.forms.specs.AnswerFaults.{mark_fault, marks_verdict}
use Rattle.forms.specs.AnswerForm.{stated_price, mark_part_length, in_mark_at, out_mark_at, mark_parts, answer_marks, first_path_at, cover_of}
use Rattle.forms.specs.GraphFaults.{refusal, nothing_refused, then, first_fault}
use Rattle.forms.specs.GraphForm.{vertex_count, arc_count, read_count, first_read_at}
use Rattle.forms.specs.GraphOf.{vertex_of, arc_of, arcs_of, reads_from, graph_of}
use Rattle.forms.specs.Layout.{price_parts}
use Rattle.forms.specs.Refusals.{number_of}
use Rattle.forms.specs.declared.refusals.Refused.{Refused}
use Rattle.checker.specs.Tallies.{Tallied}
use Rattle.checker.specs.Check.{same_price, demands_verdict, reads_met_verdict, vertex_slacks_verdict, arc_slacks_verdict, certificate_verdict}
use Rattle.certify.specs.Certify.{arc_place, read_place, vertex_unmet, arc_unmet, read_unmet, vertex_slack_fault, arc_slack_fault, unmet_verdict, slacks_verdict, MarksStand, NoneBelow}
use Rattle.checker.proofs.Accepted.{earlier_first, fault_refused}
use Rattle.forms.proofs.LayoutLaws.{parts_few, mark_first, mark_next, mark_before, marks_end}
use Rattle.forms.proofs.RightLaws.{each_right}
use Rattle.forms.proofs.ThenLaws.{then_err, then_ok}
use Rattle.forms.proofs.GraphFacts.{length_tabulate, length_reads}
use Rattle.checker.proofs.CertifyLawsVerdict.{demands_of_vertices, demands_of_arcs, reads_are_met, slacks_of_vertices, slacks_of_arcs}

then_after : (a b c : Verdict) → then a (then b c) ≡ then (then a b) c
unfolding then
then_after a b c = go (eqb a.number 0) refl
  where
    go : (t : Bool) → eqb a.number 0 ≡ t → cond t (cond (eqb b.number 0) c b) a ≡ cond (eqb (cond t b a).number 0) c (cond t b a)
    go true e = refl
    go false e = sym (ap (λ x. cond x c a) e)

-- two prices that are numbers are the same where the numbers are
pub same_number : (a b : ℕ) → same_price whole (pos a) (pos b) ≡ eqb a b
same_number a b = go (eqb a b) refl
  where
    go : (t : Bool) → eqb a b ≡ t → (leb a b && leb b a) ≡ t
    go true e = let same = eqb-true a b e in ap₂ ◌&&◌ (le-leb a b (omega arith)) (le-leb b a (omega arith))
    go false e = apart (leb a b) (leb b a) refl refl
      where
        apart : (x y : Bool) → leb a b ≡ x → leb b a ≡ y → (leb a b && leb b a) ≡ false
        apart true true p q = absurd (eqb-false a b e (omega (arith, leb-true a b p, leb-true b a q)))
        apart true false p q = ap₂ ◌&&◌ p q
        apart false y p q = ap (λ z. z && leb b a) p

-- 21 by the records
slacks_are : (s t : List ℕ) (after : Verdict) →
    vertex_slacks_verdict whole (graph_of s) (answer_marks s t) 0 (graph_of s).vertices (arc_slacks_verdict whole (answer_marks s t) (length (graph_of s).vertices) (graph_of s).arcs after) ≡
    then (slacks_verdict s t) after
unfolding graph_of slacks_verdict
slacks_are s t after =
    slacks_of_vertices s t _ (vertex_count s) 0
    ∙ (ap (then vertices) (ap (λ k. arc_slacks_verdict whole (answer_marks s t) k (arcs_of s) after) first ∙ slacks_of_arcs s t after (arc_count s) 0) ∙ then_after vertices arcs after)
  where
    vertices : Verdict
    vertices = first_fault (vertex_slack_fault s t) (λ v. v) (vertex_count s) 0

    arcs : Verdict
    arcs = first_fault (arc_slack_fault s t) (arc_place s) (arc_count s) 0

    first : length (graph_of s).vertices ≡ arc_place s 0
    first = omega (arith, length_tabulate (vertex_of s) (vertex_count s) 0)

module _ (s t vertex_totals arc_totals : List ℕ) (met : List Bool) (cost : ℕ) (w : Tallied s t vertex_totals arc_totals met cost) where
  unmet_is : (after : Verdict) →
      demands_verdict (cover_of s t) 0 (vertex_asks 0 (graph_of s).vertices ++ map arc_ask (graph_of s).arcs)
      (reads_met_verdict (cover_of s t) (length (graph_of s).vertices + length (graph_of s).arcs) (graph_of s).reads after) ≡
      then (unmet_verdict s vertex_totals arc_totals met) after
  unfolding graph_of unmet_verdict
  unmet_is after =
      demands_of_vertices s (cover_of s t) vertex_totals (map arc_ask (arcs_of s)) _ (vertex_count s) 0 (λ v a b. w.vertices v (omega arith))
      ∙ (ap (then vertices) (ap (λ k. demands_verdict (cover_of s t) k (map arc_ask (arcs_of s)) met_then) first
      ∙ (demands_of_arcs s (cover_of s t) arc_totals _ (arc_count s) 0 (λ a b c. w.arcs a (omega arith))
      ∙ (ap (then arcs) (ap (λ k. reads_met_verdict (cover_of s t) k (reads_from s (read_count s) (first_read_at s)) after) second
      ∙ (reads_are_met s (cover_of s t) met after (reads_from s (read_count s) (first_read_at s)) 0
      (λ j b. ap (λ k. get_or met k false) (zero-add j) ∙ w.reads j (omega (arith, length_reads s (read_count s) (first_read_at s))))
      ∙ ap (λ k. then (first_fault (read_unmet met) (read_place s) k 0) after) (length_reads s (read_count s) (first_read_at s))))
      ∙ then_after arcs reads after)))
      ∙ then_after vertices (then arcs reads) after)
    where
      vertices : Verdict
      vertices = first_fault (vertex_unmet s vertex_totals) (λ v. v) (vertex_count s) 0

      arcs : Verdict
      arcs = first_fault (arc_unmet s arc_totals) (arc_place s) (arc_count s) 0

      reads : Verdict
      reads = first_fault (read_unmet met) (read_place s) (read_count s) 0

      met_then : Verdict
      met_then =
          reads_met_verdict (cover_of s t) (length (graph_of s).vertices + length (graph_of s).arcs) (graph_of s).reads after

      first : 0 + vertex_count s ≡ arc_place s 0
      first = omega arith

      second : length (graph_of s).vertices + length (graph_of s).arcs ≡ read_place s 0
      second = omega (arith, length_tabulate (vertex_of s) (vertex_count s) 0, length_tabulate (arc_of s) (arc_count s) 0)

  -- 19, 20, 21 and 22 by the tallies, as the code tests them
  certificate_is : certificate_verdict whole (graph_of s) (cover_of s t) (pos (stated_price s t)) (answer_marks s t) ≡
      then (unmet_verdict s vertex_totals arc_totals met)
      (cond (not (eqb cost (stated_price s t))) (refusal 20 0)
      (then (slacks_verdict s t) (cond (not (same_price whole (bound whole (graph_of s) (answer_marks s t)) (pos (stated_price s t)))) (refusal 22 0) nothing_refused)))
  unfolding certificate_verdict
  certificate_is =
      unmet_is _ ∙ ap (then (unmet_verdict s vertex_totals arc_totals met))
      (ap₂ (λ x y. cond (not x) (refusal 20 0) y) (ap (λ p. same_price whole p (pos (stated_price s t))) (sym w.costs) ∙ same_number cost (stated_price s t)) (slacks_are s t _))

  pub some_unmet : (r : Refused) → refusal (number_of r.fault) r.place ≡ unmet_verdict s vertex_totals arc_totals met → refusal (number_of r.fault) r.place ≡ certificate_verdict whole (graph_of s) (cover_of s t) (pos (stated_price s t)) (answer_marks s t)
  some_unmet r e = then_err r _ e ∙ sym certificate_is

  module _ (e : nothing_refused ≡ unmet_verdict s vertex_totals arc_totals met) where
    pub price_differs : (cost ≡ stated_price s t → ⊥) → refusal 20 0 ≡ certificate_verdict whole (graph_of s) (cover_of s t) (pos (stated_price s t)) (answer_marks s t)
    price_differs h = then_ok e (simp (ne_eqb cost (stated_price s t) h)) ∙ sym certificate_is

    module _ (same : cost ≡ stated_price s t) where
      pub slack_below : (r : Refused) → refusal (number_of r.fault) r.place ≡ slacks_verdict s t → refusal (number_of r.fault) r.place ≡ certificate_verdict whole (graph_of s) (cover_of s t) (pos (stated_price s t)) (answer_marks s t)
      slack_below r d = then_ok e (simp (eq-eqb cost (stated_price s t) same) (then_err r _ d)) ∙ sym certificate_is

      module _ (d : nothing_refused ≡ slacks_verdict s t) {b : ℕ} (is : pos b ≡ bound whole (graph_of s) (answer_marks s t)) where
        bound_test : same_price whole (bound whole (graph_of s) (answer_marks s t)) (pos (stated_price s t)) ≡ eqb b (stated_price s t)
        bound_test = ap (λ x. same_price whole x (pos (stated_price s t))) (sym is) ∙ same_number b (stated_price s t)

        pub bound_differs : (b ≡ stated_price s t → ⊥) → refusal 22 0 ≡ certificate_verdict whole (graph_of s) (cover_of s t) (pos (stated_price s t)) (answer_marks s t)
        bound_differs h = then_ok e (simp (eq-eqb cost (stated_price s t) same) (then_ok d (simp (bound_test, ne_eqb b (stated_price s t) h)))) ∙ sym certificate_is

        pub all_certified : b ≡ stated_price s t → nothing_refused ≡ certificate_verdict whole (graph_of s) (cover_of s t) (pos (stated_price s t)) (answer_marks s t)
        all_certified h = then_ok e (simp (eq-eqb cost (stated_price s t) same) (then_ok d (simp (bound_test, eq-eqb b (stated_price s t) h)))) ∙ sym certificate_is

-- where no slack is refused, none is below 0
pub none_below : (s t : List ℕ) → (slacks_verdict s t).number ≡ 0 → NoneBelow s t
unfolding slacks_verdict then
none_below s t e =
    let h = earlier_first (first_fault (vertex_slack_fault s t) (λ v. v) (vertex_count s) 0) (first_fault (arc_slack_fault s t) (arc_place s) (arc_count s) 0) e in
    record {
      vertices = λ v l. each_right (vertex_slack_fault s t) (λ k. k) (vertex_count s) 0 h.0 v (omega arith) (omega arith);
      arcs = λ a l. each_right (arc_slack_fault s t) (arc_place s) (arc_count s) 0 h.1 a (omega arith) (omega arith);
    }

-- where no mark is refused, all are in range
mark_by_mark : (t : List ℕ) (count at k : ℕ) → (marks_verdict t count at nothing_refused).number ≡ 0 → k < count → mark_fault t (at + mark_part_length * k) ≡ 0
unfolding marks_verdict
mark_by_mark t zero at k e h = absurd (omega arith)
mark_by_mark t (suc count) at zero e h =
    ap (mark_fault t) (add-zero at) ∙ (fault_refused (mark_fault t at) at (marks_verdict t count (at + mark_part_length) nothing_refused) e).0
mark_by_mark t (suc count) at (suc k) e h =
    let same : at + mark_part_length * suc k ≡ at + mark_part_length + mark_part_length * k = omega arith in
    let more = (fault_refused (mark_fault t at) at (marks_verdict t count (at + mark_part_length) nothing_refused) e).1 in
    ap (mark_fault t) same ∙ mark_by_mark t count (at + mark_part_length) k more (omega arith)

-- with which of the numbers that make the marks the in-mark of vertex v begins
mark_index : (s : List ℕ) (v : ℕ) → (k : ℕ) × (in_mark_at s v ≡ in_mark_at s 0 + mark_part_length * k)
mark_index s zero = (0, omega arith)
mark_index s (suc v) =
    let (k, same) = mark_index s v in
    (k + 2 * price_parts s, omega (arith, same, mark_next s v))

pub marks_stand : (s t : List ℕ) → first_path_at s ≤ length t → (marks_verdict t (mark_parts s) (in_mark_at s 0) nothing_refused).number ≡ 0 → MarksStand s t
marks_stand s t long e =
    record {
      long = long;
      into = λ v h.
          let (k, same) = mark_index s v in
          ap (mark_fault t) same
          ∙ mark_by_mark t (mark_parts s) (in_mark_at s 0) k e (omega (arith, same, mark_first s, marks_end s, mark_before s v (vertex_count s) h, parts_few s));
      out = λ v h.
          let (k, same) = mark_index s v in
          let behind : out_mark_at s v ≡ in_mark_at s 0 + mark_part_length * (k + price_parts s) = omega (arith, same) in
          ap (mark_fault t) behind
          ∙ mark_by_mark t (mark_parts s) (in_mark_at s 0) (k + price_parts s) e (omega (arith, same, mark_first s, marks_end s, mark_before s v (vertex_count s) h, parts_few s));
    }
