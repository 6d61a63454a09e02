-- The builder's theorems, from its promise alone: when it refuses, when it does not, and that the bytes it writes are an answer form of a lowest-price cover.
use Prim.Native.Nat.{ℕ, zero, suc, ◌+◌, ◌*◌, ◌≤◌, ◌<◌}
use native.Mathlib.Omega.{arith}
use mathlib.Core.Path.{◌≡◌, refl, sym, ap, subst, ◌∙◌}
use mathlib.Core.List.{List, []}
use mathlib.Core.Bool.{cond}
use mathlib.Core.Logic.{◌⊎◌, inl, inr, ◌≢◌, ◌↔◌}
use borrow.Author.Tests.{eq-eqb, ne_eqb, le-ltb}
use lib.ListN.{length, take}
use Rattle.mathematics.specs.Cover.{Weighted, total_weight, IsCover}
use Rattle.mathematics.proofs.Existence.{cover_shows_coverable}
use Rattle.forms.specs.declared.Verdict.{Verdict}
use Rattle.forms.specs.Layout.{max_weight}
use Rattle.forms.specs.GraphForm.{vertex_count}
use Rattle.forms.specs.GraphOf.{graph_of}
use Rattle.forms.specs.GraphFaults.{refusal, nothing_refused, graph_verdict}
use Rattle.forms.specs.AnswerForm.{path_count, mark_part_length, in_mark_at, out_mark_at, answer_marks, first_path_at, path_weight, path_vertices, path_end, paths_from, cover_of}
use Rattle.checker.specs.Check.{check_verdict}
use Rattle.checker.specs.Accepted.{MarkRight, MarksRight, PathsRight}
use Rattle.checker.proofs.Accepted.{number_zero_accepted}
use Rattle.forms.proofs.LayoutLaws.{price_parts_is, mark_next, marks_product}
use Rattle.forms.proofs.GraphFacts.{graph_well_formed}
use Rattle.checker.proofs.GraphReads.{number_zero_iff_reads, number_to_seven}
use Rattle.forms.proofs.GraphRange.{vertices_length}
use Rattle.checker.proofs.Soundness.{accepted_is_lowest}
use Rattle.forms.specs.BuildFaults.{room_asked, cover_verdict, build_verdict}
use Rattle.builder.specs.Build.{Built, BuildPromise}
use Rattle.builder.specs.Lacking.{FirstLacking}
use Rattle.builder.specs.Results.{LowestForm}
use Rattle.network.proofs.NetworkLaws.{same_or_not}
use Rattle.wiring.proofs.SlotLaws.{first_or_later}
use Rattle.builder.proofs.Coverable.{eight_iff_no_cover, eight_at_first_lacking, coverable_asks_room}

-- ---- the verdict

module _ (s : List ℕ) (room : ℕ) where
  pub verdict_of_read : (graph_verdict s).number ≡ 0 → build_verdict s room ≡ cover_verdict s room
  unfolding build_verdict
  verdict_of_read e = rw (eq-eqb (graph_verdict s).number 0 e)

  pub verdict_of_unread : (graph_verdict s).number ≢ 0 → build_verdict s room ≡ graph_verdict s
  unfolding build_verdict
  verdict_of_unread n = rw (ne_eqb (graph_verdict s).number 0 n)

-- ---- the answer that is written

paths_counted : (s t : List ℕ) (count place : ℕ) → length (paths_from s t count place) ≡ count
paths_counted s t zero place = refl
paths_counted s t (suc count) place = ap suc (paths_counted s t count (path_end s t place))

paths_light : (s t : List ℕ) (count place : ℕ) (before : List ℕ) (copies : ℕ) → copies ≤ max_weight s → PathsRight s t count place before copies →
    copies + total_weight (paths_from s t count place) ≤ max_weight s
paths_light s t zero place before copies h p = omega arith
paths_light s t (suc count) place before copies h p =
    omega (arith, paths_light s t count (path_end s t place) (path_vertices s t place) (copies + path_weight t place) p.0.few_copies p.1)

-- the marks from number k on, each of which is one number, are in range
marks_at : (s t : List ℕ) (n k : ℕ) → MarksRight t (2 * n) (in_mark_at s k) → (v : ℕ) → k ≤ v → v < k + n → MarkRight t (in_mark_at s v) × MarkRight t (out_mark_at s v)
marks_at s t zero k h v a b = absurd (omega arith)
marks_at s t (suc n) k h v a b = pick (first_or_later k v a) (λ g. marks_at s t n (suc k) behind v g (omega arith))
  where
    own : MarksRight t (suc (suc (2 * n))) (in_mark_at s k)
    own = subst (λ c. MarksRight t c (in_mark_at s k)) (let two : 2 * suc n ≡ suc (suc (2 * n)) = omega arith in two) h

    behind : MarksRight t (2 * n) (in_mark_at s (suc k))
    behind =
        let next : in_mark_at s k + mark_part_length + mark_part_length ≡ in_mark_at s (suc k) = omega (arith, mark_next s k, price_parts_is s) in
        subst (MarksRight t (2 * n)) next own.1.1

    out_right : MarkRight t (out_mark_at s k)
    out_right = let second : in_mark_at s k + mark_part_length ≡ out_mark_at s k = omega (arith, price_parts_is s) in subst (MarkRight t) second own.1.0

    pick : (k ≡ v) ⊎ (suc k ≤ v) → (suc k ≤ v → MarkRight t (in_mark_at s v) × MarkRight t (out_mark_at s v)) → MarkRight t (in_mark_at s v) × MarkRight t (out_mark_at s v)
    pick (inl e) more = subst (λ x. MarkRight t (in_mark_at s x) × MarkRight t (out_mark_at s x)) e (own.0, out_right)
    pick (inr g) more = more g

-- An accepted answer is the form of a lowest-price cover.
accepted_lowest : (s t : List ℕ) → (check_verdict s t).number ≡ 0 → LowestForm s t
unfolding cover_of answer_marks
accepted_lowest s t e =
    let a = number_zero_accepted s t e in
    let l = accepted_is_lowest s t e in
    let marks : MarksRight t (2 * vertex_count s) (in_mark_at s 0) =
    subst (λ c. MarksRight t c (in_mark_at s 0)) (sym (marks_product s 1 (vertex_count s) (price_parts_is s) refl)) a.marks in
    record {
      lowest = l.0;
      price_stated = l.1;
      few_paths = omega (arith, paths_counted s t (path_count t) (first_path_at s), a.header.few_paths);
      few_copies = omega (arith, paths_light s t (path_count t) (first_path_at s) [] 0 (omega arith) a.paths);
      marks_fit = λ v h. marks_at s t (vertex_count s) 0 marks v (omega arith) (omega (arith, vertices_length s));
    }

-- ---- the theorems

module _ (s before after : List ℕ) (r : Built) (P : BuildPromise s before after r) where
  number_is : r.number ≡ (build_verdict s (length before)).number
  number_is = ap (λ (v : Verdict). v.number) P.verdict

  -- Document 01, number 8, "builder: no cover": it is given exactly when the graph reads and no cover exists.
  pub refused_8_iff_no_cover : (r.number ≡ 8) ↔ (((graph_verdict s).number ≡ 0) × ((W : List Weighted) → IsCover (graph_of s) W → ⊥))
  refused_8_iff_no_cover = (λ e. there e (same_or_not (graph_verdict s).number 0), back)
    where
      wf : (e : (graph_verdict s).number ≡ 0) → ((cover_verdict s (length before)).number ≡ 8) ↔ ((W : List Weighted) → IsCover (graph_of s) W → ⊥)
      wf e = eight_iff_no_cover s (graph_well_formed s ((number_zero_iff_reads s).0 e)) (length before)

      there : r.number ≡ 8 → ((graph_verdict s).number ≡ 0) ⊎ ((graph_verdict s).number ≢ 0) →
          ((graph_verdict s).number ≡ 0) × ((W : List Weighted) → IsCover (graph_of s) W → ⊥)
      there e (inl reads) = (reads, (wf reads).0 (sym (ap (λ (v : Verdict). v.number) (verdict_of_read s (length before) reads)) ∙ (sym number_is ∙ e)))
      there e (inr not) =
          absurd (omega (arith, number_to_seven s, sym (ap (λ (v : Verdict). v.number) (verdict_of_unread s (length before) not)) ∙ (sym number_is ∙ e)))

      back : ((graph_verdict s).number ≡ 0) × ((W : List Weighted) → IsCover (graph_of s) W → ⊥) → r.number ≡ 8
      back h = number_is ∙ (ap (λ (v : Verdict). v.number) (verdict_of_read s (length before) h.0) ∙ (wf h.0).1 h.1)

  -- Its place: "first item that asks for something (positive demand, or a read) and lies on no start-to-end path".
  pub refused_8_at_first_lacking : r.number ≡ 8 → FirstLacking (graph_of s) r.place
  refused_8_at_first_lacking e =
      let reads = (refused_8_iff_no_cover.0 e).0 in
      let same = P.verdict ∙ verdict_of_read s (length before) reads in
      subst (FirstLacking (graph_of s)) (sym (ap (λ (v : Verdict). v.place) same))
      (eight_at_first_lacking s (graph_well_formed s ((number_zero_iff_reads s).0 reads)) (length before) (sym (ap (λ (v : Verdict). v.number) same) ∙ e))

  -- Where the graph reads, a cover exists and the output has the room that number 9 asks for, nothing is refused.
  pub room_asked_is_enough : (graph_verdict s).number ≡ 0 → (W : List Weighted) → IsCover (graph_of s) W → room_asked s ≤ length before → r.number ≡ 0
  room_asked_is_enough reads W c room =
      let g = graph_well_formed s ((number_zero_iff_reads s).0 reads) in
      number_is ∙
      (ap (λ (v : Verdict). v.number)
      (verdict_of_read s (length before) reads ∙ coverable_asks_room s g (length before) (cover_shows_coverable (graph_of s) W c)) ∙
      ap (λ b. (cond b (refusal 9 0) nothing_refused).number) (le-ltb (length before) (room_asked s) room))

  -- Where nothing is refused, the bytes written are an answer form of a lowest-price cover, inside the limits.
  pub written_is_lowest : r.number ≡ 0 → LowestForm s (take r.written after)
  written_is_lowest e = accepted_lowest s (take r.written after) (ap (λ (v : Verdict). v.number) (P.accepted e))
