-- The bound of document 01 is the sum of the parts of vertices and arcs, where no slack is below 0: a part is an item's rest and the reads through it, times its
-- slack, since the terms of the reads are the slacks along them.
use Rattle.std.proofs.Common.{ℕ, zero, suc, ◌+◌, ◌-◌, ◌*◌, ◌<◌, ◌≤◌, zero-mul, suc-mul, arith, ◌≡◌, refl, sym, ap, ap₂, subst, ◌∙◌, List, map, Bool, true, false, cond, T, get_or, ℤ, pos, negsuc, nat_abs, ◌+ℤ◌}
use Rattle.std.specs.Int.Signed.{le_z}
use Rattle.mathematics.specs.Price.{whole, times}
use Rattle.mathematics.specs.Lists.{All}
use Rattle.mathematics.specs.Graph.{Arc}
use Rattle.mathematics.specs.Cover.{Ask, vert, arc, vertex_asks, arc_ask}
use Rattle.mathematics.specs.Bound.{reads_through, start_slack, end_slack, vertex_slack, arc_slack, vertex_slacks_hold, arc_slack_holds, bound}
use Rattle.mathematics.specs.Prepare.{prepare}
use Rattle.mathematics.proofs.Basics.{and_r, all_from}
use Rattle.mathematics.proofs.Algebra.{sum_by, sum_append}
use Rattle.mathematics.proofs.PriceKinds.{whole_ordered}
use Rattle.mathematics.proofs.Prepared.{prepared_linked}
use Rattle.mathematics.proofs.Telescope.{item_slack, arc_slack_own}
use Rattle.mathematics.proofs.Totals.{owed, bound_from_slacks}
use Rattle.forms.specs.Bytes.{tabulate}
use Rattle.forms.specs.GraphForm.{vertex_count, arc_count, vertex_demand, arc_at, arc_demand}
use Rattle.forms.specs.GraphOf.{vertex_of, arc_of, arcs_of, graph_of, arc_item}
use Rattle.forms.specs.GraphReads.{Reads}
use Rattle.forms.specs.AnswerForm.{answer_marks}
use Rattle.certify.specs.Certify.{vertex_slack_fault, arc_slack_fault, NoneBelow, ReadsCounted, vertex_part, arc_part, sum_from, Sum}
use Rattle.forms.proofs.GraphFacts.{graph_well_formed}
use Rattle.forms.specs.Limits.{room_vertices, room_arcs}

-- a number that many times
times_number : (k n : ℕ) → times whole k (pos n) ≡ pos (k * n)
times_number zero n = ap pos (sym (zero-mul n))
times_number (suc k) n =
    let e : n + k * n ≡ suc k * n = omega (arith, suc-mul k n) in
    ap (λ z. pos n +ℤ z) (times_number k n) ∙ ap pos e

not_negative : (z : ℤ) → T (le_z (pos 0) z) → z ≡ pos (nat_abs z)
not_negative (pos n) h = refl
not_negative (negsuc n) h = absurd h

no_fault : (b : Bool) (k : ℕ) → cond b 0 (suc k) ≡ 0 → T b
no_fault true k e = tt
no_fault false k e = omega arith

module _ (s t : List ℕ) where
  vertex_not_negative : (v : ℕ) → vertex_slack_fault s t v ≡ 0 → vertex_slack whole (answer_marks s t) v ≡ pos (nat_abs (vertex_slack whole (answer_marks s t) v))
  unfolding vertex_slack_fault
  vertex_not_negative v e =
      not_negative (vertex_slack whole (answer_marks s t) v)
      (and_r (cond (vertex_of s v).end (le_z (pos 0) (end_slack whole (answer_marks s t) v)) true) _
      (and_r (cond (vertex_of s v).start (le_z (pos 0) (start_slack whole (graph_of s) (answer_marks s t) v)) true) _
      (no_fault (vertex_slacks_hold whole (graph_of s) (answer_marks s t) v (vertex_of s v)) 20 e)))

  arc_not_negative : (a : ℕ) → arc_slack_fault s t a ≡ 0 → arc_slack whole (answer_marks s t) (arc_of s a) ≡ pos (nat_abs (arc_slack whole (answer_marks s t) (arc_of s a)))
  unfolding arc_slack_fault
  arc_not_negative a e = not_negative (arc_slack whole (answer_marks s t) (arc_of s a)) (no_fault (arc_slack_holds whole (answer_marks s t) (arc_of s a)) 20 e)

  module _ (rs : List (List ℕ)) (vertex_reads arc_reads : List ℕ) where
    -- what an ask adds to the bound
    abbrev added : Ask → ℤ
    added a = times whole (owed rs a) (item_slack whole (graph_of s) (answer_marks s t) a.item)

    vertex_added : (v : ℕ) → get_or vertex_reads v 0 ≡ reads_through (vert v) rs → vertex_slack_fault s t v ≡ 0 →
        added (record { item = vert v; demand = vertex_demand s v }) ≡ pos (vertex_part s t v (get_or vertex_reads v 0))
    unfolding vertex_part
    vertex_added v e held =
        let most : vertex_demand s v - reads_through (vert v) rs + reads_through (vert v) rs ≡ vertex_demand s v - get_or vertex_reads v 0 + get_or vertex_reads v 0 = omega (arith, e) in
        ap₂ (times whole) most (vertex_not_negative v held) ∙ times_number _ _

    vertices_added : (n k : ℕ) → ((v : ℕ) → k ≤ v → v < k + n → (get_or vertex_reads v 0 ≡ reads_through (vert v) rs) × (vertex_slack_fault s t v ≡ 0)) →
        sum_by whole added (vertex_asks k (tabulate (vertex_of s) n k)) ≡ pos (sum_from (λ v. vertex_part s t v (get_or vertex_reads v 0)) n k)
    unfolding sum_from
    vertices_added zero k h = refl
    vertices_added (suc n) k h =
        let here = h k (omega arith) (omega arith) in
        ap₂ ◌+ℤ◌ (vertex_added k here.0 here.1) (vertices_added n (suc k) (λ v a b. h v (omega arith) (omega arith)))

    arc_added : (a : ℕ) → get_or arc_reads a 0 ≡ reads_through (arc_item s a) rs → arc_slack_fault s t a ≡ 0 → item_slack whole (graph_of s) (answer_marks s t) (arc_item s a) ≡ arc_slack whole (answer_marks s t) (arc_of s a) →
        added (arc_ask (arc_of s a)) ≡ pos (arc_part s t a (get_or arc_reads a 0))
    unfolding arc_part
    arc_added a e held own =
        let most : arc_demand s (arc_at s a) - reads_through (arc_item s a) rs + reads_through (arc_item s a) rs ≡ arc_demand s (arc_at s a) - get_or arc_reads a 0 + get_or arc_reads a 0 = omega (arith, e) in
        ap₂ (times whole) most (own ∙ arc_not_negative a held) ∙ times_number _ _

    arcs_added : (n k : ℕ) → ((a : ℕ) → k ≤ a → a < k + n → (get_or arc_reads a 0 ≡ reads_through (arc_item s a) rs) × (arc_slack_fault s t a ≡ 0)) →
        All (λ (a : Arc ℤ). item_slack whole (graph_of s) (answer_marks s t) (arc a.tail a.head) ≡ arc_slack whole (answer_marks s t) a) (tabulate (arc_of s) n k) →
        sum_by whole added (map arc_ask (tabulate (arc_of s) n k)) ≡ pos (sum_from (λ a. arc_part s t a (get_or arc_reads a 0)) n k)
    unfolding sum_from
    arcs_added zero k h own = refl
    arcs_added (suc n) k h own =
        let here = h k (omega arith) (omega arith) in
        ap₂ ◌+ℤ◌ (arc_added k here.0 here.1 own.0) (arcs_added n (suc k) (λ a b c. h a (omega arith) (omega arith)) own.1)

  -- Document 01, "The bound": where no slack is below 0 it is the sum of the parts, with the counts of the prepared reads
  pub bound_is_sum : (vertex_reads arc_reads : List ℕ) → Reads s → NoneBelow s t → ReadsCounted s (prepare (graph_of s).reads) vertex_reads arc_reads →
      pos (sum_from (λ v. vertex_part s t v (get_or vertex_reads v 0)) (vertex_count s) 0 + sum_from (λ a. arc_part s t a (get_or arc_reads a 0)) (arc_count s) 0) ≡ bound whole (graph_of s) (answer_marks s t)
  unfolding bound graph_of
  bound_is_sum vertex_reads arc_reads r none c =
      let wf = graph_well_formed s r in
      let rs = prepare (graph_of s).reads in
      sym
      (bound_from_slacks whole whole_ordered (graph_of s) (answer_marks s t) wf rs (prepared_linked (graph_of s) wf) ∙
      (sum_append whole whole_ordered (added rs vertex_reads arc_reads) (vertex_asks 0 (graph_of s).vertices) (map arc_ask (graph_of s).arcs) ∙
      ap₂ ◌+ℤ◌
      (vertices_added rs vertex_reads arc_reads (vertex_count s) 0 (λ v a b. (c.vertices v (omega arith), none.vertices v (omega arith))))
      (arcs_added rs vertex_reads arc_reads (arc_count s) 0 (λ a b d. (c.arcs a (omega arith), none.arcs a (omega arith)))
      (all_from _ (arcs_of s) (arc_slack_own whole whole_ordered (graph_of s) (answer_marks s t) wf)))))

  -- the code's two sums, of the reads that were loaded (rs) and prepared (ps)
  pub sums_are_bound : {rs ps : List (List ℕ)} {vertex_reads arc_reads : List ℕ} {x y : ℕ} → Reads s → NoneBelow s t → rs ≡ (graph_of s).reads → ps ≡ prepare rs → ReadsCounted s ps vertex_reads arc_reads →
      Sum (sum_from (λ v. vertex_part s t v (get_or vertex_reads v 0)) (vertex_count s) 0) room_vertices x → Sum (sum_from (λ a. arc_part s t a (get_or arc_reads a 0)) (arc_count s) 0) room_arcs y →
      pos (x + y) ≡ bound whole (graph_of s) (answer_marks s t)
  sums_are_bound {rs} {ps} {vertex_reads} {arc_reads} r none loaded prepared c a b =
      ap₂ (λ i j. pos (i + j)) a.is b.is ∙
      bound_is_sum vertex_reads arc_reads r none (subst (λ q. ReadsCounted s q vertex_reads arc_reads) (prepared ∙ ap prepare loaded) c)
