-- The verdicts of numbers 19 and 21 as the code finds them, records of one kind after the other, are those of the definitions.
use Rattle.std.proofs.Common.{ℕ, zero, suc, ◌+◌, ◌<◌, ◌≤◌, add-zero, arith, ◌≡◌, refl, sym, ap, ap₂, ◌∙◌, List, [], ◌∷◌, ◌++◌, map, Bool, true, false, cond, leb, eqb, length, get_or}
use lib.Dec.{eqb-suc-zero}
use Rattle.mathematics.specs.Price.{whole}
use Rattle.mathematics.specs.Lists.{some_holds}
use Rattle.mathematics.specs.Bound.{vertex_slacks_hold, arc_slack_holds}
use Rattle.mathematics.specs.Cover.{Ask, Weighted, vert, vertex_asks, arc_ask, total, paths}
use Rattle.forms.specs.declared.Verdict.{Verdict}
use Rattle.forms.specs.AnswerForm.{answer_marks}
use Rattle.forms.specs.Bytes.{tabulate}
use Rattle.forms.specs.GraphFaults.{refusal, then, first_fault}
use Rattle.forms.specs.GraphForm.{vertex_demand, arc_at, arc_demand}
use Rattle.forms.specs.GraphOf.{vertex_of, arc_of, graph_of, arc_item}
use Rattle.checker.specs.Check.{demands_verdict, reads_met_verdict, vertex_slacks_verdict, arc_slacks_verdict}
use Rattle.certify.specs.Certify.{arc_place, read_place, vertex_unmet, arc_unmet, read_unmet, vertex_slack_fault, arc_slack_fault}

-- a record that is right or refuses with a number above 0, and those after it
one : (b : Bool) (number place : ℕ) (rest after : Verdict) → cond b (then rest after) (refusal (suc number) place) ≡ then (cond (eqb (cond b 0 (suc number)) 0) rest (refusal (cond b 0 (suc number)) place)) after
unfolding then
one true number place rest after = refl
one false number place rest after = simp eqb-suc-zero

module _ (s : List ℕ) (W : List Weighted) (totals : List ℕ) where
  -- the vertices from number k on
  pub demands_of_vertices : (more : List Ask) (after : Verdict) (n k : ℕ) → ((v : ℕ) → k ≤ v → v < k + n → get_or totals v 0 ≡ total (vert v) W) →
      demands_verdict W k (vertex_asks k (tabulate (vertex_of s) n k) ++ more) after ≡ then (first_fault (vertex_unmet s totals) (λ v. v) n k) (demands_verdict W (k + n) more after)
  unfolding demands_verdict first_fault vertex_unmet then
  demands_of_vertices more after zero k h = ap (λ j. demands_verdict W j more after) (sym (add-zero k))
  demands_of_vertices more after (suc n) k h =
      let e : get_or totals k 0 ≡ total (vert k) W = h k (omega arith) (omega arith) in
      let shift : suc k + n ≡ k + suc n = omega arith in
      ap₂ (λ x y. cond (leb (vertex_demand s k) x) y (refusal 19 k)) (sym e)
      (demands_of_vertices more after n (suc k) (λ v a b. h v (omega arith) (omega arith)) ∙ ap (λ j. then (first_fault (vertex_unmet s totals) (λ v. v) n (suc k)) (demands_verdict W j more after)) shift)
      ∙ one (leb (vertex_demand s k) (get_or totals k 0)) 18 k (first_fault (vertex_unmet s totals) (λ v. v) n (suc k)) (demands_verdict W (k + suc n) more after)

  -- the arcs from number k on, with what comes after all demands
  pub demands_of_arcs : (after : Verdict) (n k : ℕ) → ((a : ℕ) → k ≤ a → a < k + n → get_or totals a 0 ≡ total (arc_item s a) W) →
      demands_verdict W (arc_place s k) (map arc_ask (tabulate (arc_of s) n k)) after ≡ then (first_fault (arc_unmet s totals) (arc_place s) n k) after
  unfolding demands_verdict first_fault arc_unmet then
  demands_of_arcs after zero k h = refl
  demands_of_arcs after (suc n) k h =
      let e : get_or totals k 0 ≡ total (arc_item s k) W = h k (omega arith) (omega arith) in
      let next : suc (arc_place s k) ≡ arc_place s (suc k) = omega arith in
      ap₂ (λ x y. cond (leb (arc_demand s (arc_at s k)) x) y (refusal 19 (arc_place s k))) (sym e)
      (ap (λ j. demands_verdict W j (map arc_ask (tabulate (arc_of s) n (suc k))) after) next ∙ demands_of_arcs after n (suc k) (λ a b c. h a (omega arith) (omega arith)))
      ∙ one (leb (arc_demand s (arc_at s k)) (get_or totals k 0)) 18 (arc_place s k) (first_fault (arc_unmet s totals) (arc_place s) n (suc k)) after

-- the reads from number i on, rs
pub reads_are_met : (s : List ℕ) (W : List Weighted) (met : List Bool) (after : Verdict) (rs : List (List ℕ)) (i : ℕ) →
    ((j : ℕ) → j < length rs → get_or met (i + j) false ≡ some_holds (paths W) (get_or rs j [])) →
    reads_met_verdict W (read_place s i) rs after ≡ then (first_fault (read_unmet met) (read_place s) (length rs) i) after
unfolding reads_met_verdict first_fault read_unmet then
reads_are_met s W met after [] i h = refl
reads_are_met s W met after (r ∷ rs) i h =
    let e : get_or met i false ≡ some_holds (paths W) r = ap (λ k. get_or met k false) (sym (add-zero i)) ∙ h 0 (omega arith) in
    let next : suc (read_place s i) ≡ read_place s (suc i) = omega arith in
    ap₂ (λ x y. cond x y (refusal 19 (read_place s i))) (sym e)
    (ap (λ j. reads_met_verdict W j rs after) next ∙ reads_are_met s W met after rs (suc i) (λ j b. let q : suc i + j ≡ i + suc j = omega arith in ap (λ k. get_or met k false) q ∙ h (suc j) (omega arith)))
    ∙ one (get_or met i false) 18 (read_place s i) (first_fault (read_unmet met) (read_place s) (length rs) (suc i)) after

module _ (s t : List ℕ) (after : Verdict) where
  pub slacks_of_vertices : (n k : ℕ) →
      vertex_slacks_verdict whole (graph_of s) (answer_marks s t) k (tabulate (vertex_of s) n k) after ≡ then (first_fault (vertex_slack_fault s t) (λ v. v) n k) after
  unfolding vertex_slacks_verdict first_fault vertex_slack_fault then
  slacks_of_vertices zero k = refl
  slacks_of_vertices (suc n) k =
      ap (λ y. cond (vertex_slacks_hold whole (graph_of s) (answer_marks s t) k (vertex_of s k)) y (refusal 21 k)) (slacks_of_vertices n (suc k))
      ∙ one (vertex_slacks_hold whole (graph_of s) (answer_marks s t) k (vertex_of s k)) 20 k (first_fault (vertex_slack_fault s t) (λ v. v) n (suc k)) after

  pub slacks_of_arcs : (n k : ℕ) → arc_slacks_verdict whole (answer_marks s t) (arc_place s k) (tabulate (arc_of s) n k) after ≡ then (first_fault (arc_slack_fault s t) (arc_place s) n k) after
  unfolding arc_slacks_verdict first_fault arc_slack_fault then
  slacks_of_arcs zero k = refl
  slacks_of_arcs (suc n) k =
      let next : suc (arc_place s k) ≡ arc_place s (suc k) = omega arith in
      ap (λ y. cond (arc_slack_holds whole (answer_marks s t) (arc_of s k)) y (refusal 21 (arc_place s k)))
      (ap (λ j. arc_slacks_verdict whole (answer_marks s t) j (tabulate (arc_of s) n (suc k)) after) next ∙ slacks_of_arcs n (suc k))
      ∙ one (arc_slack_holds whole (answer_marks s t) (arc_of s k)) 20 (arc_place s k) (first_fault (arc_slack_fault s t) (arc_place s) n (suc k)) after
