-- What an accepted answer is, condition by condition: the verdict's number is 0 exactly where each test of numbers 1 to 22 passes, and then the place is 0 too.
-- Soundness reads the conditions off an accepted answer; completeness shows them of the answer that it writes.
use Rattle.std.proofs.Common.{ℕ, zero, suc, ◌+◌, ◌≤◌, arith, ◌≡◌, refl, ap, ◌∙◌, List, [], ◌∷◌, ◌↔◌, Bool, true, false, cond, not, ◌&&◌, ◌||◌, T, ltb, leb, eqb, nltb→le, leb→le, le→leb, eqb→eq, le-ltb, eq-eqb, ne_eqb, eqb-true, length, pos, neg_ℤ}
use lib.Dec.{eqb-suc-zero}
use borrow.Author.Tests.{eqb-false}
use lib.Signed.{le_z}
use Rattle.mathematics.specs.Price.{Prices, whole}
use Rattle.mathematics.specs.Lists.{All, some_holds}
use Rattle.mathematics.specs.Graph.{Vertex, Arc, Graph, is_path}
use Rattle.mathematics.specs.Cover.{Ask, Weighted, asks, total, paths, price}
use Rattle.mathematics.specs.Bound.{Marks, VertexSlacksHold, vertex_slacks_hold, arc_slack_holds, bound}
use Rattle.mathematics.proofs.Basics.{is_true}
use Rattle.forms.specs.declared.Verdict.{Verdict}
use Rattle.forms.specs.AnswerFaults.{answer_header_verdict, mark_fault, marks_verdict, list_before, path_fault, paths_verdict}
use Rattle.forms.specs.AnswerForm.{answer_length_word, answer_version_at, answer_version, path_count_at, path_count, stated_price, mark_part_length, in_mark_at, signed32, answer_marks, first_path_at, path_vertices_at, path_weight, path_length, path_vertices, path_end, cover_of, mark_parts}
use Rattle.forms.specs.GraphFaults.{refusal, nothing_refused, or_else, all_below, graph_verdict}
use Rattle.forms.specs.GraphForm.{vertex_count}
use Rattle.forms.specs.GraphOf.{graph_of}
use Rattle.forms.specs.Layout.{max_paths, max_weight, answer_version_of, max_path_length}
use Rattle.forms.specs.Limits.{mark_limit}
use Rattle.checker.specs.Check.{same_price, demands_verdict, reads_met_verdict, vertex_slacks_verdict, arc_slacks_verdict, certificate_verdict, answer_verdict, check_verdict}
use Rattle.checker.specs.Accepted.{AnswerHeaderRight, MarkRight, MarksRight, PathRight, PathsRight, Certified, Accepted}

-- a test that refuses with a number that is not 0, and what comes after it
refused : (b : Bool) (k at : ℕ) (after : Verdict) → (cond b (refusal (suc k) at) after).number ≡ 0 → T (not b) × (after.number ≡ 0)
refused true k at after e = absurd (omega arith)
refused false k at after e = (tt, e)

passed_by : (b : Bool) (r after : Verdict) → T b → cond (not b) r after ≡ after
passed_by true r after t = refl
passed_by false r after t = absurd t

-- a test that has to hold
pub held : (b : Bool) (k at : ℕ) (after : Verdict) → (cond b after (refusal (suc k) at)).number ≡ 0 → T b × (after.number ≡ 0)
held true k at after e = (tt, e)
held false k at after e = absurd (omega arith)

holding : (b : Bool) (after r : Verdict) → T b → cond b after r ≡ after
holding true after r t = refl
holding false after r t = absurd t

pub fault_refused : (fault at : ℕ) (after : Verdict) → (or_else fault at after).number ≡ 0 → (fault ≡ 0) × (after.number ≡ 0)
fault_refused zero at after e = (refl, e)
fault_refused (suc k) at after e = absurd (omega (arith, rw eqb-suc-zero at e))

fault_passed : (fault at : ℕ) (after : Verdict) → fault ≡ 0 → or_else fault at after ≡ after
fault_passed fault at after e = rw e

not_zero : (k : ℕ) → T (not (eqb k 0)) → 1 ≤ k
not_zero zero t = absurd t
not_zero (suc k) t = omega arith

twice_not : (a : Bool) → T (not (not a)) → T a
twice_not true t = tt
twice_not false t = t

-- an earlier refusal comes before all later ones
pub earlier_first : (g a : Verdict) → (cond (eqb g.number 0) a g).number ≡ 0 → (g.number ≡ 0) × (a.number ≡ 0)
earlier_first g a e = at (eqb g.number 0) refl e
  where
    at : (b : Bool) → eqb g.number 0 ≡ b → (cond b a g).number ≡ 0 → (g.number ≡ 0) × (a.number ≡ 0)
    at true p e = (eqb-true _ _ p, e)
    at false p e = absurd (eqb-false _ _ p e)

-- 11, 12, 13
header_tests : (a b c d : Bool) (after : Verdict) → (cond (a || not b) (refusal 11 0) (cond (not c) (refusal 12 answer_version_at) (cond d (refusal 13 path_count_at) after))).number ≡ 0 →
    T (not a) × T b × T c × T (not d) × (after.number ≡ 0)
header_tests true b c d after e = absurd (omega arith)
header_tests false false c d after e = absurd (omega arith)
header_tests false true false d after e = absurd (omega arith)
header_tests false true true true after e = absurd (omega arith)
header_tests false true true false after e = (tt, tt, tt, tt, e)

pub header_read : (s t : List ℕ) (after : Verdict) → (answer_header_verdict s t after).number ≡ 0 → AnswerHeaderRight s t × (after.number ≡ 0)
unfolding answer_header_verdict
header_read s t after e =
    let h =
    header_tests (ltb (length t) (first_path_at s)) (eqb (answer_length_word t) (length t)) (eqb (answer_version t) (answer_version_of s))
    (ltb (max_paths s) (path_count t)) after e in (
      record {
        long = nltb→le _ _ h.0;
        length_stated = eqb→eq _ _ h.1;
        version_known = eqb→eq _ _ h.2;
        few_paths = nltb→le _ _ h.3;
      },
      h.4,
    )

header_passed : (s t : List ℕ) (after : Verdict) → AnswerHeaderRight s t → answer_header_verdict s t after ≡ after
unfolding answer_header_verdict
header_passed s t after h =
    simp (le-ltb _ _ h.long, eq-eqb _ _ h.length_stated, eq-eqb _ _ h.version_known, le-ltb _ _ h.few_paths)

-- 14
mark_tests : (a b : Bool) → ◌≡◌ {A = ℕ} (cond (a && b) 0 14) 0 → T a × T b
mark_tests true true e = (tt, tt)
mark_tests true false e = absurd (omega arith)
mark_tests false b e = absurd (omega arith)

mark_passed : (t : List ℕ) (at : ℕ) → MarkRight t at → mark_fault t at ≡ 0
unfolding mark_fault
mark_passed t at h =
    simp (is_true (le_z (neg_ℤ (pos mark_limit)) (signed32 t at)) h.0, is_true (le_z (signed32 t at) (pos mark_limit)) h.1)

marks_read : (t : List ℕ) (count at : ℕ) (after : Verdict) → (marks_verdict t count at after).number ≡ 0 → MarksRight t count at × (after.number ≡ 0)
unfolding marks_verdict mark_fault
marks_read t zero at after e = (tt, e)
marks_read t (suc count) at after e =
    let h = fault_refused (mark_fault t at) at (marks_verdict t count (at + mark_part_length) after) e in
    let more = marks_read t count (at + mark_part_length) after h.1 in
    ((mark_tests (le_z (neg_ℤ (pos mark_limit)) (signed32 t at)) (le_z (signed32 t at) (pos mark_limit)) h.0, more.0), more.1)

marks_passed : (t : List ℕ) (count at : ℕ) (after : Verdict) → MarksRight t count at → marks_verdict t count at after ≡ after
unfolding marks_verdict
marks_passed t zero at after h = refl
marks_passed t (suc count) at after h = fault_passed _ at _ (mark_passed t at h.0) ∙ marks_passed t count (at + mark_part_length) after h.1

-- 15 to 18
path_tests : (a b c d e f g h i : Bool) →
    ◌≡◌ {A = ℕ} (cond a 15 (cond (b || c) 16 (cond d 15 (cond (e || f) 17 (cond (not (g && h)) 16 (cond i 0 18)))))) 0 →
    T (not b) × T (not c) × T (not d) × T (not e) × T (not f) × T g × T h × T i
path_tests true b c d e f g h i z = absurd (omega arith)
path_tests false true c d e f g h i z = absurd (omega arith)
path_tests false false true d e f g h i z = absurd (omega arith)
path_tests false false false true e f g h i z = absurd (omega arith)
path_tests false false false false true f g h i z = absurd (omega arith)
path_tests false false false false false true g h i z = absurd (omega arith)
path_tests false false false false false false false h i z = absurd (omega arith)
path_tests false false false false false false true false i z = absurd (omega arith)
path_tests false false false false false false true true false z = absurd (omega arith)
path_tests false false false false false false true true true z = (tt, tt, tt, tt, tt, tt, tt, tt)

path_read : (s t : List ℕ) (at : ℕ) (before : List ℕ) (copies : ℕ) → path_fault s t at before copies ≡ 0 → PathRight s t at before copies
unfolding path_fault
path_read s t at before copies e =
    let h =
    path_tests (ltb (length t) (path_vertices_at s at)) (eqb (path_length s t at) 0) (ltb (max_path_length s) (path_length s t at)) (ltb (length t) (path_end s t at))
    (eqb (path_weight t at) 0) (ltb (max_weight s) (copies + path_weight t at)) (all_below (vertex_count s) (path_vertices s t at))
    (is_path (graph_of s) (path_vertices s t at)) (list_before before (path_vertices s t at)) e in
    record {
      some_vertex = not_zero _ h.0;
      few_vertices = nltb→le _ _ h.1;
      within = nltb→le _ _ h.2;
      some_copy = not_zero _ h.3;
      few_copies = nltb→le _ _ h.4;
      vertices_known = h.5;
      is_a_path = h.6;
      ascends = h.7;
    }

path_passed : (s t : List ℕ) (at : ℕ) (before : List ℕ) (copies : ℕ) → PathRight s t at before copies → path_fault s t at before copies ≡ 0
unfolding path_fault
path_passed s t at before copies h =
    let header : path_vertices_at s at ≤ length t = omega (arith, h.within) in
    let length-not-0 : (path_length s t at ≡ 0 → ⊥) = λ e. omega (arith, h.some_vertex) in
    let weight-not-0 : (path_weight t at ≡ 0 → ⊥) = λ e. omega (arith, h.some_copy) in
    simp (
      le-ltb _ _ header,
      ne_eqb _ _ length-not-0,
      le-ltb _ _ h.few_vertices,
      le-ltb _ _ h.within,
      ne_eqb _ _ weight-not-0,
      le-ltb _ _ h.few_copies,
      is_true (all_below (vertex_count s) (path_vertices s t at)) h.vertices_known,
      is_true (is_path (graph_of s) (path_vertices s t at)) h.is_a_path,
      is_true (list_before before (path_vertices s t at)) h.ascends,
    )

paths_read : (s t : List ℕ) (count at : ℕ) (before : List ℕ) (copies : ℕ) (after : Verdict) → (paths_verdict s t count at before copies after).number ≡ 0 →
    PathsRight s t count at before copies × (after.number ≡ 0)
unfolding paths_verdict
paths_read s t zero at before copies after e = let h = refused (ltb at (length t)) 14 at after e in (nltb→le _ _ h.0, h.1)
paths_read s t (suc count) at before copies after e =
    let h =
    fault_refused (path_fault s t at before copies) at (paths_verdict s t count (path_end s t at) (path_vertices s t at) (copies + path_weight t at) after) e in
    let more = paths_read s t count (path_end s t at) (path_vertices s t at) (copies + path_weight t at) after h.1 in
    ((path_read s t at before copies h.0, more.0), more.1)

paths_passed : (s t : List ℕ) (count at : ℕ) (before : List ℕ) (copies : ℕ) (after : Verdict) → PathsRight s t count at before copies →
    paths_verdict s t count at before copies after ≡ after
unfolding paths_verdict
paths_passed s t zero at before copies after h = simp (le-ltb _ _ h)
paths_passed s t (suc count) at before copies after h =
    fault_passed (path_fault s t at before copies) at (paths_verdict s t count (path_end s t at) (path_vertices s t at) (copies + path_weight t at) after)
    (path_passed s t at before copies h.0) ∙
    paths_passed s t count (path_end s t at) (path_vertices s t at) (copies + path_weight t at) after h.1

-- 19
demands_read : (W : List Weighted) (k : ℕ) (more : List Ask) (after : Verdict) → (demands_verdict W k more after).number ≡ 0 →
    All (λ a. a.demand ≤ total a.item W) more × (after.number ≡ 0)
unfolding demands_verdict
demands_read W k [] after e = (tt, e)
demands_read W k (a ∷ more) after e =
    let h = held (leb a.demand (total a.item W)) 18 k (demands_verdict W (suc k) more after) e in
    let others = demands_read W (suc k) more after h.1 in
    ((leb→le _ _ h.0, others.0), others.1)

demands_passed : (W : List Weighted) (k : ℕ) (more : List Ask) (after : Verdict) → All (λ a. a.demand ≤ total a.item W) more → demands_verdict W k more after ≡ after
unfolding demands_verdict
demands_passed W k [] after h = refl
demands_passed W k (a ∷ more) after h =
    holding (leb a.demand (total a.item W)) (demands_verdict W (suc k) more after) (refusal 19 k) (le→leb _ _ h.0) ∙
    demands_passed W (suc k) more after h.1

reads_read : (W : List Weighted) (k : ℕ) (more : List (List ℕ)) (after : Verdict) → (reads_met_verdict W k more after).number ≡ 0 →
    All (λ r. T (some_holds (paths W) r)) more × (after.number ≡ 0)
unfolding reads_met_verdict
reads_read W k [] after e = (tt, e)
reads_read W k (r ∷ more) after e =
    let h = held (some_holds (paths W) r) 18 k (reads_met_verdict W (suc k) more after) e in
    let others = reads_read W (suc k) more after h.1 in
    ((h.0, others.0), others.1)

reads_passed : (W : List Weighted) (k : ℕ) (more : List (List ℕ)) (after : Verdict) → All (λ r. T (some_holds (paths W) r)) more → reads_met_verdict W k more after ≡ after
unfolding reads_met_verdict
reads_passed W k [] after h = refl
reads_passed W k (r ∷ more) after h =
    holding (some_holds (paths W) r) (reads_met_verdict W (suc k) more after) (refusal 19 k) h.0 ∙ reads_passed W (suc k) more after h.1

module _ (P : Prices) where
  -- 21
  vertex_slacks_read : (G : Graph P.El) (m : Marks P.El) (k : ℕ) (more : List Vertex) (after : Verdict) →
      (vertex_slacks_verdict P G m k more after).number ≡ 0 → VertexSlacksHold P G m k more × (after.number ≡ 0)
  unfolding vertex_slacks_verdict
  vertex_slacks_read G m k [] after e = (tt, e)
  vertex_slacks_read G m k (x ∷ more) after e =
      let h = held (vertex_slacks_hold P G m k x) 20 k (vertex_slacks_verdict P G m (suc k) more after) e in
      let others = vertex_slacks_read G m (suc k) more after h.1 in
      ((h.0, others.0), others.1)

  vertex_slacks_passed : (G : Graph P.El) (m : Marks P.El) (k : ℕ) (more : List Vertex) (after : Verdict) →
      VertexSlacksHold P G m k more → vertex_slacks_verdict P G m k more after ≡ after
  unfolding vertex_slacks_verdict
  vertex_slacks_passed G m k [] after h = refl
  vertex_slacks_passed G m k (x ∷ more) after h =
      holding (vertex_slacks_hold P G m k x) (vertex_slacks_verdict P G m (suc k) more after) (refusal 21 k) h.0 ∙
      vertex_slacks_passed G m (suc k) more after h.1

  arc_slacks_read : (m : Marks P.El) (k : ℕ) (more : List (Arc P.El)) (after : Verdict) →
      (arc_slacks_verdict P m k more after).number ≡ 0 → All (λ a. T (arc_slack_holds P m a)) more × (after.number ≡ 0)
  unfolding arc_slacks_verdict
  arc_slacks_read m k [] after e = (tt, e)
  arc_slacks_read m k (a ∷ more) after e =
      let h = held (arc_slack_holds P m a) 20 k (arc_slacks_verdict P m (suc k) more after) e in
      let others = arc_slacks_read m (suc k) more after h.1 in
      ((h.0, others.0), others.1)

  arc_slacks_passed : (m : Marks P.El) (k : ℕ) (more : List (Arc P.El)) (after : Verdict) →
      All (λ a. T (arc_slack_holds P m a)) more → arc_slacks_verdict P m k more after ≡ after
  unfolding arc_slacks_verdict
  arc_slacks_passed m k [] after h = refl
  arc_slacks_passed m k (a ∷ more) after h =
      holding (arc_slack_holds P m a) (arc_slacks_verdict P m (suc k) more after) (refusal 21 k) h.0 ∙ arc_slacks_passed m (suc k) more after h.1

  -- 19 to 22
  pub certificate_read : (G : Graph P.El) (W : List Weighted) (stated : P.El) (m : Marks P.El) →
      (certificate_verdict P G W stated m).number ≡ 0 → Certified P G W stated m
  unfolding certificate_verdict
  certificate_read G W stated m e =
      let v₂₂ = cond (not (same_price P (bound P G m) stated)) (refusal 22 0) nothing_refused in
      let v₂₁ = vertex_slacks_verdict P G m 0 G.vertices (arc_slacks_verdict P m (length G.vertices) G.arcs v₂₂) in
      let v₂₀ = cond (not (same_price P (price P G W) stated)) (refusal 20 0) v₂₁ in
      let d = demands_read W 0 (asks G) (reads_met_verdict W (length G.vertices + length G.arcs) G.reads v₂₀) e in
      let r = reads_read W (length G.vertices + length G.arcs) G.reads v₂₀ d.1 in
      let p = refused (not (same_price P (price P G W) stated)) 19 0 v₂₁ r.1 in
      let v = vertex_slacks_read G m 0 G.vertices (arc_slacks_verdict P m (length G.vertices) G.arcs v₂₂) p.1 in
      let a = arc_slacks_read m (length G.vertices) G.arcs v₂₂ v.1 in
      let b = refused (not (same_price P (bound P G m) stated)) 21 0 nothing_refused a.1 in
      record {
        demands_met = d.0;
        reads_met = r.0;
        price_stated = twice_not (same_price P (price P G W) stated) p.0;
        slacks_hold = record { vertices_hold = v.0; arcs_hold = a.0 };
        bound_stated = twice_not (same_price P (bound P G m) stated) b.0;
      }

  pub certificate_passed : (G : Graph P.El) (W : List Weighted) (stated : P.El) (m : Marks P.El) →
      Certified P G W stated m → certificate_verdict P G W stated m ≡ nothing_refused
  unfolding certificate_verdict
  certificate_passed G W stated m h =
      let v₂₂ = cond (not (same_price P (bound P G m) stated)) (refusal 22 0) nothing_refused in
      let v₂₁ = vertex_slacks_verdict P G m 0 G.vertices (arc_slacks_verdict P m (length G.vertices) G.arcs v₂₂) in
      let v₂₀ = cond (not (same_price P (price P G W) stated)) (refusal 20 0) v₂₁ in
      demands_passed W 0 (asks G) (reads_met_verdict W (length G.vertices + length G.arcs) G.reads v₂₀) h.demands_met ∙
      (reads_passed W (length G.vertices + length G.arcs) G.reads v₂₀ h.reads_met ∙
      (passed_by (same_price P (price P G W) stated) (refusal 20 0) v₂₁ h.price_stated ∙
      (vertex_slacks_passed G m 0 G.vertices (arc_slacks_verdict P m (length G.vertices) G.arcs v₂₂) h.slacks_hold.vertices_hold ∙
      (arc_slacks_passed m (length G.vertices) G.arcs v₂₂ h.slacks_hold.arcs_hold ∙
      passed_by (same_price P (bound P G m) stated) (refusal 22 0) nothing_refused h.bound_stated))))

answer_read : (s t : List ℕ) → (graph_verdict s).number ≡ 0 → (answer_verdict s t).number ≡ 0 → Accepted s t
unfolding answer_verdict
answer_read s t reads e =
    let last = certificate_verdict whole (graph_of s) (cover_of s t) (pos (stated_price s t)) (answer_marks s t) in
    let walked = paths_verdict s t (path_count t) (first_path_at s) [] 0 last in
    let h = header_read s t (marks_verdict t (mark_parts s) (in_mark_at s 0) walked) e in
    let m = marks_read t (mark_parts s) (in_mark_at s 0) walked h.1 in
    let p = paths_read s t (path_count t) (first_path_at s) [] 0 last m.1 in
    record {
      graph_reads = reads;
      header = h.0;
      marks = m.0;
      paths = p.0;
      certificate = certificate_read whole (graph_of s) (cover_of s t) (pos (stated_price s t)) (answer_marks s t) p.1;
    }

answer_passed : (s t : List ℕ) → Accepted s t → answer_verdict s t ≡ nothing_refused
unfolding answer_verdict
answer_passed s t h =
    let last = certificate_verdict whole (graph_of s) (cover_of s t) (pos (stated_price s t)) (answer_marks s t) in
    let walked = paths_verdict s t (path_count t) (first_path_at s) [] 0 last in
    header_passed s t (marks_verdict t (mark_parts s) (in_mark_at s 0) walked) h.header ∙
    (marks_passed t (mark_parts s) (in_mark_at s 0) walked h.marks ∙
    (paths_passed s t (path_count t) (first_path_at s) [] 0 last h.paths ∙
    certificate_passed whole (graph_of s) (cover_of s t) (pos (stated_price s t)) (answer_marks s t) h.certificate))

-- what a verdict of 0 on graph and answer says, test by test
pub number_zero_accepted : (s t : List ℕ) → (check_verdict s t).number ≡ 0 → Accepted s t
unfolding check_verdict
number_zero_accepted s t e =
    let h = earlier_first (graph_verdict s) (answer_verdict s t) e in
    answer_read s t h.0 h.1

-- where each test passes nothing is refused: number and place are 0
pub accepted_nothing_refused : (s t : List ℕ) → Accepted s t → check_verdict s t ≡ nothing_refused
unfolding check_verdict
accepted_nothing_refused s t h = simp (eq-eqb _ _ h.graph_reads) (answer_passed s t h)

-- the number is 0 exactly where each test of numbers 1 to 22 passes
pub number_zero_iff_accepted : (s t : List ℕ) → ((check_verdict s t).number ≡ 0) ↔ Accepted s t
number_zero_iff_accepted s t = (number_zero_accepted s t, λ h. ap (λ (v : Verdict). v.number) (accepted_nothing_refused s t h))
