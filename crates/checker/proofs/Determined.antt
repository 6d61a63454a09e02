-- Each public call's promise determines its result: any two results allowed are equal. And the numbers that can come, and the place where nothing is refused.
-- "Each public call's promise determines number, place and all bytes lent to it, for each input, refused or not"
use Rattle.std.proofs.Common.{ℕ, zero, suc, ◌+◌, ◌≤◌, arith, ◌≡◌, refl, sym, ap, ◌∙◌, List, [], ◌∷◌, Bool, true, false, cond, not, ◌&&◌, ◌||◌, ◌⊎◌, inl, inr, T, ltb, leb, eqb, leb→le, Bor, eq-eqb, lt-ltb, length, pos, neg_ℤ}
use Rattle.mathematics.proofs.Basics.{and_l, and_r}
use lib.Signed.{le_z}
use Rattle.mathematics.specs.Price.{Prices, whole}
use Rattle.mathematics.specs.Lists.{some_holds}
use Rattle.mathematics.specs.Graph.{Vertex, Arc, Graph, is_path}
use Rattle.mathematics.specs.Cover.{Ask, Weighted, asks, total, paths, price}
use Rattle.mathematics.specs.Bound.{Marks, vertex_slacks_hold, arc_slack_holds, bound}
use Rattle.forms.specs.declared.Verdict.{Verdict}
use Rattle.forms.specs.AnswerFaults.{answer_header_verdict, mark_fault, marks_verdict, list_before, path_fault, paths_verdict}
use Rattle.forms.specs.AnswerForm.{answer_length_word, answer_version_at, answer_version, path_count_at, path_count, stated_price, mark_part_length, in_mark_at, signed32, answer_marks, first_path_at, path_vertices_at, path_weight, path_length, path_vertices, path_end, cover_of, mark_parts}
use Rattle.forms.specs.GraphFaults.{refusal, nothing_refused, or_else, all_below, graph_verdict}
use Rattle.forms.specs.GraphForm.{vertex_count}
use Rattle.forms.specs.GraphOf.{graph_of}
use Rattle.forms.specs.Layout.{max_paths, max_weight, answer_version_of, max_path_length}
use Rattle.forms.specs.Limits.{mark_limit}
use Rattle.checker.specs.Check.{same_price, demands_verdict, reads_met_verdict, vertex_slacks_verdict, arc_slacks_verdict, certificate_verdict, answer_verdict, check_verdict, hand_out_verdict, handed_out, handed_out_at}
use Rattle.checker.specs.HandedOut.{PartFound, part_of}
use Rattle.std.specs.Prelude.{Result}
use Rattle.checker.specs.declared.check.PathPart.{PathPart}
use Rattle.forms.specs.declared.refusals.Refused.{Refused}
use Rattle.forms.specs.Refusals.{verdict_of}
use Rattle.forms.proofs.ResultLaws.{same_result, same_verdict}
use Rattle.checker.proofs.GraphReads.{number_to_seven}
use Rattle.checker.proofs.Accepted.{number_zero_accepted, accepted_nothing_refused}
use Rattle.checker.proofs.HandedOut.{number_zero_handed_out}

-- the check: any two results that are the verdict are equal
pub check_determined : (s t : List ℕ) (r r' : Result (Unit {0}) Refused) → verdict_of r ≡ check_verdict s t → verdict_of r' ≡ check_verdict s t → r ≡ r'
check_determined s t r r' e d = same_verdict r r' (e ∙ sym d)

-- the sister call of the hand-out
pub hand_out_verdict_determined : (s t : List ℕ) (k : ℕ) (r r' : Result (Unit {0}) Refused) → verdict_of r ≡ hand_out_verdict s t k → verdict_of r' ≡ hand_out_verdict s t k → r ≡ r'
hand_out_verdict_determined s t k r r' e d = same_verdict r r' (e ∙ sym d)

-- the part by numbers: number, place, offset and length
pub part_determined : {s t : List ℕ} {k number place offset count number' place' offset' count' : ℕ} → PartFound s t k number place offset count → PartFound s t k number' place' offset' count' →
    (refusal number place ≡ refusal number' place') × (offset ≡ offset') × (count ≡ count')
part_determined e d = (e.verdict ∙ sym d.verdict, e.begins ∙ sym d.begins, e.long ∙ sym d.long)

pub find_path_determined : (s t : List ℕ) (k : ℕ) (r r' : Result PathPart Refused) → PartFound s t k (verdict_of r).number (verdict_of r).place (part_of r).offset (part_of r).length →
    PartFound s t k (verdict_of r').number (verdict_of r').place (part_of r').offset (part_of r').length → r ≡ r'
find_path_determined s t k r r' e d =
    let same = part_determined e d in
    let parts : part_of r ≡ part_of r' = λ i. record { offset = same.1 i; length = same.2 i } in
    same_result r r' same.0 (λ a a' p q. sym (ap part_of p) ∙ parts ∙ ap part_of q)

-- the part handed out: its bytes, and its place in memory, which is a block and an offset. The clauses are those of the call
pub hand_out_determined : (s : List ℕ) (answer r r' : Bor (List ℕ)) (k : ℕ) →
    r.now ≡ handed_out s answer.now k → (r.ref_ptr.0 ≡ answer.ref_ptr.0) × (r.ref_ptr.1 ≡ answer.ref_ptr.1 + handed_out_at s answer.now k) →
    r'.now ≡ handed_out s answer.now k → (r'.ref_ptr.0 ≡ answer.ref_ptr.0) × (r'.ref_ptr.1 ≡ answer.ref_ptr.1 + handed_out_at s answer.now k) →
    (r.now ≡ r'.now) × (r.ref_ptr ≡ r'.ref_ptr)
hand_out_determined s answer r r' k e at d at' =
    (e ∙ sym d, λ i. ((at.0 ∙ sym at'.0) i, (at.1 ∙ sym at'.1) i))

-- "both are 0 where nothing is refused"
pub check_place_zero : (s t : List ℕ) → (check_verdict s t).number ≡ 0 → (check_verdict s t).place ≡ 0
check_place_zero s t e = ap (λ (v : Verdict). v.place) (accepted_nothing_refused s t (number_zero_accepted s t e))

pub hand_out_place_zero : (s t : List ℕ) (k : ℕ) → (hand_out_verdict s t k).number ≡ 0 → (hand_out_verdict s t k).place ≡ 0
unfolding hand_out_verdict
hand_out_place_zero s t k e =
    let h = number_zero_handed_out s t k e in
    simp (eq-eqb _ _ h.0, lt-ltb _ _ h.1)

-- 0, or a number of the answer's refusals
abbrev pub AnswerNumber : ℕ → Type 0
AnswerNumber n = (n ≡ 0) ⊎ ((11 ≤ n) × (n ≤ 22))

either : {A : Type 0} (Q : A → Type 0) (b : Bool) (x y : A) → Q x → Q y → Q (cond b x y)
either Q true x y h k = h
either Q false x y h k = k

abbrev Numbered : Verdict → Type 0
Numbered v = AnswerNumber v.number

some : (n : ℕ) → T (leb 11 n && leb n 22) → AnswerNumber n
some n t = inr (leb→le 11 n (and_l (leb 11 n) (leb n 22) t), leb→le n 22 (and_r (leb 11 n) (leb n 22) t))

or_else_numbered : (fault at : ℕ) (after : Verdict) → AnswerNumber fault → Numbered after → Numbered (or_else fault at after)
or_else_numbered fault at after f h = either Numbered (eqb fault 0) after (refusal fault at) h f

header_numbered : (s t : List ℕ) (after : Verdict) → Numbered after → Numbered (answer_header_verdict s t after)
unfolding answer_header_verdict
header_numbered s t after h =
    let v₁₃ = cond (ltb (max_paths s) (path_count t)) (refusal 13 path_count_at) after in
    let v₁₂ = cond (not (eqb (answer_version t) (answer_version_of s))) (refusal 12 answer_version_at) v₁₃ in
    either Numbered (ltb (length t) (first_path_at s) || not (eqb (answer_length_word t) (length t))) (refusal 11 0) v₁₂ (some 11 tt)
    (either Numbered (not (eqb (answer_version t) (answer_version_of s))) (refusal 12 answer_version_at) v₁₃ (some 12 tt) (either Numbered (ltb (max_paths s) (path_count t)) (refusal 13 path_count_at) after (some 13 tt) h))

marks_numbered : (t : List ℕ) (count at : ℕ) (after : Verdict) → Numbered after → Numbered (marks_verdict t count at after)
unfolding marks_verdict mark_fault
marks_numbered t zero at after h = h
marks_numbered t (suc count) at after h =
    or_else_numbered (mark_fault t at) at (marks_verdict t count (at + mark_part_length) after)
    (either AnswerNumber (le_z (neg_ℤ (pos mark_limit)) (signed32 t at) && le_z (signed32 t at) (pos mark_limit)) 0 14 (inl refl) (some 14 tt))
    (marks_numbered t count (at + mark_part_length) after h)

path_numbered : (a b c d e f : Bool) → AnswerNumber (cond a 15 (cond b 16 (cond c 15 (cond d 17 (cond e 16 (cond f 0 18))))))
path_numbered true b c d e f = some 15 tt
path_numbered false true c d e f = some 16 tt
path_numbered false false true d e f = some 15 tt
path_numbered false false false true e f = some 17 tt
path_numbered false false false false true f = some 16 tt
path_numbered false false false false false true = inl refl
path_numbered false false false false false false = some 18 tt

paths_numbered : (s t : List ℕ) (count at : ℕ) (before : List ℕ) (copies : ℕ) (after : Verdict) → Numbered after → Numbered (paths_verdict s t count at before copies after)
unfolding paths_verdict path_fault
paths_numbered s t zero at before copies after h = either Numbered (ltb at (length t)) (refusal 15 at) after (some 15 tt) h
paths_numbered s t (suc count) at before copies after h =
    or_else_numbered (path_fault s t at before copies) at (paths_verdict s t count (path_end s t at) (path_vertices s t at) (copies + path_weight t at) after)
    (path_numbered (ltb (length t) (path_vertices_at s at)) (eqb (path_length s t at) 0 || ltb (max_path_length s) (path_length s t at)) (ltb (length t) (path_end s t at))
    (eqb (path_weight t at) 0 || ltb (max_weight s) (copies + path_weight t at)) (not (all_below (vertex_count s) (path_vertices s t at) && is_path (graph_of s) (path_vertices s t at)))
    (list_before before (path_vertices s t at)))
    (paths_numbered s t count (path_end s t at) (path_vertices s t at) (copies + path_weight t at) after h)

demands_numbered : (W : List Weighted) (k : ℕ) (more : List Ask) (after : Verdict) → Numbered after → Numbered (demands_verdict W k more after)
unfolding demands_verdict
demands_numbered W k [] after h = h
demands_numbered W k (a ∷ more) after h =
    either Numbered (leb a.demand (total a.item W)) (demands_verdict W (suc k) more after) (refusal 19 k) (demands_numbered W (suc k) more after h) (some 19 tt)

reads_numbered : (W : List Weighted) (k : ℕ) (more : List (List ℕ)) (after : Verdict) → Numbered after → Numbered (reads_met_verdict W k more after)
unfolding reads_met_verdict
reads_numbered W k [] after h = h
reads_numbered W k (r ∷ more) after h =
    either Numbered (some_holds (paths W) r) (reads_met_verdict W (suc k) more after) (refusal 19 k) (reads_numbered W (suc k) more after h) (some 19 tt)

module _ (P : Prices) where
  vertices_numbered : (G : Graph P.El) (m : Marks P.El) (k : ℕ) (more : List Vertex) (after : Verdict) → Numbered after → Numbered (vertex_slacks_verdict P G m k more after)
  unfolding vertex_slacks_verdict
  vertices_numbered G m k [] after h = h
  vertices_numbered G m k (x ∷ more) after h =
      either Numbered (vertex_slacks_hold P G m k x) (vertex_slacks_verdict P G m (suc k) more after) (refusal 21 k) (vertices_numbered G m (suc k) more after h) (some 21 tt)

  arcs_numbered : (m : Marks P.El) (k : ℕ) (more : List (Arc P.El)) (after : Verdict) → Numbered after → Numbered (arc_slacks_verdict P m k more after)
  unfolding arc_slacks_verdict
  arcs_numbered m k [] after h = h
  arcs_numbered m k (a ∷ more) after h =
      either Numbered (arc_slack_holds P m a) (arc_slacks_verdict P m (suc k) more after) (refusal 21 k) (arcs_numbered m (suc k) more after h) (some 21 tt)

  certificate_numbered : (G : Graph P.El) (W : List Weighted) (stated : P.El) (m : Marks P.El) → Numbered (certificate_verdict P G W stated m)
  unfolding certificate_verdict
  certificate_numbered G W stated m =
      let v₂₂ = cond (not (same_price P (bound P G m) stated)) (refusal 22 0) nothing_refused in
      let arcs = arc_slacks_verdict P m (length G.vertices) G.arcs v₂₂ in
      let v₂₁ = vertex_slacks_verdict P G m 0 G.vertices arcs in
      let v₂₀ = cond (not (same_price P (price P G W) stated)) (refusal 20 0) v₂₁ in
      demands_numbered W 0 (asks G) (reads_met_verdict W (length G.vertices + length G.arcs) G.reads v₂₀)
      (reads_numbered W (length G.vertices + length G.arcs) G.reads v₂₀
      (either Numbered (not (same_price P (price P G W) stated)) (refusal 20 0) v₂₁ (some 20 tt)
      (vertices_numbered G m 0 G.vertices arcs
      (arcs_numbered m (length G.vertices) G.arcs v₂₂ (either Numbered (not (same_price P (bound P G m) stated)) (refusal 22 0) nothing_refused (some 22 tt) (inl refl))))))

answer_numbered : (s t : List ℕ) → Numbered (answer_verdict s t)
unfolding answer_verdict
answer_numbered s t =
    let last = certificate_verdict whole (graph_of s) (cover_of s t) (pos (stated_price s t)) (answer_marks s t) in
    let walked = paths_verdict s t (path_count t) (first_path_at s) [] 0 last in
    header_numbered s t (marks_verdict t (mark_parts s) (in_mark_at s 0) walked)
    (marks_numbered t (mark_parts s) (in_mark_at s 0) walked
    (paths_numbered s t (path_count t) (first_path_at s) [] 0 last (certificate_numbered whole (graph_of s) (cover_of s t) (pos (stated_price s t)) (answer_marks s t))))

-- the check's number is one of 0 to 7 and 11 to 22
pub check_number : (s t : List ℕ) → ((check_verdict s t).number ≤ 7) ⊎ ((11 ≤ (check_verdict s t).number) × ((check_verdict s t).number ≤ 22))
unfolding check_verdict
check_number s t =
    either (λ v. (v.number ≤ 7) ⊎ ((11 ≤ v.number) × (v.number ≤ 22))) (eqb (graph_verdict s).number 0) (answer_verdict s t) (graph_verdict s)
    (elim (answer_numbered s t) [ inl e ↦ inl (omega arith) | inr h ↦ inr h ]) (inl (number_to_seven s))

-- the sister call's may be 23 too
pub hand_out_number : (s t : List ℕ) (k : ℕ) → ((hand_out_verdict s t k).number ≤ 7) ⊎ ((11 ≤ (hand_out_verdict s t k).number) × ((hand_out_verdict s t k).number ≤ 23))
unfolding hand_out_verdict
hand_out_number s t k =
    let One : Verdict → Type 0 = λ v. (v.number ≤ 7) ⊎ ((11 ≤ v.number) × (v.number ≤ 23)) in
    either One (eqb (check_verdict s t).number 0) (cond (ltb k (path_count t)) nothing_refused (refusal 23 0)) (check_verdict s t)
    (either One (ltb k (path_count t)) nothing_refused (refusal 23 0) (inl (omega arith)) (inr (omega arith)))
    (elim (check_number s t) [ inl e ↦ inl e | inr h ↦ inr (h.0, omega (arith, h.1)) ])
