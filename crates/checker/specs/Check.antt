-- Document 01, numbers 19 to 22, the check as a whole, and the hand-out of a path: "The graph is read wholly first. .. the checker gives 11 to 18
-- as the answer is read, then 19, 20, 21, 22 in that order, and 23 after 22."
use Rattle.std.specs.Prelude.{ℕ, zero, suc, ◌+◌, List, [], ◌∷◌, Bool, cond, not, ◌&&◌, ltb, leb, eqb, length, pos}
use Rattle.mathematics.specs.Price.{Prices, whole}
use Rattle.mathematics.specs.Lists.{some_holds}
use Rattle.mathematics.specs.Graph.{Vertex, Arc, Graph}
use Rattle.mathematics.specs.Cover.{Ask, Weighted, asks, total, paths, price}
use Rattle.mathematics.specs.Bound.{Marks, vertex_slacks_hold, arc_slack_holds, bound}
use Rattle.forms.specs.declared.Verdict.{Verdict}
use Rattle.forms.specs.AnswerFaults.{answer_header_verdict, marks_verdict, paths_verdict}
use Rattle.forms.specs.AnswerForm.{path_count, stated_price, in_mark_at, answer_marks, first_path_at, path_header_length, path_vertices, path_end, cover_of, mark_parts}
use Rattle.forms.specs.GraphFaults.{refusal, nothing_refused, graph_verdict}
use Rattle.forms.specs.GraphOf.{graph_of}

-- the two prices are equal: neither is above the other
abbrev pub same_price : (P : Prices) → P.El → P.El → Bool
same_price P a b = P.leb a b && P.leb b a

-- 19: "demand or read unmet", place "first such item". "Item" counts vertices, then arcs, then reads, from 0.
unfoldable pub demands_verdict : List Weighted → ℕ → List Ask → Verdict → Verdict
demands_verdict W k [] after = after
demands_verdict W k (a ∷ more) after =
    let rest = demands_verdict W (suc k) more after in
    cond (leb a.demand (total a.item W)) rest (refusal 19 k)

unfoldable pub reads_met_verdict : List Weighted → ℕ → List (List ℕ) → Verdict → Verdict
reads_met_verdict W k [] after = after
reads_met_verdict W k (r ∷ more) after =
    let rest = reads_met_verdict W (suc k) more after in
    cond (some_holds (paths W) r) rest (refusal 19 k)

module _ (P : Prices) where
  -- 21: "a slack below 0", place "first item, vertices before arcs"
  unfoldable pub vertex_slacks_verdict : Graph P.El → Marks P.El → ℕ → List Vertex → Verdict → Verdict
  vertex_slacks_verdict G m k [] after = after
  vertex_slacks_verdict G m k (x ∷ more) after =
      let rest = vertex_slacks_verdict G m (suc k) more after in
      cond (vertex_slacks_hold P G m k x) rest (refusal 21 k)

  unfoldable pub arc_slacks_verdict : Marks P.El → ℕ → List (Arc P.El) → Verdict → Verdict
  arc_slacks_verdict m k [] after = after
  arc_slacks_verdict m k (a ∷ more) after =
      let rest = arc_slacks_verdict m (suc k) more after in
      cond (arc_slack_holds P m a) rest (refusal 21 k)

  -- 19, 20, 21 and 22 for a graph, weighted paths, the price stated for them and marks. 20: "stated price differs from the paths' price";
  -- 22: "bound differs from the price"
  unfoldable pub certificate_verdict : Graph P.El → List Weighted → P.El → Marks P.El → Verdict
  certificate_verdict G W stated m =
      demands_verdict W 0 (asks G)
      (reads_met_verdict W (length G.vertices + length G.arcs) G.reads
      (cond (not (same_price P (price P G W) stated)) (refusal 20 0)
      (vertex_slacks_verdict G m 0 G.vertices
      (arc_slacks_verdict m (length G.vertices) G.arcs
      (cond (not (same_price P (bound P G m) stated)) (refusal 22 0) nothing_refused)))))

-- the number and place that checking the answer form t against the graph form s gives, s being a form that reads
unfoldable pub answer_verdict : List ℕ → List ℕ → Verdict
answer_verdict s t =
    answer_header_verdict s t
    (marks_verdict t (mark_parts s) (in_mark_at s 0)
    (paths_verdict s t (path_count t) (first_path_at s) [] 0
    (certificate_verdict whole (graph_of s) (cover_of s t) (pos (stated_price s t)) (answer_marks s t))))

unfoldable pub check_verdict : List ℕ → List ℕ → Verdict
check_verdict s t = cond (eqb (graph_verdict s).number 0) (answer_verdict s t) (graph_verdict s)

-- 23: "path number asked for not below the number of paths", after 22
unfoldable pub hand_out_verdict : List ℕ → List ℕ → ℕ → Verdict
hand_out_verdict s t k =
    cond (eqb (check_verdict s t).number 0) (cond (ltb k (path_count t)) nothing_refused (refusal 23 0)) (check_verdict s t)

-- the offset of path k, where the first path is at an offset
abbrev pub path_at : List ℕ → List ℕ → ℕ → ℕ → ℕ
path_at s t zero at = at
path_at s t (suc k) at = path_at s t k (path_end s t at)

-- "it gives the vertex bytes of that path as a part of the answer, or an empty part where the checker would refuse or 23 holds"
unfoldable pub handed_out : List ℕ → List ℕ → ℕ → List ℕ
handed_out s t k =
    cond (eqb (hand_out_verdict s t k).number 0) (path_vertices s t (path_at s t k (first_path_at s))) []

-- where in the answer this part begins: behind the weight and the vertex count of path k; an empty part is at the answer's front
unfoldable pub handed_out_at : List ℕ → List ℕ → ℕ → ℕ
handed_out_at s t k =
    cond (eqb (hand_out_verdict s t k).number 0) (path_at s t k (first_path_at s) + path_header_length s) 0
