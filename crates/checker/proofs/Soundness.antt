-- Soundness of the checker: an accepted answer's paths are a cover of the graph, at the stated price, and no cover of any size has a lower price.
use Rattle.std.proofs.Common.{ℕ, zero, suc, ◌+◌, ◌*◌, ◌≤◌, mul-suc, mul-le-mul_left, arith, ◌≡◌, sym, ◌∙◌, List, [], T, length, pos}
use Rattle.mathematics.specs.Price.{Prices, Ordered, whole}
use Rattle.mathematics.specs.Lists.{All}
use Rattle.mathematics.specs.Graph.{is_path}
use Rattle.mathematics.specs.Cover.{IsCover, IsLowest, paths, price}
use Rattle.mathematics.specs.Bound.{bound}
use Rattle.mathematics.proofs.Basics.{and_l, and_r}
use Rattle.mathematics.proofs.PriceKinds.{whole_ordered}
use Rattle.mathematics.proofs.Lowest.{shown_is_lowest}
use Rattle.forms.specs.AnswerForm.{path_count, stated_price, answer_marks, first_path_at, path_header_length, path_weight, path_vertices, path_end, paths_from, cover_of}
use Rattle.forms.specs.GraphForm.{vertex_count}
use Rattle.forms.specs.GraphOf.{graph_of}
use Rattle.forms.specs.Layout.{max_vertices, max_path_length, longest_answer}
use Rattle.checker.specs.Check.{same_price, check_verdict}
use Rattle.checker.specs.Accepted.{PathsRight, Accepted}
use Rattle.checker.specs.Acceptable.{Ascending}
use Rattle.checker.proofs.Accepted.{number_zero_accepted}
use Rattle.checker.proofs.Ascending.{ascending_distinct}
use Rattle.checker.proofs.GraphReads.{number_zero_iff_reads}
use Rattle.forms.proofs.LayoutLaws.{mark_grows, answer_longest}
use Rattle.forms.proofs.GraphFacts.{graph_well_formed}

-- two prices of which neither is above the other are one
price_is_same : (P : Prices) → Ordered P → (a b : P.El) → T (same_price P a b) → a ≡ b
price_is_same P L a b t = L.le_antisym a b (and_l (P.leb a b) (P.leb b a) t) (and_r (P.leb a b) (P.leb b a) t)

module _ (s t : List ℕ) where
  -- the path records that are right give weighted paths of the graph, in ascending order
  paths_are_paths : (count at : ℕ) (before : List ℕ) (copies : ℕ) → PathsRight s t count at before copies →
      All (λ w. T (is_path (graph_of s) w.path)) (paths_from s t count at)
  paths_are_paths zero at before copies h = tt
  paths_are_paths (suc count) at before copies h =
      (h.0.is_a_path, paths_are_paths count (path_end s t at) (path_vertices s t at) (copies + path_weight t at) h.1)

  paths_weigh : (count at : ℕ) (before : List ℕ) (copies : ℕ) → PathsRight s t count at before copies → All (λ w. 1 ≤ w.weight) (paths_from s t count at)
  paths_weigh zero at before copies h = tt
  paths_weigh (suc count) at before copies h =
      (h.0.some_copy, paths_weigh count (path_end s t at) (path_vertices s t at) (copies + path_weight t at) h.1)

  paths_ascend : (count at : ℕ) (before : List ℕ) (copies : ℕ) → PathsRight s t count at before copies → Ascending before (paths (paths_from s t count at))
  paths_ascend zero at before copies h = tt
  paths_ascend (suc count) at before copies h =
      (h.0.ascends, paths_ascend count (path_end s t at) (path_vertices s t at) (copies + path_weight t at) h.1)

  -- an accepted answer's paths are a cover of the graph
  pub accepted_is_cover : Accepted s t → IsCover (graph_of s) (cover_of s t)
  unfolding cover_of
  accepted_is_cover h =
      let at = first_path_at s in
      record {
        are_paths = paths_are_paths (path_count t) at [] 0 h.paths;
        weights = paths_weigh (path_count t) at [] 0 h.paths;
        distinct = ascending_distinct [] (paths (paths_from s t (path_count t) at)) (paths_ascend (path_count t) at [] 0 h.paths);
        demands_met = h.certificate.demands_met;
        reads_met = h.certificate.reads_met;
      }

  -- a path's record is no longer than one of a path with the most vertices
  paths_fit : (count at : ℕ) (before : List ℕ) (copies : ℕ) → PathsRight s t count at before copies → length t ≤ at + (path_header_length s + max_path_length s) * count
  paths_fit zero at before copies h = omega arith
  paths_fit (suc count) at before copies h =
      omega (arith, mul-suc (path_header_length s + max_path_length s) count, h.0.few_vertices, paths_fit count (path_end s t at) (path_vertices s t at) (copies + path_weight t at) h.1)

-- "The longest is 32,543 bytes."
pub accepted_fits : (s t : List ℕ) → (check_verdict s t).number ≡ 0 → length t ≤ longest_answer s
accepted_fits s t e =
    let h = number_zero_accepted s t e in
    let few = ((number_zero_iff_reads s).0 h.graph_reads).arcs.header.few_vertices in
    omega (
      arith,
      paths_fit s t (path_count t) (first_path_at s) [] 0 h.paths,
      mul-le-mul_left (path_header_length s + max_path_length s) h.header.few_paths,
      mark_grows s (vertex_count s) (max_vertices s) few,
      answer_longest s,
    )

-- The paths of an accepted answer are a cover of the graph of these graph bytes, at the stated price, and no cover, of any size, has a lower price.
pub accepted_is_lowest : (s t : List ℕ) → (check_verdict s t).number ≡ 0 →
    IsLowest whole (graph_of s) (cover_of s t) × (price whole (graph_of s) (cover_of s t) ≡ pos (stated_price s t))
accepted_is_lowest s t e =
    let h = number_zero_accepted s t e in
    let G = graph_of s in
    let W = cover_of s t in
    let p = price_is_same whole whole_ordered (price whole G W) (pos (stated_price s t)) h.certificate.price_stated in
    let b = price_is_same whole whole_ordered (bound whole G (answer_marks s t)) (pos (stated_price s t)) h.certificate.bound_stated in
    let g = graph_well_formed s ((number_zero_iff_reads s).0 h.graph_reads) in
    (shown_is_lowest whole whole_ordered G g (answer_marks s t) W (accepted_is_cover s t h) (h.certificate.slacks_hold, b ∙ sym p), p)
