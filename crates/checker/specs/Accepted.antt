-- Document 01, numbers 11 to 22, stated plainly: what an accepted answer form is, condition by condition. That the check's number is 0 exactly here is proved
-- in proofs/Accepted.
use Rattle.std.specs.Prelude.{ℕ, zero, suc, ◌+◌, ◌≤◌, ◌≡◌, List, [], T, length, ℤ, pos, neg_ℤ}
use Rattle.std.specs.Int.Signed.{le_z}
use Rattle.mathematics.specs.Price.{Prices, whole}
use Rattle.mathematics.specs.Lists.{All, some_holds}
use Rattle.mathematics.specs.Graph.{Graph, is_path}
use Rattle.mathematics.specs.Cover.{Weighted, asks, total, paths, price}
use Rattle.mathematics.specs.Bound.{Marks, SlacksHold, bound}
use Rattle.forms.specs.AnswerFaults.{list_before}
use Rattle.forms.specs.AnswerForm.{answer_length_word, answer_version, path_count, stated_price, mark_part_length, in_mark_at, signed32, answer_marks, first_path_at, path_weight, path_length, path_vertices, path_end, cover_of, mark_parts}
use Rattle.forms.specs.GraphFaults.{all_below, graph_verdict}
use Rattle.forms.specs.GraphForm.{vertex_count}
use Rattle.forms.specs.GraphOf.{graph_of}
use Rattle.forms.specs.Layout.{max_paths, max_weight, answer_version_of, max_path_length}
use Rattle.forms.specs.Limits.{mark_limit}
use Rattle.checker.specs.Check.{same_price}

-- "Answer: length (4), version (1), number of paths (2), price (8): 15 bytes", "paths 0..464": none of 11, 12, 13
pub record AnswerHeaderRight (s t : List ℕ) : Type 0 where
  pub long : first_path_at s ≤ length t
  pub length_stated : answer_length_word t ≡ length t
  pub version_known : answer_version t ≡ answer_version_of s
  pub few_paths : path_count t ≤ max_paths s

-- "marks -2,000,000,000..2,000,000,000"
abbrev pub InRange : ℤ → Type 0
InRange x = T (le_z (neg_ℤ (pos mark_limit)) x) × T (le_z x (pos mark_limit))

-- not 14: the mark at an offset is in range; count marks, the first at an offset, are
abbrev pub MarkRight : List ℕ → ℕ → Type 0
MarkRight t at = InRange (signed32 t at)

abbrev pub MarksRight : List ℕ → ℕ → ℕ → Type 0
MarksRight t zero at = Unit {0}
MarksRight t (suc count) at = MarkRight t at × MarksRight t count (at + mark_part_length)

-- none of 15 to 18: the path record at an offset, behind the path `before` and a number of copies. "A path is one vertex or more, each consecutive pair an arc,
-- the first a start, the last an end. It has a weight, its number of copies, at least 1."
pub record PathRight (s t : List ℕ) (at : ℕ) (before : List ℕ) (copies : ℕ) : Type 0 where
  pub some_vertex : 1 ≤ path_length s t at
  pub few_vertices : path_length s t at ≤ max_path_length s
  pub within : path_end s t at ≤ length t
  pub some_copy : 1 ≤ path_weight t at
  pub few_copies : copies + path_weight t at ≤ max_weight s
  pub vertices_known : T (all_below (vertex_count s) (path_vertices s t at))
  pub is_a_path : T (is_path (graph_of s) (path_vertices s t at))
  pub ascends : T (list_before before (path_vertices s t at))

-- count path records, the first at an offset, and no byte behind the last
abbrev pub PathsRight : List ℕ → List ℕ → ℕ → ℕ → List ℕ → ℕ → Type 0
PathsRight s t zero at before copies = length t ≤ at
PathsRight s t (suc count) at before copies =
    PathRight s t at before copies × PathsRight s t count (path_end s t at) (path_vertices s t at) (copies + path_weight t at)

module _ (P : Prices) where
  -- none of 19 to 22 for a graph, weighted paths, the price stated for them and marks
  pub record Certified (G : Graph P.El) (W : List Weighted) (stated : P.El) (m : Marks P.El) : Type 0 where
    pub demands_met : All (λ a. a.demand ≤ total a.item W) (asks G)
    pub reads_met : All (λ r. T (some_holds (paths W) r)) G.reads
    pub price_stated : T (same_price P (price P G W) stated)
    pub slacks_hold : SlacksHold P G m
    pub bound_stated : T (same_price P (bound P G m) stated)

-- an answer form that is accepted for a graph form
pub record Accepted (s t : List ℕ) : Type 0 where
  pub graph_reads : (graph_verdict s).number ≡ 0
  pub header : AnswerHeaderRight s t
  pub marks : MarksRight t (mark_parts s) (in_mark_at s 0)
  pub paths : PathsRight s t (path_count t) (first_path_at s) [] 0
  pub certificate : Certified whole (graph_of s) (cover_of s t) (pos (stated_price s t)) (answer_marks s t)
