-- Document 01, numbers 11 to 18: an answer read beside the graph form s. "headers by rising number, then records front to back".
use Rattle.std.specs.Prelude.{ℕ, zero, suc, ◌+◌, List, [], ◌∷◌, Bool, true, false, cond, not, ◌&&◌, ◌||◌, ltb, eqb, length, pos, neg_ℤ}
use Rattle.std.specs.Int.Signed.{le_z}
use Rattle.mathematics.specs.Graph.{is_path}
use Rattle.forms.specs.declared.Verdict.{Verdict}
use Rattle.forms.specs.Limits.{mark_limit}
use Rattle.forms.specs.Layout.{max_paths, max_weight, answer_version_of, max_path_length}
use Rattle.forms.specs.GraphForm.{vertex_count}
use Rattle.forms.specs.GraphOf.{graph_of}
use Rattle.forms.specs.GraphFaults.{refusal, or_else, all_below}
use Rattle.forms.specs.AnswerForm.{answer_length_word, answer_version_at, answer_version, path_count_at, path_count, mark_part_length, signed32, first_path_at, path_vertices_at, path_weight, path_length, path_vertices, path_end}

-- 11: "answer under 15+8n bytes, or length word differs"; 12: "answer version not 1"; 13: "more than 464 paths"
unfoldable pub answer_header_verdict : List ℕ → List ℕ → Verdict → Verdict
answer_header_verdict s t after =
    cond (ltb (length t) (first_path_at s) || not (eqb (answer_length_word t) (length t))) (refusal 11 0)
    (cond (not (eqb (answer_version t) (answer_version_of s))) (refusal 12 answer_version_at)
    (cond (ltb (max_paths s) (path_count t)) (refusal 13 path_count_at) after))

-- "marks -2,000,000,000..2,000,000,000"
unfoldable pub mark_fault : List ℕ → ℕ → ℕ
mark_fault t at = cond (le_z (neg_ℤ (pos mark_limit)) (signed32 t at) && le_z (signed32 t at) (pos mark_limit)) 0 14

-- 14: "a mark out of range", place "the mark": count numbers, the first at an offset
unfoldable pub marks_verdict : List ℕ → ℕ → ℕ → Verdict → Verdict
marks_verdict t zero at after = after
marks_verdict t (suc count) at after = or_else (mark_fault t at) at (marks_verdict t count (at + mark_part_length) after)

-- "Paths strictly ascend as lists of numbers; a list comes before its own extensions."
abbrev pub list_before : List ℕ → List ℕ → Bool
list_before [] [] = false
list_before [] (y ∷ q) = true
list_before (x ∷ p) [] = false
list_before (x ∷ p) (y ∷ q) = ltb x y || (eqb x y && list_before p q)

-- "Within a path: header past the end 15, bad count 16, past the end 15, then 17, the rest of 16, 18." 17: "weight 0, or running total above
-- 320,000,016"; 16: "vertex count not 1..64, vertex not below n, pair without arc, first not a start or last not an end"; 18: "path not ascending".
-- What needs no graph comes first, then what is left; `copies` is the total of the weights so far.
abbrev pub path_head_or : List ℕ → List ℕ → ℕ → ℕ → ℕ → ℕ
path_head_or s t at copies after =
    cond (ltb (length t) (path_vertices_at s at)) 15
    (cond (eqb (path_length s t at) 0 || ltb (max_path_length s) (path_length s t at)) 16
    (cond (ltb (length t) (path_end s t at)) 15
    (cond (eqb (path_weight t at) 0 || ltb (max_weight s) (copies + path_weight t at)) 17 after)))

-- `before` is the path before it (the empty list, which comes before every path, for the first)
unfoldable pub path_fault : List ℕ → List ℕ → ℕ → List ℕ → ℕ → ℕ
path_fault s t at before copies =
    path_head_or s t at copies
    (cond (not (all_below (vertex_count s) (path_vertices s t at) && is_path (graph_of s) (path_vertices s t at))) 16
    (cond (list_before before (path_vertices s t at)) 0 18))

-- 15: "path record past the end, or bytes remain", place "as 5; with no paths, the end of the marks"
unfoldable pub paths_verdict : List ℕ → List ℕ → ℕ → ℕ → List ℕ → ℕ → Verdict → Verdict
paths_verdict s t zero at before copies after = cond (ltb at (length t)) (refusal 15 at) after
paths_verdict s t (suc count) at before copies after =
    or_else (path_fault s t at before copies) at
    (paths_verdict s t count (path_end s t at) (path_vertices s t at) (copies + path_weight t at) after)
