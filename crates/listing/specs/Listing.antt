-- Document 01, "The two programs": the listing of an answer form t for a graph form s. "First line: number of paths, price. Then per path its
-- weight and vertices. Last line: the bound. A refusal prints one line, `refused`, number, place."
use Rattle.std.specs.Prelude.{ℕ, zero, suc, ◌+◌, ◌*◌, ◌≡◌, List, [], ◌∷◌, ◌++◌, cond, ltb, leb, eqb, length, nat_abs, Result, Ok, Err}
use Rattle.mathematics.specs.Price.{whole}
use Rattle.mathematics.specs.Cover.{Weighted, price}
use Rattle.mathematics.specs.Bound.{bound}
use Rattle.forms.specs.declared.Verdict.{Verdict}
use Rattle.forms.specs.AnswerForm.{path_count, answer_marks, first_path_at, path_weight, cover_of}
use Rattle.forms.specs.BuildFaults.{build_verdict}
use Rattle.forms.specs.GraphFaults.{refusal, nothing_refused, graph_verdict}
use Rattle.forms.specs.GraphOf.{graph_of}
use Rattle.forms.specs.declared.refusals.Refused.{Refused}
use Rattle.forms.specs.Refusals.{number_of}
use Rattle.forms.specs.Limits.{room_vertices, room_paths}
use Rattle.checker.specs.Check.{check_verdict, path_at, handed_out}
use Rattle.text.specs.Text.{Writes}
use Rattle.listing.specs.Lines.{cover_line, path_line, bound_line, refused_line}

-- the weight of path k
abbrev pub weight_of : List ℕ → List ℕ → ℕ → ℕ
weight_of s t k = path_weight t (path_at s t k (first_path_at s))

-- the lines of count paths, the first of them path k: its vertices are what the checker hands out
abbrev pub path_lines : List ℕ → List ℕ → ℕ → ℕ → List ℕ
path_lines s t zero k = []
path_lines s t (suc count) k = path_line (weight_of s t k) (handed_out s t k) ++ path_lines s t count (suc k)

-- "Then per path its weight and vertices": a line for each weighted path
abbrev pub cover_lines : List Weighted → List ℕ
cover_lines [] = []
cover_lines (w ∷ W) = path_line w.weight w.path ++ cover_lines W

-- the listing of an accepted answer
unfoldable pub cover_listing : List ℕ → List ℕ → List ℕ
cover_listing s t =
    cover_line (path_count t) (nat_abs (price whole (graph_of s) (cover_of s t))) ++
    (path_lines s t (path_count t) 0 ++ bound_line (nat_abs (bound whole (graph_of s) (answer_marks s t))))

-- the listing
unfoldable pub listing_of : List ℕ → List ℕ → List ℕ
listing_of s t =
    cond (eqb (check_verdict s t).number 0) (cover_listing s t) (refused_line (check_verdict s t).number (check_verdict s t).place)

-- "one longer than 65,536 bytes prints `refused 1 0` for a graph and `refused 11 0` for an answer whose graph reads"
abbrev pub longest_input : ℕ
longest_input = 65_536

-- how many bytes a program lends for an answer: as many as the longest has
abbrev pub answer_lent : ℕ
answer_lent = 32_543

-- what graph bytes of any length are refused by in a program that builds an answer for them, for which it lends the longest answer's room
unfoldable pub input_verdict : List ℕ → Verdict
input_verdict s = cond (ltb longest_input (length s)) (refusal 1 0) (build_verdict s answer_lent)

-- the listing of what the two inputs hold, of any length
unfoldable pub inputs_listing : List ℕ → List ℕ → List ℕ
inputs_listing s t =
    cond (ltb longest_input (length s)) (refused_line 1 0)
    (cond (leb (length t) longest_input) (listing_of s t)
    (cond (eqb (graph_verdict s).number 0) (refused_line 11 0) (refused_line (graph_verdict s).number (graph_verdict s).place)))

-- As many bytes as the line of a path can have: 9 for the weight, 3 for each vertex, 1 at the end.
abbrev pub longest_line : ℕ
longest_line = 10 + 3 * room_vertices

-- As many bytes as a listing can have: 6 + 3 + 1 + 20 + 1 in the first line, those of the paths, 6 + 20 + 1 in the last.
abbrev pub longest_listing : ℕ
longest_listing = 58 + longest_line * room_paths

-- Number and place that a call that lists answers for a lent output. 29: "output shorter than the text", place 0: document 02, #103, gives this refusal its number.
unfoldable pub listed_verdict : List ℕ → List ℕ → Verdict
listed_verdict out text = cond (ltb (length out) (length text)) (refusal 29 0) nothing_refused

-- what such a call writes to a lent output: the text; where the output is shorter, nothing
unfoldable pub fitted : List ℕ → List ℕ → List ℕ
fitted out text = cond (ltb (length out) (length text)) [] text

-- "Each answer holds number and place; both are 0 where nothing is refused": number, place and how many bytes were written
pub record Listed : Type 0 where
  pub number : ℕ
  pub place : ℕ
  pub written : ℕ

-- what a call that lists says by its answer
abbrev pub listed_of : Result ℕ Refused → Listed
listed_of (Ok n) = record { number = 0; place = 0; written = n }
listed_of (Err e) = record { number = number_of e.fault; place = e.place; written = 0 }

-- What a call that lists a text promises of the output that held `before` and now holds `after`: number and place, every byte, and how many were written.
pub record Lists (before text after : List ℕ) (r : Listed) : Type 0 where
  pub verdict : refusal r.number r.place ≡ listed_verdict before text
  pub writes : Writes before (fitted before text) after r.written
