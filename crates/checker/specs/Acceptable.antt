-- Demand 3, "acceptance of every lowest-price cover": which answer forms can be written for weighted paths, and what it is that one of them is accepted.
use Rattle.std.specs.Prelude.{ℕ, ◌≤◌, ◌<◌, ◌≡◌, List, [], ◌∷◌, T, length, ℤ, pos}
use Rattle.mathematics.specs.Price.{whole}
use Rattle.mathematics.specs.Lists.{All}
use Rattle.mathematics.specs.Cover.{Weighted, price}
use Rattle.mathematics.specs.Bound.{Marks}
use Rattle.forms.specs.AnswerFaults.{list_before}
use Rattle.forms.specs.AnswerForm.{cover_of}
use Rattle.forms.specs.GraphFaults.{nothing_refused}
use Rattle.forms.specs.GraphOf.{graph_of}
use Rattle.forms.specs.Layout.{max_path_length, longest_answer}
use Rattle.checker.specs.Check.{check_verdict}
use Rattle.checker.specs.Encode.{encode_answer}
use Rattle.checker.specs.Accepted.{InRange}

-- "Paths strictly ascend as lists of numbers": each list comes before the next; `before` comes before the first
abbrev pub Ascending : List ℕ → List (List ℕ) → Type 0
Ascending before [] = Unit {0}
Ascending before (p ∷ ps) = T (list_before before p) × Ascending p ps

-- a byte string: every entry is a byte
abbrev pub Bytes : List ℕ → Type 0
Bytes t = All (λ b. b < 256) t

-- a weighted path that the fields of a path record can hold: "weight (4), vertex count 1..64 (1), vertices (1 each)"
pub record Holdable (s : List ℕ) (w : Weighted) : Type 0 where
  pub low_weight : w.weight < 4_294_967_296
  pub few_vertices : length w.path ≤ max_path_length s
  pub low_vertices : All (λ v. v < 256) w.path

-- the marks of the graph's vertices are in range
abbrev pub MarksFit : List ℕ → Marks ℤ → Type 0
MarksFit s m = (v : ℕ) → v < length (graph_of s).vertices → InRange (m.into v) × InRange (m.out v)

-- an answer form for these weighted paths that is accepted: with marks in range, at the paths' price, a byte string of the longest form's length at most
pub record Acceptable (s : List ℕ) (W : List Weighted) : Type 0 where
  pub marks : Marks ℤ
  pub marks_fit : MarksFit s marks
  pub stated : ℕ
  pub price_stated : price whole (graph_of s) W ≡ pos stated
  pub accepted : check_verdict s (encode_answer s stated marks W) ≡ nothing_refused
  pub gives : cover_of s (encode_answer s stated marks W) ≡ W
  pub bytes : Bytes (encode_answer s stated marks W)
  pub fits : length (encode_answer s stated marks W) ≤ longest_answer s
