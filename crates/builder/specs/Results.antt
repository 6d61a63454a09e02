-- What a result of `build` is where nothing is refused, and what any two results have in common: the builder's theorems say that its promise gives both.
use Rattle.std.specs.Prelude.{ℕ, ◌≤◌, ◌≡◌, List, ◌≢◌, pos, length, take}
use Rattle.mathematics.specs.Price.{whole}
use Rattle.mathematics.specs.Cover.{total_weight, price, IsLowest}
use Rattle.forms.specs.Layout.{max_paths, max_weight}
use Rattle.forms.specs.GraphOf.{graph_of}
use Rattle.forms.specs.GraphFaults.{nothing_refused}
use Rattle.forms.specs.AnswerForm.{stated_price, answer_marks, cover_of}
use Rattle.checker.specs.Check.{check_verdict}
use Rattle.checker.specs.Acceptable.{MarksFit}
use Rattle.builder.specs.Build.{Built}

-- What the bytes t are for the graph bytes s: an answer form of a lowest-price cover at its price, inside the limits of document 01, "Numbers allowed".
pub record LowestForm (s t : List ℕ) : Type 0 where
  pub lowest : IsLowest whole (graph_of s) (cover_of s t)
  pub price_stated : price whole (graph_of s) (cover_of s t) ≡ pos (stated_price s t)
  pub few_paths : length (cover_of s t) ≤ max_paths s
  pub few_copies : total_weight (cover_of s t) ≤ max_weight s
  pub marks_fit : MarksFit s (answer_marks s t)

-- What two results for the same graph bytes and the same output have in common: number and place; where they refuse, the count and every byte; where they
-- do not, both answers are accepted, and their prices are equal. "The builder's choice among lowest-price covers, and of marks, is the exception".
pub record Alike (s after after' : List ℕ) (r r' : Built) : Type 0 where
  pub same_number : r.number ≡ r'.number
  pub same_place : r.place ≡ r'.place
  pub same_refused : r.number ≢ 0 → (r.written ≡ r'.written) × (after ≡ after')
  pub both_accepted : r.number ≡ 0 → (check_verdict s (take r.written after) ≡ nothing_refused) × (check_verdict s (take r'.written after') ≡ nothing_refused)
  pub price_is_same : r.number ≡ 0 → stated_price s (take r.written after) ≡ stated_price s (take r'.written after')
