-- Document 01, "The two programs": "`assemble` reads a graph from standard input and lists the cover." What it lists for the graph bytes s: the refusal, or the cover of an answer that the checker accepts.
use Rattle.std.specs.Prelude.{ℕ, ◌≡◌, List, cond, ◌≢◌, eqb, take}
use Rattle.forms.specs.AnswerForm.{stated_price}
use Rattle.forms.specs.GraphFaults.{nothing_refused}
use Rattle.checker.specs.Check.{check_verdict}
use Rattle.text.specs.Text.{Writes}
use Rattle.listing.specs.Lines.{refused_line}
use Rattle.listing.specs.Listing.{listing_of, input_verdict}

-- the listing for graph bytes of any length, where the builder's answer form is t
unfoldable pub assembled_listing : List ℕ → List ℕ → List ℕ
assembled_listing s t = cond (eqb (input_verdict s).number 0) (listing_of s t) (refused_line (input_verdict s).number (input_verdict s).place)

-- the listing was written: there is an answer form, which the checker accepts where nothing is refused, and it was listed
pub record Assembled (s before after : List ℕ) (written : ℕ) : Type 0 where
  pub answer : List ℕ
  pub accepted : (input_verdict s).number ≡ 0 → check_verdict s answer ≡ nothing_refused
  pub writes : Writes before (assembled_listing s answer) after written

-- the text is the listing of an answer form that the checker accepts with the graph bytes s
pub record ListsAccepted (s text : List ℕ) : Type 0 where
  pub answer : List ℕ
  pub accepted : check_verdict s answer ≡ nothing_refused
  pub listed : text ≡ listing_of s answer

-- What two results for the same graph bytes have in common: where something is refused, every byte and the count; where nothing is, both list an answer that the
-- checker accepts, and at one price. "The builder's choice among lowest-price covers, and of marks, is the exception".
pub record AssembledAlike (s after after' : List ℕ) (written written' : ℕ) : Type 0 where
  pub same_refused : (input_verdict s).number ≢ 0 → (after ≡ after') × (written ≡ written')
  pub price_is_same : (input_verdict s).number ≡ 0 →
      (a : ListsAccepted s (take written after)) × (b : ListsAccepted s (take written' after')) × (stated_price s a.answer ≡ stated_price s b.answer)
