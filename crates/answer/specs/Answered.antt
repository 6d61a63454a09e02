-- What `answer` writes for the graph bytes s: the builder's answer form for `cover.bin`, or, where the graph is refused, nothing there and the refusal's line.
use Rattle.std.specs.Prelude.{ℕ, ◌≡◌, List, [], cond, ◌≢◌, eqb, take}
use Rattle.forms.specs.declared.Verdict.{Verdict}
use Rattle.forms.specs.AnswerForm.{stated_price}
use Rattle.forms.specs.GraphFaults.{nothing_refused}
use Rattle.checker.specs.Check.{check_verdict}
use Rattle.text.specs.Text.{Writes}
use Rattle.listing.specs.Lines.{refused_line}
use Rattle.listing.specs.Listing.{input_verdict}
use Rattle.answer.specs.declared.Written.{Written}

-- the line of a refusal; nothing where nothing is refused
unfoldable pub line_of : Verdict → List ℕ
line_of v = cond (eqb v.number 0) [] (refused_line v.number v.place)

-- `out` was lent for standard output and `err` for standard error: what each holds afterwards, and how many bytes of each are to be written
pub record Answered (s out out' err err' : List ℕ) (r : Written) : Type 0 where
  pub form : List ℕ
  -- where nothing is refused, an answer form that the checker accepts with that graph
  pub accepted : (input_verdict s).number ≡ 0 → check_verdict s form ≡ nothing_refused
  -- where something is, nothing
  pub refused : (input_verdict s).number ≢ 0 → form ≡ []
  pub writes_form : Writes out form out' r.form
  pub writes_line : Writes err (line_of (input_verdict s)) err' r.line

-- What two results for the same graph bytes have in common: every byte and the count for standard error; for standard output too where something is refused; where
-- nothing is, both are answers that the checker accepts, and at one price. "The builder's choice among lowest-price covers, and of marks, is the exception".
pub record AnsweredAlike (s out' out'' err' err'' : List ℕ) (r r' : Written) : Type 0 where
  pub same_line : (err' ≡ err'') × (r.line ≡ r'.line)
  pub same_refused : (input_verdict s).number ≢ 0 → (out' ≡ out'') × (r.form ≡ r'.form)
  pub both_accepted : (input_verdict s).number ≡ 0 → (check_verdict s (take r.form out') ≡ nothing_refused) × (check_verdict s (take r'.form out'') ≡ nothing_refused)
  pub price_is_same : (input_verdict s).number ≡ 0 → stated_price s (take r.form out') ≡ stated_price s (take r'.form out'')
