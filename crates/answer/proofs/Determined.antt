-- "Show that any two results allowed by a promise are equal", with "the builder's choice among lowest-price covers, and of marks" as the exception.
use mathlib.Core.Path.{◌≡◌, ◌∙◌, ap}
use mathlib.Core.List.{List, []}
use mathlib.Core.Logic.{◌≢◌}
use lib.ListN.{take}
use Rattle.forms.specs.GraphFaults.{nothing_refused}
use Prim.Native.Nat.{ℕ}
use Rattle.checker.specs.Check.{check_verdict}
use Rattle.text.specs.Text.{Writes}
use Rattle.text.proofs.Writing.{written_is_text, writes_once}
use Rattle.listing.specs.Listing.{input_verdict}
use Rattle.listing.proofs.Lowest.{accepted_prices_equal}
use Rattle.answer.specs.declared.Written.{Written}
use Rattle.answer.specs.Answered.{Answered, AnsweredAlike}

module _ {s out out' err err' : List ℕ} {r : Written} (A : Answered s out out' err err' r) where
  -- where something is refused, nothing is written to standard output
  nothing_written : (input_verdict s).number ≢ 0 → Writes out [] out' r.form
  nothing_written n = rw (A.refused n) at A.writes_form

  -- where nothing is, what is written is accepted
  accepted_written : (input_verdict s).number ≡ 0 → check_verdict s (take r.form out') ≡ nothing_refused
  accepted_written z = ap (check_verdict s) (written_is_text A.writes_form) ∙ A.accepted z

-- Any two results that the promise allows are alike.
pub answered_twice : {s out out' out'' err err' err'' : List ℕ} {r r' : Written} → Answered s out out' err err' r → Answered s out out'' err err'' r' →
    AnsweredAlike s out' out'' err' err'' r r'
answered_twice {s} P Q =
    record {
      same_line = writes_once P.writes_line Q.writes_line;
      same_refused = λ n. writes_once (nothing_written P n) (nothing_written Q n);
      both_accepted = λ z. (accepted_written P z, accepted_written Q z);
      price_is_same = λ z. accepted_prices_equal s _ _ (accepted_written P z) (accepted_written Q z);
    }
