-- "Show that any two results allowed by a promise are equal", with "the builder's choice among lowest-price covers, and of marks" as the exception.
use Prim.Native.Nat.{ℕ}
use mathlib.Core.List.{List}
use mathlib.Core.Logic.{◌≢◌}
use borrow.Author.Tests.{ne_eqb}
use Rattle.text.specs.Text.{Writes}
use Rattle.text.proofs.Writing.{writes_once}
use Rattle.listing.specs.Lines.{refused_line}
use Rattle.listing.specs.Listing.{input_verdict}
use Rattle.listing.proofs.Lowest.{accepted_prices_equal}
use Rattle.assemble.specs.Assemble.{assembled_listing, Assembled, AssembledAlike}
use Rattle.assemble.proofs.Lowest.{lists_accepted}

-- where something is refused, its line is written
refused_line_lem : {s before after : List ℕ} {r : ℕ} → (input_verdict s).number ≢ 0 → Assembled s before after r →
    Writes before (refused_line (input_verdict s).number (input_verdict s).place) after r
unfolding assembled_listing
refused_line_lem n h = simp (ne_eqb _ _ n) at h.writes

-- Any two results that the promise allows are alike.
pub assembled_twice : {s before after after' : List ℕ} {r r' : ℕ} → Assembled s before after r → Assembled s before after' r' → AssembledAlike s after after' r r'
assembled_twice {s} P Q =
    record {
      same_refused = λ n. writes_once (refused_line_lem n P) (refused_line_lem n Q);
      price_is_same = λ z.
          let a = lists_accepted z P in
          let b = lists_accepted z Q in
          (a, b, accepted_prices_equal s a.answer b.answer a.accepted b.accepted);
    }
