-- `listing::list_cover` meets its contract: it lists the cover or the refusal, as the checker answers.
-- Assumes nothing.
use Rattle.std.proofs.Common.{sym, ap}
use Rattle.forms.specs.declared.Verdict.{Verdict}
use Rattle.listing.proofs.Writing.{lists_as, listing_refused, listing_accepted}
use Rattle.listing.proofs.list_cover.Goals as goal

pub returns-in-Ok : goal.returns-in-Ok
returns-in-Ok c = lists_as (listing_accepted _ _ (ap (λ (v : Verdict). v.number) (sym c.in-Ok.ensures))) c.list_accepted.ensures

pub returns-in-Err : goal.returns-in-Err
returns-in-Err c = lists_as (listing_refused _ _ _ c.in-Err.ensures) c.list_refused.ensures
