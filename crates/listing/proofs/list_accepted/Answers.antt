-- `listing::list_accepted` meets its contract: the cover is listed where the output is long enough.
-- Assumes nothing.
use Rattle.std.proofs.Common.{arith}
use Rattle.listing.proofs.Writing.{lists_nothing, lists_text}
use Rattle.listing.proofs.list_accepted.Goals as goal

pub returns-then-out-cover_length : goal.returns-then-out-cover_length
returns-then-out-cover_length c = lists_nothing _ _ (omega arith) c.new.ensures

pub returns : goal.returns
returns c = lists_text (omega arith) c.put_cover.ensures
