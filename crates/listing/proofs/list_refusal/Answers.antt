-- `listing::list_refusal` meets its contract: the line is stored from the front of the output on, where that is long enough.
-- Assumes nothing.
use Rattle.std.proofs.Common.{refl, arith}
use Rattle.listing.proofs.Writing.{lists_nothing, lists_text}
use Rattle.listing.proofs.list_refusal.Goals as goal

pub returns-then-out-pair_line_length : goal.returns-then-out-pair_line_length
returns-then-out-pair_line_length c =
    record {
      lists = lists_nothing _ _ (omega arith) c.new.ensures;
      limits = (refl, refl);
    }

pub put_pair_line-requires : goal.put_pair_line-requires
put_pair_line-requires c = omega arith

pub returns : goal.returns
returns c =
    record {
      lists = lists_text (omega arith) c.put_pair_line.ensures;
      limits = (refl, refl);
    }
