-- `recheck::recheck` meets its contract: the lent buffer takes every listing, so the whole of it is written.
-- Assumes nothing.
use Rattle.std.proofs.Common.{rules}
use Rattle.listing.proofs.Writing.{written_of}
use Rattle.listing.proofs.Longest.{inputs_whole}
use Rattle.recheck.proofs.recheck.Goals as goal

pub returns : goal.returns
returns c = rw (written_of c.list_inputs.result c.unwrap_or.ensures) (inputs_whole _ _ (search rules) c.list_inputs.ensures)
