-- `listing::paths_length` meets its contract: at each turn the bytes counted and those of the remaining lines make the whole.
-- Assumes nothing.
use Rattle.listing.proofs.PathLines.{Passed, BytesLeft}
use Rattle.listing.proofs.paths_length.Given as goal

abbrev pub invariant-loop : goal.invariant-loop
invariant-loop l = Passed l.graph l.answer l.count l.path l.counter × BytesLeft l.graph l.answer l.bytes l.counter
