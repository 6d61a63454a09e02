-- `listing::put_paths` meets its contract: at each turn the lines of the remaining paths are still to be stored.
-- Assumes nothing.
use Rattle.listing.proofs.PathLines.{Passed, LinesLeft}
use Rattle.listing.proofs.put_paths.Given as goal

abbrev pub invariant-loop : goal.invariant-loop
invariant-loop l = Passed l.graph l.answer l.paths l.path l.counter × LinesLeft l.graph l.answer l.initial.out l.at l.out l.end l.counter
