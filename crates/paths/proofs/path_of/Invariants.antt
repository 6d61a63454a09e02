-- `paths::path_of` meets its contract. Assumes nothing.
use Rattle.paths.specs.Slots.{link_at}
use Rattle.paths.proofs.PeelLawsPath.{Writing}
use Rattle.paths.proofs.path_of.Given as goal

abbrev pub invariant-loop-e : goal.invariant-loop-e
invariant-loop-e l = Writing (link_at l.s) l.way l.row l.e-index l.r
