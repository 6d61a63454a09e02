-- `paths::take_off` meets its contract. Assumes nothing.
use Rattle.std.proofs.Common.{take}
use Rattle.paths.specs.Peel.{TakenOff}
use Rattle.paths.proofs.take_off.Given as goal

abbrev pub invariant-loop-e : goal.invariant-loop-e
invariant-loop-e l = TakenOff l.network.edges l.initial.load (take l.e-index l.way) l.amount l.load
