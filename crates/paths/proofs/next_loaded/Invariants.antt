-- `paths::next_loaded` meets its contract. Assumes nothing.
use Rattle.paths.specs.Peel.{Looking, Onward}
use Rattle.paths.proofs.next_loaded.Given as goal

abbrev pub invariant-loop-h : goal.invariant-loop-h
invariant-loop-h l = Looking l.network.edges l.network.from l.load l.u l.h × Onward l.network.nodes l.network.edges l.network.from l.load l.onward

abbrev pub decreases-loop-h : goal.decreases-loop-h
decreases-loop-h l = l.h
