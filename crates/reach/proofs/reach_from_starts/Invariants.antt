-- `reach::reach_from_starts` meets its contract: the arcs below a are done.
use Rattle.reach.proofs.ReachLawsPass.{Ahead}
use Rattle.reach.proofs.reach_from_starts.Given as goal

abbrev pub invariant-loop-a : goal.invariant-loop-a
invariant-loop-a l = Ahead l.s l.a l.reached
