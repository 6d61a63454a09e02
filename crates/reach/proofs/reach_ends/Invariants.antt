-- `reach::reach_ends` meets its contract: the arcs from a on are done.
use Rattle.reach.proofs.ReachLawsPass.{Back}
use Rattle.reach.proofs.reach_ends.Given as goal

abbrev pub invariant-loop-a : goal.invariant-loop-a
invariant-loop-a l = Back l.s l.a l.reaching
