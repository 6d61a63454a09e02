-- `reach::reads_lie` meets its contract: the answer of all reads is that of those not yet passed.
use Rattle.reach.proofs.ReachLawsLacking.{ReadsLeft}
use Rattle.reach.proofs.reads_lie.Given as goal

abbrev pub invariant-loop-k : goal.invariant-loop-k
invariant-loop-k l = ReadsLeft l.s l.n l.m l.count l.k l.at
