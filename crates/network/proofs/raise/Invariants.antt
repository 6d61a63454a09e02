-- `network::raise` meets its contract. The loop's invariant: the first u nodes are raised, the others are as they were. Assumes nothing.
use Rattle.network.proofs.NetworkLawsRaise.{Raising}
use Rattle.network.proofs.raise.Given as goal

abbrev pub invariant-loop-u : goal.invariant-loop-u
invariant-loop-u l = Raising l.nodes l.u l.live l.dist l.most l.initial.mark l.mark
