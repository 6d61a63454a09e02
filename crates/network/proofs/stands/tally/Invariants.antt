-- `network::stands::tally` meets its contract. The loop's invariant: the sums hold what the first e edges carry. Assumes nothing.
use Rattle.network.specs.Network.{Tallied}
use Rattle.network.proofs.stands.tally.Given as goal

abbrev pub invariant-loop-e : goal.invariant-loop-e
invariant-loop-e l = Tallied l.network.nodes l.e l.network.from l.network.to l.load l.into l.out
