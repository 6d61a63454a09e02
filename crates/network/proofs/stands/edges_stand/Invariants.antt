-- `network::stands::edges_stand` meets its contract. The loop's invariant: the first e edges stand. Assumes nothing.
use Rattle.network.specs.Network.{EdgesStand}
use Rattle.network.proofs.stands.edges_stand.Given as goal

abbrev pub invariant-loop-e : goal.invariant-loop-e
invariant-loop-e l = EdgesStand l.e l.network.from l.network.to l.network.cost l.flow.load l.flow.mark
