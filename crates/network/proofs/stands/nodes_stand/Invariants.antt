-- `network::stands::nodes_stand` meets its contract. The loop's invariant: the first u nodes are even. Assumes nothing.
use Rattle.network.specs.Network.{Even}
use Rattle.network.proofs.stands.nodes_stand.Given as goal

abbrev pub invariant-loop-u : goal.invariant-loop-u
invariant-loop-u l = Even l.u l.into l.out l.balance.surplus l.balance.deficit
