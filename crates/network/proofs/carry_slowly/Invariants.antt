-- `network::carry_slowly` meets its contract. The loop's invariant: the state between rounds, what changed since the start, and that the first u
-- nodes have no surplus. When no node has one, no node has a deficit either, for the sums are the same. Assumes nothing.
use Rattle.network.specs.Network.{Carrying, Carries}
use Rattle.network.proofs.NetworkLawsCarry.{Gone}
use Rattle.network.proofs.carry_slowly.Given as goal

abbrev pub invariant-loop-u : goal.invariant-loop-u
invariant-loop-u l = Carrying l.network.nodes l.network.edges l.live l.network.from l.network.to l.network.cost l.flow.load l.flow.mark l.balance.surplus l.balance.deficit × Carries l.network.nodes l.network.edges l.network.from l.network.to l.initial.flow.load l.initial.balance.surplus l.initial.balance.deficit l.flow.load l.balance.surplus l.balance.deficit × Gone l.u l.balance.surplus
