-- `network::carry_from` meets its contract. The loop's invariant: the state between rounds, and what changed since the start; the measure is the
-- source's surplus. Assumes nothing.
use Rattle.network.specs.Network.{nth, Carrying, Carries, OthersKept}
use Rattle.network.proofs.carry_from.Given as goal

abbrev pub invariant-loop-balance : goal.invariant-loop-balance
invariant-loop-balance l = Carrying l.network.nodes l.network.edges l.live l.network.from l.network.to l.network.cost l.flow.load l.flow.mark l.balance.surplus l.balance.deficit × Carries l.network.nodes l.network.edges l.network.from l.network.to l.initial.flow.load l.initial.balance.surplus l.initial.balance.deficit l.flow.load l.balance.surplus l.balance.deficit × OthersKept l.source l.initial.balance.surplus l.balance.surplus

abbrev pub decreases-loop-balance : goal.decreases-loop-balance
decreases-loop-balance l = nth l.balance.surplus l.source
