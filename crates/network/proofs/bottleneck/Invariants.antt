-- `network::bottleneck` meets its contract. The loop's invariant: what has room from v on has room from the target on; the measure is v's rank.
-- Assumes nothing.
use Rattle.network.specs.Network.{nth}
use Rattle.network.proofs.NetworkLawsPush.{Narrowed}
use Rattle.network.proofs.bottleneck.Given as goal

abbrev pub invariant-loop-v : goal.invariant-loop-v
invariant-loop-v l = Narrowed l.network.nodes l.network.edges l.network.from l.network.to l.network.cost l.flow.load l.flow.mark l.search.via l.search.rank l.source l.target l.limit l.v l.most

abbrev pub decreases-loop-v : goal.decreases-loop-v
decreases-loop-v l = nth l.search.rank l.v
