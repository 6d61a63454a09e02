-- `network::push` meets its contract. The loop's invariant: the amount has come from v to the target; the measure is v's rank. Assumes nothing.
use Rattle.std.proofs.Common.{◌≡◌}
use Rattle.network.specs.Network.{nth, Pushing}
use Rattle.network.proofs.push.Given as goal

abbrev pub invariant-loop-v : goal.invariant-loop-v
invariant-loop-v l = Pushing l.network.nodes l.network.edges l.network.from l.network.to l.network.cost l.initial.flow.mark l.search.via l.search.rank l.source l.target l.amount l.initial.flow.load l.v l.flow.load × (l.flow.mark ≡ l.initial.flow.mark)

abbrev pub decreases-loop-v : goal.decreases-loop-v
decreases-loop-v l = nth l.search.rank l.v
