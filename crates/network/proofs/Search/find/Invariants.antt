-- `network::Search::find` meets its contract. The loop's invariant: u is settled last, and no node settled before it has a deficit; the measure is how
-- many are not settled. That a node is always found: what is reached is closed under edges. Assumes nothing.
use Rattle.std.proofs.Common.{◌-◌}
use Rattle.network.proofs.NetworkLawsSettle.{SearchWalk}
use Rattle.network.proofs.Search.find.Given as goal

abbrev pub invariant-loop-u : goal.invariant-loop-u
invariant-loop-u l = SearchWalk l.network.nodes l.network.edges l.network.from l.network.to l.network.cost l.flow.load l.flow.mark l.deficit l.source l.u l.count l.self.dist l.self.via l.self.rank

abbrev pub decreases-loop-u : goal.decreases-loop-u
decreases-loop-u l = l.network.nodes - l.count
