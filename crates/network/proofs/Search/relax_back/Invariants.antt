-- `network::Search::relax_back` meets its contract. The loop's invariant: the edges into u with a number of h or more are looked at; the measure is h.
-- Assumes nothing.
use Rattle.std.proofs.Common.{◌≡◌}
use Rattle.network.proofs.NetworkLawsSearch.{BackWalk}
use Rattle.network.proofs.Search.relax_back.Given as goal

abbrev pub invariant-loop-h : goal.invariant-loop-h
invariant-loop-h l = BackWalk l.network.nodes l.network.edges l.network.from l.network.to l.network.cost l.flow.load l.flow.mark l.source l.u l.count l.here l.initial.self.rank l.h l.self.dist l.self.via × (l.self.rank ≡ l.initial.self.rank)

abbrev pub decreases-loop-h : goal.decreases-loop-h
decreases-loop-h l = l.h
