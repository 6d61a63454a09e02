-- `network::Search::nearest` meets its contract. The loop's invariant: the best of the first v nodes. Assumes nothing.
use Rattle.network.proofs.NetworkLawsSearch.{Scanned}
use Rattle.network.proofs.Search.nearest.Given as goal

abbrev pub invariant-loop-v : goal.invariant-loop-v
invariant-loop-v l = Scanned l.nodes l.v l.self.dist l.self.rank l.best l.least
