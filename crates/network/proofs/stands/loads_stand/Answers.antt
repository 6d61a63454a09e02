-- `network::stands::loads_stand` meets its contract: the sums are those of all edges, and each node's are compared. Assumes nothing.
use Rattle.network.proofs.NetworkLawsStand.{tally_blank, comparable}
use Rattle.network.proofs.stands.loads_stand.Goals as goal

pub tally-requires-clause-tallied : goal.tally-requires-clause-tallied
tally-requires-clause-tallied c = tally_blank _ _ _ _ c.requires.0.ends.few_nodes

pub nodes_stand-requires : goal.nodes_stand-requires
nodes_stand-requires c = comparable c.requires.0 c.tally.ensures c.requires.1
