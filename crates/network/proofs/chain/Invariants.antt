-- `network::chain` meets its contract. The loop's invariant: the first e edges are chained. Assumes nothing.
use Rattle.std.proofs.Common.{◌≡◌, length}
use Rattle.network.specs.Network.{Chained, most_nodes, most_edges}
use Rattle.network.proofs.chain.Given as goal

abbrev pub invariant-loop-e : goal.invariant-loop-e
invariant-loop-e l = (length l.chains.head ≡ most_nodes) × (length l.chains.next ≡ most_edges) × Chained l.nodes l.e l.key l.chains.head l.chains.next
