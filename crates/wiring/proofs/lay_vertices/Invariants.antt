use Rattle.wiring.specs.Lay.{EdgesLaid}
use Rattle.wiring.proofs.lay_vertices.Given as goal

abbrev pub invariant-loop-v : goal.invariant-loop-v
invariant-loop-v l = EdgesLaid l.s l.v l.network.from l.network.to l.network.cost
