use Rattle.wiring.specs.Lay.{EdgesLaid}
use Rattle.wiring.proofs.lay_openings.Given as goal

abbrev pub invariant-loop-e : goal.invariant-loop-e
invariant-loop-e l = EdgesLaid l.s l.e l.network.from l.network.to l.network.cost
