use Rattle.wiring.specs.Lay.{LoadsLaid}
use Rattle.wiring.proofs.load_vertices.Given as goal

abbrev pub invariant-loop-v : goal.invariant-loop-v
invariant-loop-v l = LoadsLaid l.s l.v l.load
