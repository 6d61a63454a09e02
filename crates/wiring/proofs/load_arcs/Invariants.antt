use Rattle.wiring.specs.Lay.{LoadsLaid}
use Rattle.wiring.proofs.load_arcs.Given as goal

abbrev pub invariant-loop-e : goal.invariant-loop-e
invariant-loop-e l = LoadsLaid l.s l.e l.load
