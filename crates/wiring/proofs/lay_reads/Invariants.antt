use Rattle.std.proofs.Common.{◌+◌}
use Rattle.wiring.specs.Lay.{EdgesLaid}
use Rattle.wiring.proofs.lay_reads.Given as goal

abbrev pub invariant-loop-i : goal.invariant-loop-i
invariant-loop-i l = EdgesLaid l.s (l.plain + l.i) l.network.from l.network.to l.network.cost
