use Rattle.std.proofs.Common.{◌+◌, ◌*◌}
use Rattle.wiring.specs.Lay.{EdgesLaid}
use Rattle.wiring.proofs.lay_closings.Given as goal

abbrev pub invariant-loop-v : goal.invariant-loop-v
invariant-loop-v l = EdgesLaid l.s (2 * l.n + l.m + l.v) l.network.from l.network.to l.network.cost
