use Rattle.std.proofs.Common.{◌+◌, ◌*◌}
use Rattle.wiring.specs.Lay.{LiveLaid}
use Rattle.wiring.proofs.lay_live.Given as goal

abbrev pub invariant-loop-v : goal.invariant-loop-v
invariant-loop-v l = LiveLaid l.s (2 * l.v + 1) l.live
