-- `paths::take_off` meets its contract. Assumes nothing.
use Rattle.std.proofs.Common.{arith}
use Rattle.paths.proofs.PeelLaws.{walk_fits, walk_turn}
use Rattle.paths.proofs.take_off.Goals as goal

pub overflow_sub-load : goal.overflow_sub-load
overflow_sub-load c = walk_fits _ _ _ _ _ _ c.loop-e.e-index c.requires.walked (omega arith) _ c.loop-e.invariant

pub loop-e-preserved : goal.loop-e-preserved
loop-e-preserved c = walk_turn _ _ _ _ _ _ c.loop-e.e-index c.requires.walked (omega arith) _ c.requires.few c.loop-e.invariant
