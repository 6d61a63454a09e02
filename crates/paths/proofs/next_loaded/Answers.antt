-- `paths::next_loaded` meets its contract. Assumes nothing.
use Rattle.std.proofs.Common.{arith}
use Rattle.paths.proofs.PeelLaws.{look_on, look_found, look_none, onward_at}
use Rattle.paths.proofs.next_loaded.Goals as goal

pub loop-h-init : goal.loop-h-init
loop-h-init c = (c.requires.onward c.args.u c.requires.sizes.2, c.requires.onward)

pub returns-then-load-h-gt0-clause-next : goal.returns-then-load-h-gt0-clause-next
returns-then-load-h-gt0-clause-next c =
    look_found _ _ _ _ _ _ _ c.requires.chained _ c.loop-h.invariant.0 (omega (arith, c.loop-h-test.true)) c.if-load-h-gt0.true

pub returns-then-load-h-gt0-clause-onward_2 : goal.returns-then-load-h-gt0-clause-onward_2
returns-then-load-h-gt0-clause-onward_2 c = onward_at _ _ _ _ _ c.loop-h.invariant.1 _ _ (omega arith) c.loop-h.invariant.0

pub loop-h-preserved : goal.loop-h-preserved
loop-h-preserved c =
    (look_on _ _ _ _ _ _ _ c.requires.chained _ c.loop-h.invariant.0 (omega (arith, c.loop-h-test.true)) c.if-load-h-gt0.false, c.loop-h.invariant.1)

pub returns-clause-next : goal.returns-clause-next
returns-clause-next c = look_none _ _ _ _ _ _ _ c.requires.chained _ c.loop-h.invariant.0 (omega (arith, c.loop-h-test.false))
