-- `reads::in_earlier` meets its contract: the answer over all lower rows is the answer over those not yet looked at.
use Rattle.std.proofs.Common.{◌≡◌}
use Rattle.reads.specs.ReadTable.{held_from}
use Rattle.reads.proofs.in_earlier.Given as goal

abbrev pub invariant-loop-j : goal.invariant-loop-j
invariant-loop-j l = held_from l.rows l.lens l.i 0 ≡ held_from l.rows l.lens l.i l.j
