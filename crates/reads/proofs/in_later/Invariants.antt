-- `reads::in_later` meets its contract: the answer over all higher rows is the answer over those not yet looked at.
use Rattle.std.proofs.Common.{◌≡◌, ◌+◌}
use Rattle.reads.specs.ReadTable.{longer_from}
use Rattle.reads.proofs.in_later.Given as goal

abbrev pub invariant-loop-j : goal.invariant-loop-j
invariant-loop-j l = longer_from l.rows l.lens l.count l.i (l.i + 1) ≡ longer_from l.rows l.lens l.count l.i l.j
