-- `reads::longest_with` meets its contract: the longest of all is the longest of the best so far and the rows not yet looked at.
use Rattle.std.proofs.Common.{◌≡◌}
use Rattle.reads.specs.ReadTable.{best_of, with_from}
use Rattle.reads.proofs.longest_with.Given as goal

abbrev pub invariant-loop-j : goal.invariant-loop-j
invariant-loop-j l = with_from l.rows l.lens l.count l.i 0 (best_of l.initial.found) ≡ with_from l.rows l.lens l.count l.i l.j (best_of l.found)
