-- `reads::longest` meets its contract: the longest of all is the longest of the best so far and the rows not yet looked at.
use Rattle.std.proofs.Common.{◌≡◌}
use Rattle.mathematics.specs.Prepare.{longest}
use Rattle.reads.specs.ReadTable.{rows_of, best_of}
use Rattle.reads.proofs.LongestLaws.{all_from}
use Rattle.reads.proofs.longest.Given as goal

abbrev pub invariant-loop-i : goal.invariant-loop-i
invariant-loop-i l = longest (rows_of l.rows l.lens l.count) ≡ all_from l.rows l.lens l.count l.i (best_of l.found)
