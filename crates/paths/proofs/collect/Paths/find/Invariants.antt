-- `Paths::find` meets its contract. The loop's invariant: the path belongs before row i.
use Rattle.paths.proofs.PeelLawsTable.{Seeking}
use Rattle.paths.proofs.collect.Paths.find.Given as goal

abbrev pub invariant-loop-i : goal.invariant-loop-i
invariant-loop-i l = Seeking l.self l.vertices l.i
