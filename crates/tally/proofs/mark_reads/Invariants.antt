-- `tally::mark_reads` marks each read that the path holds, one record after another.
use Rattle.tally.proofs.ReadsMetLaws.{ReadsLeft}
use Rattle.tally.proofs.mark_reads.Given as goal

abbrev pub invariant-loop-r : goal.invariant-loop-r
invariant-loop-r l = ReadsLeft l.s l.path l.initial.met l.met l.r l.at
