-- `certify::count_reads` counts the reads of the table, a row a turn: with those left, the counts are those of all.
use Rattle.reads.specs.ReadTable.{rows_of}
use Rattle.certify.proofs.CertifyLawsCount.{ReadsLeft}
use Rattle.certify.proofs.count_reads.Given as goal

abbrev pub invariant-loop-i : goal.invariant-loop-i
invariant-loop-i l = ReadsLeft l.s (rows_of l.rows l.lens l.count) l.vertex_reads l.arc_reads l.i
