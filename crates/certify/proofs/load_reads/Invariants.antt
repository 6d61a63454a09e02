-- `certify::load_reads` fills the table: the reads passed are in its first rows, the others are read from the offset on.
use Rattle.certify.proofs.CertifyLawsTable.{Loading}
use Rattle.certify.proofs.load_reads.Given as goal

abbrev pub invariant-loop-i : goal.invariant-loop-i
invariant-loop-i l = Loading l.s l.rows l.lens l.count l.at l.i
