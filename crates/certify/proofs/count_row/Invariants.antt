-- `certify::count_row` counts a read at its vertices and arcs: with those left, the counts are those of the whole read.
use Rattle.std.proofs.Common.{◌+◌}
use Rattle.certify.proofs.CertifyLawsCount.{CountLeft}
use Rattle.certify.proofs.count_row.Given as goal

abbrev pub invariant-loop-next : goal.invariant-loop-next
invariant-loop-next l = CountLeft l.s l.row l.initial.vertex_reads l.vertex_reads l.initial.arc_reads l.arc_reads l.initial.u l.u (l.next-index + 1)
