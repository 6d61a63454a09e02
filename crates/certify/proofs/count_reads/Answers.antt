-- `certify::count_reads` counts the reads of the table, a row a turn: with those left, the counts are those of all.
use Rattle.std.proofs.Common.{arith, rules}
use Rattle.reads.specs.ReadTable.{row_at}
use Rattle.certify.proofs.CertifyLawsCount.{reads_low, reads_turn, reads_end}
use Rattle.reads.proofs.TableRows.{table_row}
use Rattle.certify.proofs.count_reads.Goals as goal

pub count_row-requires : goal.count_row-requires
unfolding row_at
count_row-requires c =
    let row = table_row _ _ _ c.requires.1 c.loop-i.i (search rules) in
    (c.requires.0, row.read, omega (arith, row.long, row.fit), reads_low c.requires.1 c.loop-i.invariant)

pub loop-i-preserved : goal.loop-i-preserved
unfolding row_at
loop-i-preserved c = reads_turn c.requires.1 c.loop-i.invariant (search rules) c.count_row.ensures

pub returns : goal.returns
returns c = reads_end c.requires.1 c.loop-i.invariant c.requires.0.arcs (search rules)
