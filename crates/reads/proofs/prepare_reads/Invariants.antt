-- `reads::prepare_reads` meets its contract: what joining is still to make of the table is what preparing makes of the reads at entry.
use mathlib.Core.Path.{◌≡◌}
use Rattle.mathematics.specs.Prepare.{join_while}
use Rattle.reads.specs.ReadTable.{TableHolds, rows_of}
use Rattle.reads.proofs.prepare_reads.Given as goal

abbrev pub invariant-loop-m : goal.invariant-loop-m
invariant-loop-m l = TableHolds l.rows l.lens l.n × (join_while l.initial.n (rows_of l.initial.rows l.initial.lens l.initial.n) ≡ join_while l.n (rows_of l.rows l.lens l.n))

abbrev pub decreases-loop-m : goal.decreases-loop-m
decreases-loop-m l = l.n
