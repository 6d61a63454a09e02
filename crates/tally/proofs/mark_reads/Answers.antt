-- `tally::mark_reads` marks each read that the path holds, one record after another.
use Rattle.std.proofs.Common.{rules, ap, ◌∙◌}
use Rattle.mathematics.specs.Lists.{holds}
use Rattle.tally.proofs.ReadsMetLaws.{reads_turn, read_slice}
use Rattle.tally.proofs.mark_reads.Goals as goal
use Rattle.tally.proofs.mark_reads.Goals.{then-met-r, else-met-r}

pub loop-r-preserved : goal.loop-r-preserved
loop-r-preserved c =
    reads_turn c.loop-r.invariant (search rules) _ c.read_end-end.ensures
    (elim c.if-met-r.branch [
      | then-met-r w ↦ rw (w.met-is, w.if-met-r.true)
      | else-met-r w ↦ rw (w.met-is, w.if-met-r.false) (w.holds_read.ensures ∙ ap (holds c.args.path.now) (read_slice c.args.s.now c.loop-r.at w.read_vertices_at.ensures c.read_end-end.ensures))
    ])
