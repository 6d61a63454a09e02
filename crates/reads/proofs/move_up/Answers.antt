-- `reads::move_up` meets its contract: the rows kept so far, and what dropping leaves of the rest, are what dropping leaves of all.
use Rattle.std.proofs.Common.{◌∙◌, sym}
use Rattle.reads.proofs.DropLaws.{moved_start, moved_skip, moved_keep, moved_end, moved_table}
use Rattle.reads.proofs.move_up.Goals as goal
use Rattle.reads.proofs.move_up.Goals.{then-not-marks-i, else-not-marks-i}

pub loop-i-init : goal.loop-i-init
loop-i-init c = moved_start _ _ _ c.requires.table

pub loop-i-preserved : goal.loop-i-preserved
loop-i-preserved c =
    elim c.if-not-marks-i.branch [
      | then-not-marks-i w ↦
          rw (w.rows-is, w.lens-is, w.kept-is)
          (moved_keep _ _ _ _ _ _ _ c.requires.table c.loop-i.invariant c.loop-i-test.true (sym w.if-not-marks-i.true ∙ c.requires.marked _ c.loop-i-test.true))
      | else-not-marks-i w ↦
          rw (w.rows-is, w.lens-is, w.kept-is)
          (moved_skip _ _ _ _ _ _ _ c.requires.table c.loop-i.invariant c.loop-i-test.true (sym w.if-not-marks-i.false ∙ c.requires.marked _ c.loop-i-test.true))
    ]

pub returns : goal.returns
returns c =
    record {
      table = moved_table _ _ _ _ _ _ _ c.requires.table c.loop-i.invariant c.loop-i-test.false;
      reads = moved_end _ _ _ _ _ _ _ c.requires.table c.loop-i.invariant c.loop-i-test.false;
    }
