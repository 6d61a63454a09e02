-- `checker::answers::marks_verdict` gives the first mark out of range: the verdict of all marks is that of those left.
use Rattle.std.proofs.Common.{sym, arith}
use Rattle.forms.proofs.LayoutLaws.{mark_fits}
use Rattle.forms.proofs.ThenLaws.{number_positive}
use Rattle.checker.proofs.AnswerLaws.{marks_begin, marks_turn, marks_stop, marks_over}
use Rattle.checker.proofs.answers.marks_verdict.Goals as goal

pub in_mark_at-at-requires : goal.in_mark_at-at-requires
in_mark_at-at-requires c = mark_fits _ 0 (omega arith)

pub loop-init : goal.loop-init
loop-init c = marks_begin _ _ c.in_mark_at-at.ensures

pub returns-in-Err : goal.returns-in-Err
returns-in-Err c = rw (c.new.ensures.0, c.new.ensures.1) (marks_stop c.loop.invariant (omega arith) _ c.in-Err.ensures (number_positive _))

pub loop-preserved : goal.loop-preserved
loop-preserved c = marks_turn c.loop.invariant (omega arith) (sym c.in_default.ensures)

pub returns : goal.returns
returns c = marks_over c.loop.invariant (omega arith)
