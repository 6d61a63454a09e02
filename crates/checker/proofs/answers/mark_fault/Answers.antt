-- `checker::answers::mark_fault` gives the fault of specs/AnswerFaults.
use Rattle.std.proofs.Common.{arith}
use Rattle.forms.proofs.MarkLaws.{mark_low, mark_high, mark_between}
use Rattle.checker.proofs.answers.mark_fault.Goals as goal

pub returns-then-x : goal.returns-then-x
returns-then-x c = grind (arith, mark_between)

pub returns : goal.returns
returns c = grind (arith, mark_low, mark_high)
