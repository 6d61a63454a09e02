-- `checker::answers::marks_verdict` gives the first mark out of range: the verdict of all marks is that of those left.
use Rattle.checker.proofs.AnswerLaws.{MarksLeft}
use Rattle.checker.proofs.answers.marks_verdict.Given as goal

abbrev pub invariant-loop : goal.invariant-loop
invariant-loop l = MarksLeft l.s l.t l.counter l.at
