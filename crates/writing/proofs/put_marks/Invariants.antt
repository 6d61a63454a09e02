-- `writing::put_marks` meets its contract. The loop's invariant: the marks of the vertices before v are put, and nothing else is changed.
use Rattle.forms.specs.AnswerForm.{in_mark_at}
use Rattle.checker.specs.Encode.{mark_bytes}
use Rattle.network.specs.Network.{nth}
use Rattle.writing.specs.Writing.{Placed, held_marks}
use Rattle.writing.proofs.put_marks.Given as goal

abbrev pub invariant-loop-v : goal.invariant-loop-v
invariant-loop-v l = Placed l.initial.out (in_mark_at l.s 0) (mark_bytes (held_marks (nth l.marks.into) (nth l.marks.outof)) l.v 0) l.out
