-- `checker::reader::arcs_verdict` meets its contract: the answer of all records is that of those not yet passed.
use Rattle.std.proofs.Common.{◌≡◌, ◌-◌}
use Rattle.forms.specs.GraphFaults.{first_fault, arc_fault}
use Rattle.forms.specs.GraphForm.{arc_at}
use Rattle.checker.proofs.reader.arcs_verdict.Given as goal

abbrev pub invariant-loop-a : goal.invariant-loop-a
invariant-loop-a l = first_fault (λ a. arc_fault l.s (arc_at l.s a)) (arc_at l.s) l.count 0 ≡ first_fault (λ a. arc_fault l.s (arc_at l.s a)) (arc_at l.s) (l.count - l.a) l.a
