-- `checker::reader::vertices_verdict` meets its contract: the answer of all records is that of those not yet passed.
use Rattle.std.proofs.Common.{◌≡◌, ◌-◌}
use Rattle.forms.specs.GraphFaults.{first_fault, vertex_fault}
use Rattle.forms.specs.GraphForm.{vertex_at}
use Rattle.checker.proofs.reader.vertices_verdict.Given as goal

abbrev pub invariant-loop-v : goal.invariant-loop-v
invariant-loop-v l = first_fault (vertex_fault l.s) (vertex_at l.s) l.count 0 ≡ first_fault (vertex_fault l.s) (vertex_at l.s) (l.count - l.v) l.v
