-- `checker::reader::is_walk` meets its contract: whether all of it is a walk is whether it goes on from u along the rest.
use Rattle.std.proofs.Common.{◌≡◌, ◌<◌, drop}
use Rattle.forms.specs.GraphFaults.{walks}
use Rattle.forms.specs.GraphForm.{vertex_count}
use Rattle.forms.specs.GraphOf.{arcs_of}
use Rattle.forms.proofs.WalkLaws.{walks_from}
use Rattle.checker.proofs.reader.is_walk.Given as goal

abbrev pub invariant-loop-next : goal.invariant-loop-next
invariant-loop-next l = (l.u < l.n) × (walks (vertex_count l.s) (arcs_of l.s) l.vertices ≡ walks_from (vertex_count l.s) (arcs_of l.s) l.u (drop l.next-index l.next-items))
