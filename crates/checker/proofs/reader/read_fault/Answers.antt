-- `checker::reader::read_fault` gives the fault of specs/GraphFaults: the part that it hands on is the read's vertices.
use Rattle.std.proofs.Common.{ap, ◌∙◌, arith}
use Rattle.std.proofs.lemmas.Bool.Decides.{nat_tests}
use Rattle.forms.specs.GraphFaults.{walks, read_fault}
use Rattle.forms.specs.GraphForm.{vertex_count}
use Rattle.forms.specs.GraphOf.{arcs_of}
use Rattle.checker.proofs.ReadLaws.{read_slice}
use Rattle.checker.proofs.reader.read_fault.Goals as goal

pub returns-then-not-is_walk : goal.returns-then-not-is_walk
unfolding read_fault
returns-then-not-is_walk c =
    let walked = c.is_walk.ensures ∙ ap (walks (vertex_count c.args.s.now) (arcs_of c.args.s.now)) (read_slice _ _ c.read_vertices_at-2.ensures c.read_end-2.ensures) in
    grind (arith, nat_tests, walked)

pub returns : goal.returns
unfolding read_fault
returns c =
    let walked = c.is_walk.ensures ∙ ap (walks (vertex_count c.args.s.now) (arcs_of c.args.s.now)) (read_slice _ _ c.read_vertices_at-2.ensures c.read_end-2.ensures) in
    grind (arith, nat_tests, walked)
