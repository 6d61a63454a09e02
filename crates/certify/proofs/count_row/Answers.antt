-- `certify::count_row` counts a read at its vertices and arcs: with those left, the counts are those of the whole read.
use Rattle.std.proofs.Common.{arith, ◌∙◌}
use Rattle.certify.proofs.CertifyLawsCount.{number_room, behind_length, behind_first, vertex_room, arc_room, count_turn, count_end}
use Rattle.certify.proofs.count_row.Goals as goal

pub overflow_add-vertex_reads-in-loop-next : goal.overflow_add-vertex_reads-in-loop-next
overflow_add-vertex_reads-in-loop-next c =
    let low = c.requires.3 in
    let next = behind_first c.args.row.now _ c.loop-next-test.true in
    let inside = number_room c.requires.1 next.1 (c.from-v.ensures ∙ next.0) in
    let first = number_room c.requires.1 c.requires.1.some c.from-u.ensures in
    omega (arith, vertex_room c.args.vertex_reads.now c.loop-next.invariant c.from-v.result inside c.requires.2 (omega (arith, first, low.vertices_long)) (low.vertices c.from-v.result inside))

pub count_arc-requires-clause-by_index : goal.count_arc-requires-clause-by_index
count_arc-requires-clause-by_index c = λ a h. arc_room c.loop-next.invariant a h c.requires.2 (c.requires.3.arcs a h)

pub loop-next-preserved : goal.loop-next-preserved
loop-next-preserved c =
    let next = behind_first c.args.row.now _ c.loop-next-test.true in
    let read = c.from-v.ensures ∙ next.0 in
    count_turn c.loop-next.invariant _ _ next.1 read (number_room c.requires.1 next.1 read) c.count_arc.ensures

pub returns : goal.returns
returns c =
    let first = number_room c.requires.1 c.requires.1.some c.from-u.ensures in
    count_end c.loop-next.invariant (omega (arith, behind_length c.args.row.now, c.loop-next-test.false)) c.requires.1.some c.from-u.ensures (omega (arith, first, c.requires.3.vertices_long))
