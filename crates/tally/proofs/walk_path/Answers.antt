-- `tally::walk_path` counts the first vertex and walks on from there.
use Rattle.std.proofs.Common.{arith, rules, sym, ◌∙◌}
use Rattle.certify.proofs.GrowthLaws.{found_arc, found_room, head_room}
use Rattle.tally.proofs.PathWalkLaws.{opened, behind_length, path_room, path_walked, first_room, walk_fails, walk_begin, walk_nowhere, walk_turn, walk_end, walk_no_end, arc_room, vertex_room}
use Rattle.tally.proofs.walk_path.Goals as goal

pub overflow_add-vertex_totals : goal.overflow_add-vertex_totals
overflow_add-vertex_totals c = omega (arith, first_room c.from-u.result (omega (arith, c.requires.reads.0.arcs.header.vertices_room)) c.requires.totals)

pub loop-next-init : goal.loop-next-init
loop-next-init c =
    let room = path_room _ _ _ _ _ _ (opened _ c.requires.reads.3 c.from-u.ensures) (search rules) (sym c.is_start.ensures ∙ c.if-not-is_start.false) c.requires.reads.0.arcs.header.vertices_room c.requires.totals in
    walk_begin (search rules) room

pub returns-in_err-k : goal.returns-in_err-k
returns-in_err-k c =
    rw c.from_residual.ensures
    (path_walked _ _ _ _ _ _ (opened _ c.requires.reads.3 c.from-u.ensures) (search rules) (sym c.is_start.ensures ∙ c.if-not-is_start.false) c.requires.reads.0.arcs.header.vertices_room _ _ _ _ c.requires.totals.vertices_long
    (walk_fails (walk_nowhere c.loop-next.invariant c.loop-next-test.true c.from-v.ensures c.in_err-k.ensures)))

pub offset_bounds-arc_totals-k : goal.offset_bounds-arc_totals-k
offset_bounds-arc_totals-k c = omega (arith, found_room _ _ c.requires.reads.0.arcs c.in_ok-k.ensures)

pub bounds-arc_totals-k : goal.bounds-arc_totals-k
bounds-arc_totals-k c = found_room _ _ c.requires.reads.0.arcs c.in_ok-k.ensures

pub overflow_add-arc_totals : goal.overflow_add-arc_totals
overflow_add-arc_totals c =
    let room = path_room _ _ _ _ _ _ (opened _ c.requires.reads.3 c.from-u.ensures) (search rules) (sym c.is_start.ensures ∙ c.if-not-is_start.false) c.requires.reads.0.arcs.header.vertices_room c.requires.totals in
    omega (arith, arc_room c.loop-next.invariant (omega (arith, behind_length c.args.path.now, c.requires.reads)) room _ (found_arc _ _ _ c.requires.reads.0.arcs _ c.in_ok-k.ensures).inside)

pub bounds-arc_totals-k-in-loop-next : goal.bounds-arc_totals-k-in-loop-next
bounds-arc_totals-k-in-loop-next c = found_room _ _ c.requires.reads.0.arcs c.in_ok-k.ensures

pub bounds-vertex_totals-v : goal.bounds-vertex_totals-v
bounds-vertex_totals-v c = head_room _ _ c.requires.reads.0.arcs c.in_ok-k.ensures

pub overflow_add-vertex_totals-in-loop-next : goal.overflow_add-vertex_totals-in-loop-next
overflow_add-vertex_totals-in-loop-next c =
    let room = path_room _ _ _ _ _ _ (opened _ c.requires.reads.3 c.from-u.ensures) (search rules) (sym c.is_start.ensures ∙ c.if-not-is_start.false) c.requires.reads.0.arcs.header.vertices_room c.requires.totals in
    omega (arith, vertex_room c.loop-next.invariant (omega (arith, behind_length c.args.path.now, c.requires.reads)) room c.from-v.result (head_room _ _ c.requires.reads.0.arcs c.in_ok-k.ensures))

pub bounds-vertex_totals-v-in-loop-next : goal.bounds-vertex_totals-v-in-loop-next
bounds-vertex_totals-v-in-loop-next c = head_room _ _ c.requires.reads.0.arcs c.in_ok-k.ensures

pub arc_cost-cost-requires : goal.arc_cost-cost-requires
arc_cost-cost-requires c = (search rules, (c.requires.reads.0.arcs.each _ (found_arc _ _ _ c.requires.reads.0.arcs _ c.in_ok-k.ensures).inside).whole)

pub loop-next-preserved : goal.loop-next-preserved
loop-next-preserved c =
    let right = c.requires.reads.0.arcs in
    let low = (right.each _ (found_arc _ _ _ right _ c.in_ok-k.ensures).inside).low_cost in
    walk_turn c.loop-next.invariant c.loop-next-test.true c.from-v.ensures right c.in_ok-k.ensures c.arc_cost-cost.ensures.value (omega (arith, low, c.arc_cost-cost.ensures.value))

pub returns-then-is_end : goal.returns-then-is_end
returns-then-is_end c =
    path_walked _ _ _ _ _ _ (opened _ c.requires.reads.3 c.from-u.ensures) (search rules) (sym c.is_start.ensures ∙ c.if-not-is_start.false) c.requires.reads.0.arcs.header.vertices_room _ _ _ _ c.requires.totals.vertices_long
    (walk_end c.loop-next.invariant c.loop-next-test.false (omega (arith, behind_length c.args.path.now, c.requires.reads)) (search rules))

pub returns-else-is_end : goal.returns-else-is_end
returns-else-is_end c =
    path_walked _ _ _ _ _ _ (opened _ c.requires.reads.3 c.from-u.ensures) (search rules) (sym c.is_start.ensures ∙ c.if-not-is_start.false) c.requires.reads.0.arcs.header.vertices_room _ _ _ _ c.requires.totals.vertices_long
    (walk_no_end c.loop-next.invariant c.loop-next-test.false (search rules))
