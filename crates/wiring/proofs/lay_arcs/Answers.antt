use Rattle.std.proofs.Common.{◌≡◌, ◌&&◌, get_or, false}
use Rattle.wiring.proofs.LayLaws.{counted, lay_arc, stored_where}
use Rattle.wiring.proofs.lay_arcs.Goals as goal
use Rattle.wiring.proofs.lay_arcs.Goals.{then-kept-u, else-kept-u}

pub loop-e-preserved : goal.loop-e-preserved
loop-e-preserved c =
    let p = c.requires in
    let used : c.if-kept-u.used ≡ get_or c.args.kept.now c.arc_tail-u.result false && get_or c.args.kept.now c.arc_head-v.result false =
    elim c.if-kept-u.branch [ then-kept-u w ↦ rw (w.used-is, w.if-kept-u.true) | else-kept-u w ↦ rw (w.used-is, w.if-kept-u.false) ]
    in
    lay_arc (counted p.reads.0 c.vertex_count-n.ensures.value c.arc_count-m.ensures.value) c.loop-e.invariant p.reads.1 c.loop-e.auto.e c.loop-e-test.true
    c.arc_tail-u.ensures.value c.arc_head-v.ensures.value c.arc_cost.ensures.value used (stored_where c.then_some.ensures c.store_edge.ensures)
