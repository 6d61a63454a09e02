use Rattle.std.proofs.Common.{◌≡◌, ◌+◌, ◌*◌, ◌&&◌, refl, get_or, false, arith}
use Rattle.wiring.proofs.LayLaws.{counted, edges_at, lay_closing, stored_where}
use Rattle.wiring.proofs.lay_closings.Goals as goal
use Rattle.wiring.proofs.lay_closings.Goals.{then-is_end, else-is_end}

pub loop-v-preserved : goal.loop-v-preserved
loop-v-preserved c =
    let p = c.requires in
    let n = c.vertex_count-n.result in
    let m = c.arc_count-m.result in
    let used : c.if-is_end.used ≡ c.is_end.result && get_or c.args.kept.now c.loop-v.v false =
    elim c.if-is_end.branch [ then-is_end w ↦ rw (w.used-is, w.if-is_end.true) | else-is_end w ↦ rw (w.used-is, w.if-is_end.false) ]
    in
    let e : 2 * n + m + c.loop-v.v + 1 ≡ 2 * n + m + (c.loop-v.v + 1) = omega arith in
    edges_at
    (lay_closing (counted p.reads.0 c.vertex_count-n.ensures.value c.arc_count-m.ensures.value) c.loop-v.invariant p.reads.2 refl c.loop-v-test.true c.is_end.ensures used
    (stored_where c.then_some.ensures c.store_edge.ensures)) e
