use Rattle.std.proofs.Common.{◌≡◌, ◌+◌, ◌*◌, ◌-◌, ◌&&◌, refl, get_or, false}
use Rattle.wiring.proofs.LayLaws.{counted, lay_opening, stored_where}
use Rattle.wiring.proofs.lay_openings.Goals as goal
use Rattle.wiring.proofs.lay_openings.Goals.{then-is_start, else-is_start}

pub loop-e-preserved : goal.loop-e-preserved
loop-e-preserved c =
    let p = c.requires in
    let used : c.if-is_start.used ≡ c.is_start.result && get_or c.args.kept.now (2 * c.vertex_count-n.result + c.arc_count-m.result - (c.loop-e.e + 1)) false =
    elim c.if-is_start.branch [ then-is_start w ↦ rw (w.used-is, w.if-is_start.true) | else-is_start w ↦ rw (w.used-is, w.if-is_start.false) ]
    in
    lay_opening (counted p.reads.0 c.vertex_count-n.ensures.value c.arc_count-m.ensures.value) c.loop-e.invariant p.reads.2 refl c.loop-e.auto.e c.loop-e-test.true
    c.is_start.ensures c.opening_price-price.ensures.value used (stored_where c.then_some.ensures c.store_edge.ensures)
