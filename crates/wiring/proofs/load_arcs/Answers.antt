use Rattle.wiring.proofs.LayLawsLoad.{load_arc}
use Rattle.wiring.proofs.LayLaws.{counted}
use Rattle.wiring.proofs.load_arcs.Goals as goal

pub loop-e-preserved : goal.loop-e-preserved
loop-e-preserved c =
    let p = c.requires in
    load_arc (counted p.reads.0 c.vertex_count-n.ensures.value c.arc_count-m.ensures.value) c.loop-e.invariant p.reads.1 c.loop-e.auto.e c.loop-e-test.true
    c.arc_demand.ensures.value c.saturating_sub.ensures
