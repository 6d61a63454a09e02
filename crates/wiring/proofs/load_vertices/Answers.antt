use Rattle.std.proofs.Common.{refl}
use Rattle.wiring.proofs.LayLawsLoad.{load_vertex}
use Rattle.wiring.proofs.LayLaws.{counted}
use Rattle.wiring.proofs.load_vertices.Goals as goal

pub loop-v-preserved : goal.loop-v-preserved
loop-v-preserved c =
    let p = c.requires in
    load_vertex (counted p.reads.0 c.vertex_count-v-end.ensures.value refl) c.loop-v.invariant p.reads.1 c.loop-v-test.true c.vertex_demand.ensures.value c.saturating_sub.ensures
