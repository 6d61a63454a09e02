use Rattle.std.proofs.Common.{refl}
use Rattle.wiring.proofs.LayLaws.{counted, lay_vertex, stored_where}
use Rattle.wiring.proofs.lay_vertices.Goals as goal

pub loop-v-preserved : goal.loop-v-preserved
loop-v-preserved c =
    let p = c.requires in
    lay_vertex (counted p.reads.0 c.vertex_count-v-end.ensures.value refl) c.loop-v.invariant p.reads.1 c.loop-v-test.true (stored_where c.then_some.ensures c.store_edge.ensures)
