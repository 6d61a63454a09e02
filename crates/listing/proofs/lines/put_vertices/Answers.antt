-- `listing::lines::put_vertices` meets its contract: at each turn the texts of the remaining vertices are still to be stored.
-- Assumes nothing.
use Rattle.text.proofs.Storing.{still_next, still_byte}
use Rattle.listing.proofs.Vertices.{vertex_next}
use Rattle.listing.proofs.lines.put_vertices.Goals as goal

pub loop-v-preserved : goal.loop-v-preserved
loop-v-preserved c = still_next c.put_number-end.ensures (still_byte (vertex_next _ _ _ c.loop-v-test.true c.from.ensures c.loop-v.invariant))
