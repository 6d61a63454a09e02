-- `listing::lines::put_vertices` meets its contract: at each turn the texts of the remaining vertices are still to be stored.
-- Assumes nothing.
use Rattle.std.proofs.Common.{drop}
use Rattle.text.proofs.Storing.{Still}
use Rattle.listing.specs.Lines.{vertex_texts}
use Rattle.listing.proofs.lines.put_vertices.Given as goal

abbrev pub invariant-loop-v : goal.invariant-loop-v
invariant-loop-v l = Still l.initial.out l.at (vertex_texts l.vertices) l.out l.end (vertex_texts (drop l.v-index l.vertices))
