-- `reach::read_lies` meets its contract.
use Rattle.reach.proofs.ReachLawsLacking.{ends_low, ends_lie}
use Rattle.reach.proofs.read_lies.Goals as goal

pub lies-requires : goal.lies-requires
lies-requires c = ends_low c.requires.0 c.requires.1 c.read_vertices_at-first.ensures c.read_end-end.ensures c.from.ensures c.from-2.ensures

pub returns : goal.returns
returns c = ends_lie c.requires.0 c.requires.1 c.read_vertices_at-first.ensures c.read_end-end.ensures c.from.ensures c.from-2.ensures c.lies.ensures
