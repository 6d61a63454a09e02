-- `certify::count_arc` counts the one arc from u to v, where it is found.
use Rattle.std.proofs.Common.{arith, rules}
use Rattle.certify.proofs.GrowthLaws.{found_arc, found_room}
use Rattle.certify.proofs.CertifyLawsCount.{arc_none, arc_one}
use Rattle.certify.proofs.count_arc.Goals as goal

pub returns-in_default : goal.returns-in_default
returns-in_default c = arc_none _ c.requires.arc_table.0.arcs _ _ _ (search rules) c.in_default.ensures

pub offset_bounds-arc_reads-k : goal.offset_bounds-arc_reads-k
offset_bounds-arc_reads-k c = omega (arith, found_room _ _ c.requires.arc_table.0.arcs c.in-Some.ensures)

pub bounds-arc_reads-k : goal.bounds-arc_reads-k
bounds-arc_reads-k c = found_room _ _ c.requires.arc_table.0.arcs c.in-Some.ensures

pub bounds-arc_reads-k-in-Some : goal.bounds-arc_reads-k-in-Some
bounds-arc_reads-k-in-Some c = found_room _ _ c.requires.arc_table.0.arcs c.in-Some.ensures

pub overflow_add-arc_reads : goal.overflow_add-arc_reads
overflow_add-arc_reads c = omega (arith, c.requires.by_index _ (found_arc _ _ _ c.requires.arc_table.0.arcs _ c.in-Some.ensures).inside)

pub returns-in-Some : goal.returns-in-Some
returns-in-Some c = arc_one _ c.requires.arc_table.0.arcs _ _ _ (search rules) _ c.in-Some.ensures
