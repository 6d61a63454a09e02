-- `forms::arcs::find_arc` meets its contract: what is found among all arcs is what is found from arc a on.
use Rattle.std.proofs.Common.{◌≡◌, ◌≤◌, get_or}
use Rattle.forms.specs.GraphForm.{arc_count}
use Rattle.forms.specs.GraphOf.{arcs_of}
use Rattle.forms.specs.ArcTable.{arc_number}
use Rattle.forms.proofs.ArcLaws.{found_from}
use Rattle.forms.proofs.arcs.find_arc.Given as goal

abbrev pub invariant-loop-a : goal.invariant-loop-a
invariant-loop-a l = record {
  begun : get_or l.first l.u 0 ≤ l.a;
  within : l.a ≤ arc_count l.s;
  found : arc_number (arcs_of l.s) l.u l.v ≡ found_from l.s l.u l.v l.a;
}
