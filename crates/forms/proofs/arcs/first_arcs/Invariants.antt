-- `forms::arcs::first_arcs` meets its contract: the table is filled up to u, and no more arcs are counted than have a tail below u.
use Rattle.std.proofs.Common.{◌+◌, ◌≤◌}
use Rattle.forms.specs.Limits.{room_vertices}
use Rattle.forms.specs.GraphOf.{arcs_of}
use Rattle.forms.specs.ArcTable.{tails_below}
use Rattle.forms.proofs.Filling.{Filled}
use Rattle.forms.proofs.arcs.first_arcs.Given as goal

abbrev pub invariant-loop-u : goal.invariant-loop-u
invariant-loop-u l = record {
  counted : l.below ≤ tails_below (arcs_of l.s) l.u;
  filled : Filled (room_vertices + 1) 0 (tails_below (arcs_of l.s)) l.entry-items l.u;
}
