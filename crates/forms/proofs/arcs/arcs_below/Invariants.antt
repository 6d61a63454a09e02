-- `forms::arcs::arcs_below` meets its contract: no more arcs were passed than have a tail below u.
use Rattle.std.proofs.Common.{◌≤◌}
use Rattle.forms.specs.GraphOf.{arcs_of}
use Rattle.forms.specs.ArcTable.{tails_below}
use Rattle.forms.proofs.arcs.arcs_below.Given as goal

abbrev pub invariant-loop-a : goal.invariant-loop-a
invariant-loop-a l = l.a ≤ tails_below (arcs_of l.s) l.u
