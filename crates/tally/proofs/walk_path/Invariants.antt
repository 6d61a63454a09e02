-- `tally::walk_path` walks along a path: what is left of it behind the first vertex decides, and adds what is lacking.
use Rattle.std.proofs.Common.{◌-◌, length, take, drop}
use Rattle.tally.proofs.PathWalkLaws.{WalkLeft}
use Rattle.tally.proofs.walk_path.Given as goal

abbrev pub invariant-loop-next : goal.invariant-loop-next
invariant-loop-next l = WalkLeft l.s (take (length l.path - 1) (drop 1 l.path)) l.initial.u l.weight l.initial.vertex_totals l.vertex_totals l.initial.arc_totals l.arc_totals l.u l.cost l.next-index
