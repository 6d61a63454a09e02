-- `pivot::tree::Tree::turn_part` is safe and ends. What it is at is a node, and so is what it hangs on. Assumes nothing.
use Rattle.std.proofs.Common.{◌<◌}
use Rattle.pivot.specs.Sizes.{most_nodes}
use Rattle.pivot.proofs.tree.Tree.turn_part.Given as goal

abbrev pub invariant-loop : goal.invariant-loop
invariant-loop l = (l.here < most_nodes) × (l.hold.parent < most_nodes)
