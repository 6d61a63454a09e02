-- `pivot::tree::Tree::move_side` is safe and ends. What it is at is a node. Assumes nothing.
use Rattle.std.proofs.Common.{◌<◌}
use Rattle.pivot.specs.Sizes.{most_nodes}
use Rattle.pivot.proofs.tree.Tree.move_side.Given as goal

abbrev pub invariant-loop : goal.invariant-loop
invariant-loop l = l.here < most_nodes
