-- `pivot::tree::Tree::move_part` is safe and ends. What it visits is a node. Assumes nothing.
use Rattle.std.proofs.Common.{◌<◌, IfSome}
use Rattle.pivot.specs.Sizes.{most_nodes}
use Rattle.pivot.proofs.tree.Tree.move_part.Given as goal

abbrev pub invariant-loop : goal.invariant-loop
invariant-loop l = IfSome l.visit (λ u. u < most_nodes)
