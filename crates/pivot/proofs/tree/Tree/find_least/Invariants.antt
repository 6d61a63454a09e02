-- `pivot::tree::Tree::find_least` is safe and ends. Both sides of the climb are at nodes. Assumes nothing.
use Rattle.std.proofs.Common.{◌<◌}
use Rattle.pivot.specs.Sizes.{most_nodes}
use Rattle.pivot.proofs.tree.Tree.find_least.Given as goal

abbrev pub invariant-loop : goal.invariant-loop
invariant-loop l = (l.climb.back < most_nodes) × (l.climb.front < most_nodes)
