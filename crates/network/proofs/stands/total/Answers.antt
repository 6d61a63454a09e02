-- `network::stands::total` meets its contract: no sum is more than all. Assumes nothing.
use Rattle.std.proofs.Common.{arith}
use Rattle.network.specs.Network.{nth}
use Rattle.network.proofs.NetworkLawsStand.{total_fits}
use Rattle.network.proofs.stands.total.Goals as goal

pub overflow_add-sum : goal.overflow_add-sum
overflow_add-sum c = omega (arith, total_fits c.loop-u.u c.args.nodes (λ v. nth c.args.balance.now.surplus v) c.loop-u-test.true c.requires.few, c.loop-u.invariant)
