-- `network::stands::total` meets its contract. The loop's invariant: the sum is that of the first u. Assumes nothing.
use Rattle.std.proofs.Common.{◌≡◌}
use Rattle.network.specs.Network.{nth, sum_to}
use Rattle.network.proofs.stands.total.Given as goal

abbrev pub invariant-loop-u : goal.invariant-loop-u
invariant-loop-u l = l.sum ≡ sum_to l.u (λ v. nth l.balance.surplus v)
