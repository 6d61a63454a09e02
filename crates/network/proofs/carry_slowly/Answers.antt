-- `network::carry_slowly` meets its contract: when no node has a surplus, all is carried. Assumes nothing.
use Rattle.network.proofs.NetworkLawsCarry.{all_carried}
use Rattle.network.proofs.carry_slowly.Goals as goal

pub returns-clause-by_index : goal.returns-clause-by_index
returns-clause-by_index c =
    let p = c.requires in
    let i = c.loop-u.invariant in
    all_carried _ _ _ _ _ _ _ _ _ _ p.shape p.waiting _ _ _ _ i.0 i.1 _ i.2 c.loop-u-test.false
