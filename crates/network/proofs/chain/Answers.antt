-- `network::chain` meets its contract: each edge is put before the others of its node. Assumes nothing.
use Rattle.std.proofs.Common.{arith, length-set, rules}
use Rattle.std.proofs.lemmas.Slice.{overwrites}
use Rattle.network.proofs.NetworkLaws.{chain_none, chain_more}
use Rattle.network.proofs.chain.Goals as goal

pub loop-e-init : goal.loop-e-init
loop-e-init c =
    let few = c.requires.few_nodes in
    (search rules, search rules, chain_none _ _ _ _ (search (rules, overwrites)))

pub loop-e-preserved : goal.loop-e-preserved
loop-e-preserved c =
    let w = c.loop-e in
    let g = c.requires in (
      simp length-set w.invariant.0,
      simp length-set w.invariant.1,
      chain_more _ _ _ _ _ w.invariant.2 (g.key_node w.e (omega arith)) (omega arith) (omega arith),
    )
