-- `network::round` meets its contract: the laws of the search, of the marks and of the move, one after the other. Assumes nothing.
use Rattle.network.proofs.NetworkLawsCarry.{seeking, round_raises, round_laid, limit_some, round_pushes, round_state, round_step, round_others, round_falls}
use Rattle.network.proofs.round.Goals as goal

pub find-target-requires-clause-seeking : goal.find-target-requires-clause-seeking
find-target-requires-clause-seeking c = let p = c.requires in let q = p.source_lt_nodes in seeking _ _ _ _ _ _ _ _ _ _ p.shape p.carrying _ q.0 q.1

pub raise-requires : goal.raise-requires
raise-requires c = let p = c.requires in let q = p.source_lt_nodes in round_raises _ _ _ _ _ _ _ _ _ _ p.shape p.carrying _ q.0 q.1 _ _ _ _ c.find-target.ensures

pub bottleneck-amount-requires-clause-laid : goal.bottleneck-amount-requires-clause-laid
bottleneck-amount-requires-clause-laid c = let p = c.requires in let q = p.source_lt_nodes in round_laid _ _ _ _ _ _ _ _ _ _ p.shape p.carrying _ q.0 q.1 _ _ _ _ c.find-target.ensures _ c.raise.ensures

pub bottleneck-amount-requires-clause-le_limit : goal.bottleneck-amount-requires-clause-le_limit
bottleneck-amount-requires-clause-le_limit c = let p = c.requires in let q = p.source_lt_nodes in limit_some _ _ _ _ _ _ _ _ _ _ p.shape p.carrying _ q.0 q.1 _ _ _ _ c.find-target.ensures _ c.raise.ensures _ 0 c.min-limit.ensures

pub push-requires-clause-laid : goal.push-requires-clause-laid
push-requires-clause-laid c = let p = c.requires in let q = p.source_lt_nodes in round_laid _ _ _ _ _ _ _ _ _ _ p.shape p.carrying _ q.0 q.1 _ _ _ _ c.find-target.ensures _ c.raise.ensures

pub push-requires-clause-pushing : goal.push-requires-clause-pushing
push-requires-clause-pushing c = let p = c.requires in let q = p.source_lt_nodes in round_pushes _ _ _ _ _ _ _ _ _ _ p.shape p.carrying _ q.0 q.1 _ _ _ _ c.find-target.ensures _ c.raise.ensures _ _ c.min-limit.ensures c.bottleneck-amount.ensures

pub returns : goal.returns
returns c =
    let p = c.requires in
    let q = p.source_lt_nodes in
    record {
      carrying_2 = rw c.push.ensures.marks (round_state _ _ _ _ _ _ _ _ _ _ p.shape p.carrying _ q.0 q.1 _ _ _ _ c.find-target.ensures _ c.raise.ensures _ _ c.min-limit.ensures c.bottleneck-amount.ensures _ c.push.ensures.pushed);
      carries = round_step _ _ _ _ _ _ _ _ _ _ p.shape p.carrying _ q.0 q.1 _ _ _ _ c.find-target.ensures _ c.raise.ensures _ _ c.min-limit.ensures c.bottleneck-amount.ensures _ c.push.ensures.pushed;
      others_kept = round_others _ _ _ _ _ _ _ _ _ _ p.shape p.carrying _ q.0 q.1 _ _ _ _ c.find-target.ensures _ c.raise.ensures _ _ c.min-limit.ensures c.bottleneck-amount.ensures _ c.push.ensures.pushed;
      source_bound = round_falls _ _ _ _ _ _ _ _ _ _ p.shape p.carrying _ q.0 q.1 _ _ _ _ c.find-target.ensures _ c.raise.ensures _ _ c.min-limit.ensures c.bottleneck-amount.ensures _ c.push.ensures.pushed;
    }
