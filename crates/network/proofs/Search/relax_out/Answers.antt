-- `network::Search::relax_out` meets its contract: one edge more of the chain is looked at in a turn, and no distance is too large. Assumes nothing.
use Rattle.std.proofs.Common.{◌-◌, ◌<◌, ap, arith}
use Rattle.network.specs.Network.{nth}
use Rattle.network.proofs.NetworkLawsSearch.{here_far, out_again}
use Rattle.network.proofs.Search.relax_out.Goals as goal

pub overflow_add-d-in-loop-h : goal.overflow_add-d-in-loop-h
overflow_add-d-in-loop-h c =
    let p = c.requires in
    let i = c.loop-h.invariant.0 in
    let l : c.loop-h.h - 1 < c.args.network.now.edges = let a = i.0 in omega arith in
    let m = ap (nth c.args.flow.now.mark) (i.1 (c.loop-h.h - 1) (omega arith)) in
    omega (arith, here_far _ _ _ _ _ _ _ _ _ _ _ _ 0 _ _ _ p.lanes i.3, p.lanes.small (c.loop-h.h - 1) l)

pub loop-h-preserved : goal.loop-h-preserved
loop-h-preserved c =
    let p = c.requires in
    let i = c.loop-h.invariant in
    (out_again _ _ _ _ _ _ _ _ _ _ _ _ _ _ _ _ p.lanes p.chained _ i.0 c.loop-h-test.true _ _ c.lower.ensures, i.1)
