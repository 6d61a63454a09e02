-- `network::Search::relax_back` meets its contract: one edge more of the chain is looked at in a turn. Assumes nothing.
use Rattle.std.proofs.Common.{ap, ◌∙◌}
use Rattle.network.specs.declared.Search.{Search}
use Rattle.network.proofs.NetworkLawsSearch.{back_again, back_skipped}
use Rattle.network.proofs.Search.relax_back.Goals as goal
use Rattle.network.proofs.Search.relax_back.Goals.{then-flow-e-gt0, else-flow-e-gt0}

pub loop-h-preserved : goal.loop-h-preserved
loop-h-preserved c =
    let p = c.requires in
    let i = c.loop-h.invariant in
    elim c.if-flow-e-gt0.branch [
      | then-flow-e-gt0 w ↦ (
        back_again _ _ _ _ _ _ _ _ _ _ _ _ _ _ _ _ p.lanes p.chained _ i.0 c.loop-h-test.true w.if-flow-e-gt0.true _ _ _ _ w.lower.ensures (ap (λ (s : Search). s.dist) w.self-is) (ap (λ (s : Search). s.via) w.self-is),
        ap (λ (s : Search). s.rank) w.self-is ∙ i.1,
      )
      | else-flow-e-gt0 w ↦ (
        back_skipped _ _ _ _ _ _ _ _ _ _ _ _ _ _ _ _ p.lanes p.chained _ i.0 c.loop-h-test.true w.if-flow-e-gt0.false _ _ (ap (λ (s : Search). s.dist) w.self-is) (ap (λ (s : Search). s.via) w.self-is),
        ap (λ (s : Search). s.rank) w.self-is ∙ i.1,
      )
    ]
