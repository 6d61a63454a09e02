-- `coverage::write_demands` meets its contract: the demands passed are the quotients. Assumes nothing.
use Rattle.std.proofs.Common.{refl, rules}
use Rattle.coverage.proofs.WholePart.{recorded}
use Rattle.coverage.proofs.DemandLaws.{right_exon, demand_counts, demand_more, demands_whole}
use Rattle.coverage.proofs.write_demands.Goals as goal

pub loop-exon-init : goal.loop-exon-init
loop-exon-init c = refl

pub demand_of-requires : goal.demand_of-requires
demand_of-requires c =
    let right = right_exon _ _ c.loop-exon.exon (c.requires.2 _ (search rules)) in
    recorded _ _ _ c.new.ensures.value (search rules) right.0 right.1

pub loop-exon-preserved : goal.loop-exon-preserved
loop-exon-preserved c =
    demand_more _ _ c.loop-exon.demands c.loop-exon.exon _ c.requires.0 (search rules) (search rules) c.loop-exon.invariant (demand_counts _ _ _ _ c.new.ensures.value c.demand_of.ensures)

pub returns : goal.returns
returns c = demands_whole _ _ _ c.loop-exon.exon c.requires.0 (search rules) (search rules) c.loop-exon.invariant
