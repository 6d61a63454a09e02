-- `coverage::write_demands` meets its contract: the demands passed are the quotients. Assumes nothing.
use Rattle.std.proofs.Common.{◌≡◌, take}
use Rattle.coverage.specs.Demands.{quotients}
use Rattle.coverage.proofs.write_demands.Given as goal

abbrev pub invariant-loop-exon : goal.invariant-loop-exon
invariant-loop-exon l = take l.exon l.demands ≡ take l.exon (quotients l.bases l.lengths)
