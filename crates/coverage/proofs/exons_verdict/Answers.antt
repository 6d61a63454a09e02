-- `coverage::exons_verdict` meets its contract: the answer of all exons is that of those not yet passed. Assumes nothing.
use Rattle.std.proofs.Common.{refl, rules}
use Rattle.forms.proofs.Scan.{scan_turns, scan_ends}
use Rattle.forms.proofs.ThenLaws.{refused_at}
use Rattle.coverage.proofs.DemandLaws.{fault_of_lem}
use Rattle.coverage.proofs.exons_verdict.Goals as goal

pub returns-in-Err : goal.returns-in-Err
returns-in-Err c = refused_at _ _ _ c.loop-exon.exon c.new.ensures c.loop-exon.invariant (search rules) (fault_of_lem _ _ _ _ c.in-Err.ensures) refl

pub loop-exon-preserved : goal.loop-exon-preserved
loop-exon-preserved c = scan_turns _ _ _ _ 0 c.loop-exon.invariant (search rules) (fault_of_lem _ _ _ _ c.in_default.ensures) refl

pub returns : goal.returns
returns c = scan_ends _ _ _ c.loop-exon.exon c.loop-exon.invariant (search rules)
