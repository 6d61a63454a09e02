-- `coverage::exons_verdict` meets its contract: the answer of all exons is that of those not yet passed. Assumes nothing.
use Rattle.std.proofs.Common.{◌≡◌, ◌-◌, length}
use Rattle.forms.specs.GraphFaults.{first_fault}
use Rattle.coverage.specs.Demands.{fault_of}
use Rattle.coverage.proofs.exons_verdict.Given as goal

abbrev pub invariant-loop-exon : goal.invariant-loop-exon
invariant-loop-exon l = first_fault (fault_of l.bases l.lengths) (λ k. k) (length l.bases) 0 ≡ first_fault (fault_of l.bases l.lengths) (λ k. k) (length l.bases - l.exon) l.exon
