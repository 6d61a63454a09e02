-- `coverage::exon_fault` meets its contract: a law for each of its ends. Assumes nothing.
use Rattle.std.proofs.Common.{arith, rules}
use Rattle.coverage.proofs.WholePart.{recorded}
use Rattle.coverage.proofs.DemandLaws.{length_out, quotient_high, counts_right, demand_counts}
use Rattle.coverage.proofs.exon_fault.Goals as goal

pub returns-then-length-lt-MIN_LENGTH : goal.returns-then-length-lt-MIN_LENGTH
returns-then-length-lt-MIN_LENGTH c = length_out _ _ c.then-length-lt-MIN_LENGTH.either

pub demand_of-requires : goal.demand_of-requires
demand_of-requires c = recorded _ _ _ c.new.ensures.value (search rules) (search rules) (search rules)

pub returns-then-demand_of-gt-MAX_DEMAND : goal.returns-then-demand_of-gt-MAX_DEMAND
returns-then-demand_of-gt-MAX_DEMAND c = quotient_high _ _ (search rules) (search rules) (omega (arith, demand_counts _ _ _ _ c.new.ensures.value c.demand_of.ensures))

pub returns : goal.returns
returns c = counts_right _ _ (search rules) (search rules) (omega (arith, demand_counts _ _ _ _ c.new.ensures.value c.demand_of.ensures))
