-- `coverage::demand_of` meets its contract: the coverage lies from the whole-number quotient up to below the next whole number, so its whole part
-- is that quotient. Assumes nothing.
use Rattle.std.proofs.Common.{◌∙◌, arith}
use Rattle.coverage.proofs.WholePart.{depth_cut, depth_in_range, demand_fits}
use Rattle.coverage.proofs.demand_of.Goals as goal

pub truncating_f64_to_u64-requires : goal.truncating_f64_to_u64-requires
truncating_f64_to_u64-requires c =
    record {
      lower_bound = (depth_in_range _ c.requires).0;
      upper_bound = (depth_in_range _ c.requires).1;
    }

pub overflow_cast-result : goal.overflow_cast-result
overflow_cast-result c = omega (arith, demand_fits _ c.requires _ c.truncating_f64_to_u64.ensures)

pub returns : goal.returns
returns c = c.truncating_f64_to_u64.ensures ∙ depth_cut _ c.requires
