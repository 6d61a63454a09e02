-- `coverage::Coverage::new` meets its contract: both counts are floats as they are, and the coverage is one division. Assumes nothing.
use lib.Ieee.{div}
use Rattle.std.proofs.Common.{refl}
use Rattle.coverage.specs.Depth.{coverage_of}
use Rattle.coverage.proofs.Coverage.new.Goals as goal

pub returns-clause-value : goal.returns-clause-value
unfolding div coverage_of
returns-clause-value c = refl
