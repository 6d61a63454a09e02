-- `listing::lines::bound_line_length` meets its contract: the word, the number's digits and the newline together.
-- Assumes nothing.
use native.Mathlib.Omega.{arith}
use Rattle.listing.proofs.Lengths.{bound_line_length}
use Rattle.listing.proofs.lines.bound_line_length.Goals as goal

pub returns : goal.returns
returns c =
    record {
      value = omega (arith, bound_line_length c.args.bound);
      small = omega arith;
    }
