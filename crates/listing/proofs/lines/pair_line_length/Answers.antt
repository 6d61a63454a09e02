-- `listing::lines::pair_line_length` meets its contract: the word, the digits of both numbers, the space and the newline together.
-- Assumes nothing.
use native.Mathlib.Omega.{arith}
use Rattle.listing.proofs.Lengths.{pair_line_length}
use Rattle.listing.proofs.lines.pair_line_length.Goals as goal

pub returns : goal.returns
returns c =
    record {
      value = omega (arith, pair_line_length c.args.word.now c.args.a c.args.b);
      small = omega arith;
    }
