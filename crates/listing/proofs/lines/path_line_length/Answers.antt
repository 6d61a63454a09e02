-- `listing::lines::path_line_length` meets its contract: the weight's digits, the vertices and the newline together.
-- Assumes nothing.
use native.Mathlib.Omega.{arith}
use Rattle.listing.proofs.Lengths.{path_line_length}
use Rattle.listing.proofs.lines.path_line_length.Goals as goal

pub returns : goal.returns
returns c = omega (arith, path_line_length c.args.weight c.args.vertices.now)
