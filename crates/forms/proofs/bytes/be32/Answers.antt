-- `forms::bytes::be32` gives the number of specs/Bytes.
use Rattle.std.proofs.Common.{arith}
use Rattle.forms.specs.Bytes.{be32}
use Rattle.forms.proofs.bytes.be32.Goals as goal

pub returns-clause-value : goal.returns-clause-value
unfolding be32
returns-clause-value c = omega arith
