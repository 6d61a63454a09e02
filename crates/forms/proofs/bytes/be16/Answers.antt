-- `forms::bytes::be16` gives the number of specs/Bytes.
use Rattle.std.proofs.Common.{arith}
use Rattle.forms.specs.Bytes.{be16}
use Rattle.forms.proofs.bytes.be16.Goals as goal

pub returns-clause-value : goal.returns-clause-value
unfolding be16
returns-clause-value c = omega arith
