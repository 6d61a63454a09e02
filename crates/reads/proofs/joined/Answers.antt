-- `reads::joined` meets its contract.
use Rattle.std.proofs.Common.{rules}
use Rattle.std.proofs.lemmas.Slice.{overwrites}
use Rattle.reads.proofs.joined.Goals as goal

pub returns : goal.returns
returns c = search (rules, overwrites)
