-- `reads::read_of` meets its contract: the used part of a row is its read.
use Rattle.std.proofs.Common.{refl}
use Rattle.reads.proofs.TableLaws.{row_read}
use Rattle.reads.proofs.read_of.Goals as goal

pub returns : goal.returns
returns c = let r = row_read _ _ _ c.requires _ refl in record { value = r.0; read = r.1 }
