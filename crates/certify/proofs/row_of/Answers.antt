-- `certify::row_of` fills a row with the bytes of a read.
use Rattle.std.proofs.Common.{replicate}
use Rattle.reads.specs.ReadTable.{row_length}
use Rattle.certify.proofs.CertifyLawsTable.{row_filled}
use Rattle.certify.proofs.row_of.Goals as goal

pub returns : goal.returns
returns c = row_filled _ _ _ (replicate row_length 0) c.copy_from_slice.new.self c.requires.0 c.requires.1 c.copy_from_slice.ensures.after
