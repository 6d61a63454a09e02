-- `reads::close_gap` meets its contract: the rows behind the gap, and their lengths, are copied to where it was.
use Rattle.reads.proofs.JoinLaws.{gap_closed}
use Rattle.reads.proofs.close_gap.Goals as goal

pub returns-clause-left : goal.returns-clause-left
returns-clause-left c =
    gap_closed _ _ _ _ c.requires.table c.requires.inside _ _ c.copy_within.ensures.after c.copy_within-2.ensures.after
    c.copy_within-2.ensures.by_index.0 c.copy_within-2.ensures.by_index.1
