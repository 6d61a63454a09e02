-- `Paths::put` meets its contract: the rows behind move on, and the path stands in the room that they leave.
use Rattle.paths.proofs.PeelLawsTable.{put_collected}
use Rattle.paths.proofs.collect.Paths.put.Goals as goal

pub returns : goal.returns
returns c =
    let moved = c.copy_within.ensures in
    put_collected _ c.requires.table.0 _ _ c.requires.table.1 c.requires.fits c.requires.belongs _ moved.len moved.by_index.0 moved.by_index.1
