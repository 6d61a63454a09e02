-- `Paths::insert` meets its contract: where the path stands already, its weight grows.
use Rattle.paths.proofs.PeelLawsTable.{grown_collected}
use Rattle.paths.proofs.collect.Paths.insert.Goals as goal

pub returns-in-Ok : goal.returns-in-Ok
returns-in-Ok c = let found = c.in-Ok.ensures in grown_collected _ c.requires.table _ _ _ found.0 found.1
