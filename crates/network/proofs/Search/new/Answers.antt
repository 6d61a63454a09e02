-- `network::Search::new` meets its contract: the arrays are as they are made. Assumes nothing.
use Rattle.network.proofs.NetworkLawsCarry.{fresh}
use Rattle.network.proofs.Search.new.Goals as goal

pub returns : goal.returns
returns c = fresh _ c.requires
