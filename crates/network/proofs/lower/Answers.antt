-- `network::lower` meets its contract: both ways are constructors of what it ensures. Assumes nothing.
use Rattle.std.proofs.Common.{refl}
use Rattle.network.specs.Network.{nearer, kept}
use Rattle.network.proofs.lower.Goals as goal

pub returns-then-d-dist : goal.returns-then-d-dist
returns-then-d-dist c = nearer c.if-d-dist.true refl refl

pub returns-else-d-dist : goal.returns-else-d-dist
returns-else-d-dist c = kept c.if-d-dist.false refl refl
