-- `builder::build::add_load` meets its contract: a loop drops what it carries, any other edge adds it.
use Rattle.builder.specs.Stages.{dropped, joined}
use mathlib.Core.Path.{refl}
use Rattle.builder.proofs.build.add_load.Goals as goal

pub returns-then-network-e : goal.returns-then-network-e
returns-then-network-e c = dropped c.if-network-e.true refl refl

pub returns-else-network-e : goal.returns-else-network-e
returns-else-network-e c = joined c.if-network-e.false refl refl
