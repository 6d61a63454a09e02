-- `builder::build::add_loads`: the edges before e are added, the others are as they were.
use Rattle.builder.specs.Stages.{Adding}
use Rattle.builder.proofs.build.add_loads.Given as goal

abbrev pub invariant-loop-e : goal.invariant-loop-e
invariant-loop-e l = Adding l.e l.network.from l.network.to l.initial.load l.initial.full l.load l.full
