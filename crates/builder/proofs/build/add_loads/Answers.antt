-- `builder::build::add_loads`: the edges before e are added, the others are as they were.
use Rattle.std.proofs.Common.{arith, rules}
use Rattle.builder.proofs.FinishLawsStages.{adding_none, adding_more, adding_done}
use Rattle.builder.proofs.build.add_loads.Goals as goal

pub loop-e-init : goal.loop-e-init
loop-e-init c = adding_none _ _ _ _ (search rules) (search rules)

pub add_load-requires : goal.add_load-requires
add_load-requires c = let A = c.loop-e.invariant in let p = c.requires.by_index _ c.loop-e-test.true in (omega arith, omega (arith, A.load_kept c.loop-e.e (omega arith), p.0), omega (arith, A.full_kept c.loop-e.e (omega arith), p.1))

pub loop-e-preserved : goal.loop-e-preserved
loop-e-preserved c = adding_more _ _ _ _ _ _ _ _ _ (omega arith) c.loop-e.invariant c.add_load.ensures

pub returns : goal.returns
returns c = adding_done _ _ _ _ _ _ _ _ (omega arith) (omega arith) c.loop-e.invariant
