-- `network::stands::tally` meets its contract: no sum is too large, and one edge more is counted in a turn. Assumes nothing.
use Rattle.std.proofs.Common.{arith}
use Rattle.network.proofs.NetworkLawsStand.{tally_into_fits, tally_out_fits, tally_more}
use Rattle.network.proofs.stands.tally.Goals as goal

pub overflow_add-into : goal.overflow_add-into
overflow_add-into c = omega (arith, tally_into_fits c.requires.summable c.loop-e.invariant c.loop-e-test.true)

pub overflow_add-out : goal.overflow_add-out
overflow_add-out c = omega (arith, tally_out_fits c.requires.summable c.loop-e.invariant c.loop-e-test.true)

pub loop-e-preserved : goal.loop-e-preserved
loop-e-preserved c = tally_more c.requires.summable c.loop-e.invariant c.loop-e-test.true
