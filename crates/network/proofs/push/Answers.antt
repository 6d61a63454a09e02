-- `network::push` meets its contract: the amount is moved over one edge in a turn. Assumes nothing.
use Rattle.std.proofs.Common.{arith}
use Rattle.network.proofs.NetworkLawsPush.{push_fits, push_falls, push_along, push_fits_back, push_falls_back, push_against}
use Rattle.network.proofs.push.Goals as goal

pub overflow_add-flow : goal.overflow_add-flow
overflow_add-flow c = omega (arith, push_fits _ _ _ _ _ _ _ _ _ _ _ _ _ _ c.requires.laid.few_edges c.requires.laid.from_node c.requires.laid.to_node c.loop-v.invariant.0 c.loop-v-test.true c.if-search-v-eq0.true)

pub loop-v-smaller-then-search-v-eq0 : goal.loop-v-smaller-then-search-v-eq0
loop-v-smaller-then-search-v-eq0 c = push_falls _ _ _ _ _ _ _ _ _ _ _ _ _ _ c.requires.laid.few_edges c.requires.laid.from_node c.requires.laid.to_node c.loop-v.invariant.0 c.loop-v-test.true c.if-search-v-eq0.true

pub loop-v-preserved-then-search-v-eq0 : goal.loop-v-preserved-then-search-v-eq0
loop-v-preserved-then-search-v-eq0 c = (push_along _ _ _ _ _ _ _ _ _ _ _ _ _ _ c.requires.laid.few_edges c.requires.laid.from_node c.requires.laid.to_node c.loop-v.invariant.0 c.loop-v-test.true c.if-search-v-eq0.true, c.loop-v.invariant.1)

pub overflow_sub-flow : goal.overflow_sub-flow
overflow_sub-flow c = omega (arith, push_fits_back _ _ _ _ _ _ _ _ _ _ _ _ _ _ c.requires.laid.few_edges c.requires.laid.from_node c.requires.laid.to_node c.loop-v.invariant.0 c.loop-v-test.true c.if-search-v-eq0.false)

pub loop-v-smaller : goal.loop-v-smaller
loop-v-smaller c = push_falls_back _ _ _ _ _ _ _ _ _ _ _ _ _ _ c.requires.laid.few_edges c.requires.laid.from_node c.requires.laid.to_node c.loop-v.invariant.0 c.loop-v-test.true c.if-search-v-eq0.false

pub loop-v-preserved : goal.loop-v-preserved
loop-v-preserved c = (push_against _ _ _ _ _ _ _ _ _ _ _ _ _ _ c.requires.laid.few_edges c.requires.laid.from_node c.requires.laid.to_node c.loop-v.invariant.0 c.loop-v-test.true c.if-search-v-eq0.false, c.loop-v.invariant.1)
