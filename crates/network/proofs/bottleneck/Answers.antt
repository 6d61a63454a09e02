-- `network::bottleneck` meets its contract: each step back towards the source leaves room. Assumes nothing.
use Rattle.network.proofs.NetworkLawsPush.{bottleneck_last, bottleneck_along, bottleneck_against}
use Rattle.network.proofs.bottleneck.Goals as goal

pub loop-v-preserved-then-search-v-eq0 : goal.loop-v-preserved-then-search-v-eq0
loop-v-preserved-then-search-v-eq0 c = bottleneck_along _ _ _ _ _ _ _ _ _ _ _ _ c.requires.laid _ _ c.loop-v.invariant c.loop-v-test.true c.if-search-v-eq0.true

pub loop-v-preserved : goal.loop-v-preserved
loop-v-preserved c = bottleneck_against _ _ _ _ _ _ _ _ _ _ _ _ c.requires.laid _ _ c.loop-v.invariant c.loop-v-test.true c.if-search-v-eq0.false _ c.min-most.ensures

pub returns : goal.returns
returns c = bottleneck_last _ _ _ _ _ _ _ _ _ _ _ _ c.requires.laid _ _ c.loop-v.invariant c.loop-v-test.false
