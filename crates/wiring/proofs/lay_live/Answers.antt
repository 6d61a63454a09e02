use Rattle.std.proofs.Common.{arith}
use Rattle.wiring.proofs.LayLawsLoad.{live_none, live_more}
use Rattle.wiring.proofs.lay_live.Goals as goal

pub loop-v-init : goal.loop-v-init
loop-v-init c = live_none c.args.live.now c.requires.live_len

pub loop-v-preserved : goal.loop-v-preserved
loop-v-preserved c = live_more c.requires.reads.1 c.loop-v.invariant (omega arith) (omega arith)
