-- `reach::reach_ends` meets its contract: the arcs from a on are done.
use Rattle.std.proofs.Common.{◌-◌, rules, arith}
use Rattle.reach.proofs.ReachLawsPass.{back_begins, back_over, back_on, back_ends}
use Rattle.reach.proofs.reach_ends.Goals as goal

pub loop-a-init : goal.loop-a-init
loop-a-init c = back_begins _ c.requires.0 (record { long = search rules; says = λ v l. let h = c.table_of-reaching.ensures v (search rules) in search rules }) (search rules)

pub loop-a-preserved-then-reaching-arc_head : goal.loop-a-preserved-then-reaching-arc_head
loop-a-preserved-then-reaching-arc_head c = back_on _ c.requires.0 (c.loop-a.a - 1) _ c.loop-a.invariant (omega arith) (omega arith) c.arc_head.ensures.value c.if-reaching-arc_head.true c.arc_tail.ensures.value

pub loop-a-preserved : goal.loop-a-preserved
loop-a-preserved c = back_over _ c.requires.0 (c.loop-a.a - 1) _ c.loop-a.invariant (omega arith) (omega arith) c.arc_head.ensures.value c.if-reaching-arc_head.false

pub returns : goal.returns
returns c = back_ends _ c.requires.0 c.loop-a.invariant (search rules)
