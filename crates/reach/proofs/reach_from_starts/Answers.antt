-- `reach::reach_from_starts` meets its contract: the arcs below a are done.
use Rattle.std.proofs.Common.{rules}
use Rattle.reach.proofs.ReachLawsPass.{ahead_begins, ahead_over, ahead_on, ahead_ends}
use Rattle.reach.proofs.reach_from_starts.Goals as goal
use Rattle.reach.proofs.reach_from_starts.Goals.{then-reached-arc_tail, else-reached-arc_tail}

pub loop-a-init : goal.loop-a-init
loop-a-init c = ahead_begins _ c.requires.0 (record { long = search rules; says = λ v l. let h = c.table_of-reached.ensures v (search rules) in search rules })

pub loop-a-preserved : goal.loop-a-preserved
loop-a-preserved c =
    elim c.if-reached-arc_tail.branch [
      | then-reached-arc_tail w ↦ rw w.reached-is (ahead_on _ c.requires.0 c.loop-a.a _ c.loop-a.invariant (search rules) c.arc_tail.ensures.value w.if-reached-arc_tail.true w.arc_head.ensures.value)
      | else-reached-arc_tail w ↦ rw w.reached-is (ahead_over _ c.requires.0 c.loop-a.a _ c.loop-a.invariant (search rules) c.arc_tail.ensures.value w.if-reached-arc_tail.false)
    ]

pub returns : goal.returns
returns c = ahead_ends _ c.requires.0 c.loop-a.invariant (search rules)
