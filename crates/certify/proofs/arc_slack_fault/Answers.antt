-- `certify::arc_slack_fault` tests an arc's slack on two marks with the limit added.
use Rattle.std.proofs.Common.{rules}
use Rattle.certify.proofs.CertifyLaws.{arc_read, tail_below, head_below, arc_crossed, arc_held, in_mark_stands, out_mark_stands}
use Rattle.certify.proofs.arc_slack_fault.Goals as goal

pub out_mark_plus-out-requires : goal.out_mark_plus-out-requires
out_mark_plus-out-requires c = out_mark_stands c.requires.1 (tail_below c.requires.0 (search rules) c.arc_tail.ensures.value)

pub in_mark_plus-into-requires : goal.in_mark_plus-into-requires
in_mark_plus-into-requires c = in_mark_stands c.requires.1 (head_below c.requires.0 (search rules) c.arc_head.ensures.value)

pub returns-then-arc_cost-out : goal.returns-then-arc_cost-out
returns-then-arc_cost-out c = arc_crossed _ _ _ _ _ _ c.in_mark_plus-into.result c.out_mark_plus-out.result (arc_read c.arc_tail.ensures.value c.arc_head.ensures.value c.arc_cost.ensures.value) c.in_mark_plus-into.ensures.0 c.out_mark_plus-out.ensures.0 (search rules)

pub returns : goal.returns
returns c = arc_held _ _ _ _ _ _ c.in_mark_plus-into.result c.out_mark_plus-out.result (arc_read c.arc_tail.ensures.value c.arc_head.ensures.value c.arc_cost.ensures.value) c.in_mark_plus-into.ensures.0 c.out_mark_plus-out.ensures.0 (search rules)
