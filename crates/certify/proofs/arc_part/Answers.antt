-- `certify::arc_part` gives an arc's part of the bound: its slack is a difference of two marks with the limit added.
use Rattle.std.proofs.Common.{arith, rules}
use Rattle.certify.proofs.CertifyLaws.{arc_read, tail_below, head_below, in_mark_stands, out_mark_stands}
use Rattle.certify.proofs.CertifyLawsBound.{arc_ordered, arc_part_lem}
use Rattle.certify.proofs.arc_part.Goals as goal

pub out_mark_plus-out-requires : goal.out_mark_plus-out-requires
out_mark_plus-out-requires c = out_mark_stands c.requires.reads.1 (tail_below c.requires.reads.0 (search rules) c.arc_tail.ensures.value)

pub in_mark_plus-into-requires : goal.in_mark_plus-into-requires
in_mark_plus-into-requires c = in_mark_stands c.requires.reads.1 (head_below c.requires.reads.0 (search rules) c.arc_head.ensures.value)

pub overflow_sub-result : goal.overflow_sub-result
overflow_sub-result c =
    let p = c.requires in
    let read = arc_read c.arc_tail.ensures.value c.arc_head.ensures.value c.arc_cost.ensures.value in
    arc_ordered _ _ _ _ _ _ c.in_mark_plus-into.result c.out_mark_plus-out.result read c.in_mark_plus-into.ensures.0 c.out_mark_plus-out.ensures.0 (p.none_below.0.arcs c.args.a p.reads.3)

pub returns : goal.returns
returns c =
    let p = c.requires in
    let right = p.reads.0.arcs.each c.args.a p.reads.3 in
    let read = arc_read c.arc_tail.ensures.value c.arc_head.ensures.value c.arc_cost.ensures.value in
    let demand = c.arc_demand.ensures.value in
    arc_part_lem _ _ _ _ _ _ c.in_mark_plus-into.result c.out_mark_plus-out.result read c.in_mark_plus-into.ensures.0 c.out_mark_plus-out.ensures.0 (p.none_below.0.arcs c.args.a p.reads.3) _ _ (omega arith) (omega arith) (omega (arith, read.costs)) c.out_mark_plus-out.ensures.1
