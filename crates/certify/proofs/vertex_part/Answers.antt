-- `certify::vertex_part` gives a vertex's part of the bound: its slack is the difference of its marks with the limit added.
use Rattle.std.proofs.Common.{arith, rules}
use Rattle.certify.proofs.CertifyLaws.{in_mark_stands, out_mark_stands}
use Rattle.certify.proofs.CertifyLawsBound.{vertex_ordered, vertex_part_lem}
use Rattle.certify.proofs.vertex_part.Goals as goal

pub in_mark_plus-into-requires : goal.in_mark_plus-into-requires
in_mark_plus-into-requires c = in_mark_stands c.requires.reads.1 (search rules)

pub out_mark_plus-out-requires : goal.out_mark_plus-out-requires
out_mark_plus-out-requires c = out_mark_stands c.requires.reads.1 (search rules)

pub overflow_sub-result : goal.overflow_sub-result
overflow_sub-result c = vertex_ordered _ _ _ c.in_mark_plus-into.result c.out_mark_plus-out.result c.in_mark_plus-into.ensures.0 c.out_mark_plus-out.ensures.0 (c.requires.none_below.0.vertices c.args.v (search rules))

pub returns : goal.returns
returns c =
    let low = (c.requires.reads.0.vertices c.args.v c.requires.reads.2).low_demand in
    vertex_part_lem _ _ _ c.in_mark_plus-into.result c.out_mark_plus-out.result c.in_mark_plus-into.ensures.0 c.out_mark_plus-out.ensures.0 (c.requires.none_below.0.vertices c.args.v (search rules)) _ _ (omega arith) (omega arith) (search rules)
