-- `certify::vertex_slack_fault` tests a vertex's slacks on its marks with the limit added.
use Rattle.std.proofs.Common.{sym, ◌∙◌, arith, rules}
use Rattle.certify.proofs.CertifyLaws.{vertex_crossed, start_crossed, end_crossed, vertex_held, in_mark_stands, out_mark_stands}
use Rattle.certify.proofs.vertex_slack_fault.Goals as goal
use Rattle.certify.proofs.vertex_slack_fault.Goals.{else-is_start-via-then-is_start+else-opening_price-into, else-is_start-via-else-is_start, else-is_end-via-then-is_end+else-out-lt-MARK_LIMIT, else-is_end-via-else-is_end}

pub in_mark_plus-into-requires : goal.in_mark_plus-into-requires
in_mark_plus-into-requires c = in_mark_stands c.requires.2 (search rules)

pub out_mark_plus-out-requires : goal.out_mark_plus-out-requires
out_mark_plus-out-requires c = out_mark_stands c.requires.2 (search rules)

pub returns-then-into-out : goal.returns-then-into-out
returns-then-into-out c = vertex_crossed _ _ _ c.in_mark_plus-into.result c.out_mark_plus-out.result c.in_mark_plus-into.ensures.0 c.out_mark_plus-out.ensures.0 (search rules)

pub returns-then-opening_price-into : goal.returns-then-opening_price-into
returns-then-opening_price-into c = start_crossed _ _ _ c.in_mark_plus-into.result c.out_mark_plus-out.result c.in_mark_plus-into.ensures.0 c.out_mark_plus-out.ensures.0 (search rules) (sym c.is_start.ensures ∙ c.if-is_start.true) (search rules)

pub returns-then-out-lt-MARK_LIMIT : goal.returns-then-out-lt-MARK_LIMIT
returns-then-out-lt-MARK_LIMIT c = end_crossed _ _ _ c.in_mark_plus-into.result c.out_mark_plus-out.result c.in_mark_plus-into.ensures.0 c.out_mark_plus-out.ensures.0 (search rules) (sym c.is_end.ensures ∙ c.if-is_end.true) (search rules)

pub returns : goal.returns
returns c = vertex_held _ _ _ c.in_mark_plus-into.result c.out_mark_plus-out.result c.in_mark_plus-into.ensures.0 c.out_mark_plus-out.ensures.0 (search rules) (search rules)
    (λ f. elim c.else-is_start.branch [ else-is_start-via-then-is_start+else-opening_price-into w ↦ omega arith | else-is_start-via-else-is_start w ↦ cc (f, c.is_start.ensures, w.if-is_start.false) ])
    (λ f. elim c.else-is_end.branch [ else-is_end-via-then-is_end+else-out-lt-MARK_LIMIT w ↦ omega arith | else-is_end-via-else-is_end w ↦ cc (f, c.is_end.ensures, w.if-is_end.false) ])
