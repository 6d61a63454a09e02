-- `forms::fields::in_mark_at` reckons the place of a mark.
use native.Mathlib.Omega.{arith}
use Rattle.forms.proofs.LayoutLaws.{mark_product, mark_sum}
use Rattle.forms.proofs.fields.in_mark_at.Goals as goal

pub overflow_mul-result-2 : goal.overflow_mul-result-2
overflow_mul-result-2 c = omega (arith, mark_product _ _ _ c.mark_length.ensures.value c.requires)

pub overflow_add-result : goal.overflow_add-result
overflow_add-result c = omega (arith, mark_sum _ c.args.v _ _ c.price_parts.ensures.value c.mark_length.ensures.value)

pub returns : goal.returns
returns c = mark_sum _ _ _ _ c.price_parts.ensures.value c.mark_length.ensures.value
