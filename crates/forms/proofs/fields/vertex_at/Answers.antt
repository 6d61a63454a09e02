-- `forms::fields::vertex_at` reckons the place of the record.
use native.Mathlib.Omega.{arith}
use Rattle.forms.proofs.LayoutLaws.{vertex_product, vertex_sum}
use Rattle.forms.proofs.fields.vertex_at.Goals as goal

pub overflow_mul-result : goal.overflow_mul-result
overflow_mul-result c = omega (arith, vertex_product _ _ _ c.vertex_length.ensures.value c.requires)

pub overflow_add-result : goal.overflow_add-result
overflow_add-result c = omega (arith, vertex_sum _ c.args.v _ _ c.header_length.ensures.value c.vertex_length.ensures.value)

pub returns : goal.returns
returns c = vertex_sum _ _ _ _ c.header_length.ensures.value c.vertex_length.ensures.value
