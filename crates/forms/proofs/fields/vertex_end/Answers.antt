-- `forms::fields::vertex_end` gives the place behind the record.
use native.Mathlib.Omega.{arith}
use Rattle.forms.proofs.LayoutLaws.{vertex_fits, vertex_range}
use borrow.Author.Rules.{rules}
use Rattle.forms.proofs.fields.vertex_end.Goals as goal

pub vertex_at-requires : goal.vertex_at-requires
vertex_at-requires c = vertex_fits _ _ (search rules)

pub overflow_add-result : goal.overflow_add-result
overflow_add-result c = omega (arith, vertex_range _ _ _ c.vertex_at.ensures c.requires)
