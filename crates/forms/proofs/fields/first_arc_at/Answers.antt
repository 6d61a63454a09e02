-- `forms::fields::first_arc_at` gives the place behind the last vertex.
use Rattle.forms.proofs.LayoutLaws.{vertex_fits, vertex_range}
use borrow.Author.Rules.{rules}
use Rattle.forms.proofs.fields.first_arc_at.Goals as goal

pub vertex_at-requires : goal.vertex_at-requires
vertex_at-requires c = vertex_fits _ _ (search rules)

pub returns-clause-small : goal.returns-clause-small
returns-clause-small c = vertex_range _ _ _ c.vertex_at.ensures (search rules)
