-- `forms::fields::vertex_flags` reads the flag byte at the place of the record.
use native.Mathlib.Omega.{arith}
use Rattle.forms.proofs.LayoutLaws.{vertex_inside}
use Rattle.forms.proofs.fields.vertex_flags.Goals as goal

pub bounds-s-vertex_at : goal.bounds-s-vertex_at
bounds-s-vertex_at c = omega (arith, vertex_inside _ _ _ _ c.vertex_at.ensures c.requires)
