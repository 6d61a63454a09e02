-- `forms::fields::vertex_demand` reads the demand at the place of the record.
use native.Mathlib.Omega.{arith}
use Rattle.forms.proofs.LayoutLaws.{vertex_inside}
use Rattle.forms.proofs.fields.vertex_demand.Goals as goal

pub be32-requires : goal.be32-requires
be32-requires c = omega (arith, vertex_inside _ _ _ _ c.vertex_at.ensures c.requires)
