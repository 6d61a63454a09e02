-- `forms::fields::stated_price` reads the price at its place.
use Rattle.std.proofs.Common.{arith}
use Rattle.forms.proofs.LayoutLaws.{price_inside}
use Rattle.forms.proofs.fields.stated_price.Goals as goal

pub be64-requires : goal.be64-requires
be64-requires c = omega (arith, price_inside _ _ c.requires)
