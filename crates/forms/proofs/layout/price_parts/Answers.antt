-- `forms::layout::price_parts` gives the number of parts.
use Rattle.forms.proofs.LayoutLaws.{price_parts_is}
use Rattle.forms.proofs.layout.price_parts.Goals as goal

pub returns-clause-value : goal.returns-clause-value
returns-clause-value c = price_parts_is _
