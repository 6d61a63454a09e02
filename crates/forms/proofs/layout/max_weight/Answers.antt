-- `forms::layout::max_weight` gives the limit of the version.
use Rattle.forms.proofs.LayoutLaws.{max_weight_is}
use Rattle.forms.proofs.layout.max_weight.Goals as goal

pub returns-clause-value : goal.returns-clause-value
returns-clause-value c = max_weight_is _
