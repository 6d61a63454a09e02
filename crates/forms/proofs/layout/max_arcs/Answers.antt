-- `forms::layout::max_arcs` gives the limit of the version.
use Rattle.forms.proofs.LayoutLaws.{max_arcs_is}
use Rattle.forms.proofs.layout.max_arcs.Goals as goal

pub returns-clause-value : goal.returns-clause-value
returns-clause-value c = max_arcs_is _
