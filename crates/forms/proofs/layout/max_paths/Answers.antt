-- `forms::layout::max_paths` gives the limit of the version.
use Rattle.forms.proofs.LayoutLaws.{max_paths_is}
use Rattle.forms.proofs.layout.max_paths.Goals as goal

pub returns-clause-value : goal.returns-clause-value
returns-clause-value c = max_paths_is _
