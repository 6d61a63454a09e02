-- `forms::layout::max_path_length` gives the limit of the version.
use Rattle.forms.proofs.LayoutLaws.{max_path_length_is}
use Rattle.forms.proofs.layout.max_path_length.Goals as goal

pub returns-clause-value : goal.returns-clause-value
returns-clause-value c = max_path_length_is _
