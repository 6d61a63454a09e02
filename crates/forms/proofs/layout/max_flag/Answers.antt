-- `forms::layout::max_flag` gives the limit of the version.
use Rattle.forms.proofs.LayoutLaws.{max_flag_is}
use Rattle.forms.proofs.layout.max_flag.Goals as goal

pub returns : goal.returns
returns c = max_flag_is _
