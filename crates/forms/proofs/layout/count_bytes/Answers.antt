-- `forms::layout::count_bytes` gives the width of a count.
use Rattle.forms.proofs.LayoutLaws.{count_bytes_is}
use Rattle.forms.proofs.layout.count_bytes.Goals as goal

pub returns-clause-value : goal.returns-clause-value
returns-clause-value c = count_bytes_is _
