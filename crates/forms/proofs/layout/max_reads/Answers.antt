-- `forms::layout::max_reads` gives the limit of the version.
use Rattle.forms.proofs.LayoutLaws.{max_reads_is}
use Rattle.forms.proofs.layout.max_reads.Goals as goal

pub returns-clause-value : goal.returns-clause-value
returns-clause-value c = max_reads_is _
