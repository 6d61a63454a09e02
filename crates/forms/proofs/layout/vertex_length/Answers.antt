-- `forms::layout::vertex_length` gives the length of the record.
use Rattle.forms.proofs.LayoutLaws.{vertex_length_is}
use Rattle.forms.proofs.layout.vertex_length.Goals as goal

pub returns-clause-value : goal.returns-clause-value
returns-clause-value c = vertex_length_is _
