-- `forms::layout::max_vertices` gives the limit of the version.
use Rattle.forms.proofs.LayoutLaws.{max_vertices_is}
use Rattle.forms.proofs.layout.max_vertices.Goals as goal

pub returns-clause-value : goal.returns-clause-value
returns-clause-value c = max_vertices_is _
