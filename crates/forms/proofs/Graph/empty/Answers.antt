-- `forms::Graph::empty`: the numbers are those of specs/.
use Rattle.forms.proofs.LayoutLaws.{longest_graph_is}
use Rattle.forms.proofs.Graph.empty.Goals as goal

pub returns-clause-longest : goal.returns-clause-longest
returns-clause-longest c = λ s. longest_graph_is s
