-- `forms::layout::longest_answer` gives the length of the longest answer.
use Rattle.forms.proofs.LayoutLaws.{longest_answer_is}
use Rattle.forms.proofs.layout.longest_answer.Goals as goal

pub returns-clause-value : goal.returns-clause-value
returns-clause-value c = longest_answer_is _
