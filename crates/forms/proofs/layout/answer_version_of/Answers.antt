-- `forms::layout::answer_version_of` gives the version of an answer.
use Rattle.forms.proofs.LayoutLaws.{answer_version_is}
use Rattle.forms.proofs.layout.answer_version_of.Goals as goal

pub returns-clause-value : goal.returns-clause-value
returns-clause-value c = answer_version_is _
