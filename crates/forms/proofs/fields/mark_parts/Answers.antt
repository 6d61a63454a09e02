-- `forms::fields::mark_parts` gives the number of specs/AnswerForm.
use Rattle.forms.proofs.LayoutLaws.{marks_product}
use Rattle.forms.proofs.fields.mark_parts.Goals as goal

pub returns-clause-value : goal.returns-clause-value
returns-clause-value c = marks_product _ _ _ c.price_parts.ensures.value c.vertex_count.ensures.value
