-- `forms::marks::mark_plus` gives the mark with the limit added.
use Rattle.forms.proofs.MarkLaws.{mark_right, mark_of_low, mark_of_high}
use borrow.Author.Rules.{rules}
use Rattle.forms.proofs.marks.mark_plus.Goals as goal

pub returns-then-x-le-MARK_LIMIT : goal.returns-then-x-le-MARK_LIMIT
returns-then-x-le-MARK_LIMIT c = (mark_of_low _ _ _ c.mark_bits-x.ensures.value (search rules), search rules)

pub overflow_sub-result-2 : goal.overflow_sub-result-2
overflow_sub-result-2 c = mark_right _ _ _ c.mark_bits-x.ensures.value (search rules) (search rules)

pub returns : goal.returns
returns c = (mark_of_high _ _ _ c.mark_bits-x.ensures.value (mark_right _ _ _ c.mark_bits-x.ensures.value (search rules) (search rules)) (search rules), search rules)
