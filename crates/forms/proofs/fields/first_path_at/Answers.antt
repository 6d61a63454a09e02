-- `forms::fields::first_path_at` gives the place behind the last mark.
use Rattle.forms.proofs.LayoutLaws.{mark_fits, mark_range}
use borrow.Author.Rules.{rules}
use Rattle.forms.proofs.fields.first_path_at.Goals as goal

pub in_mark_at-requires : goal.in_mark_at-requires
in_mark_at-requires c = mark_fits _ _ (search rules)

pub returns-clause-small : goal.returns-clause-small
returns-clause-small c = mark_range _ _ _ c.in_mark_at.ensures (search rules)
