-- `forms::layout::count_at` gives the count of specs/Layout.
use mathlib.Core.Path.{◌∙◌}
use Rattle.forms.proofs.LayoutLaws.{count_inside, count_at_is}
use Rattle.forms.proofs.layout.count_at.Goals as goal

pub bounds-t-at : goal.bounds-t-at
bounds-t-at c = count_inside _ _ _ c.requires

pub returns-clause-value : goal.returns-clause-value
returns-clause-value c = c.from.ensures ∙ count_at_is _ _ _
