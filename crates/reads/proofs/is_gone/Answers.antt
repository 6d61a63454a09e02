-- `reads::is_gone` meets its contract: a read is dropped for a lower row, or for a longer read in a higher one.
use Rattle.std.proofs.Common.{◌∙◌, refl, sym, rules}
use Rattle.reads.proofs.TableRows.{table_fewer, gone_where, or_found, or_rest}
use Rattle.reads.proofs.is_gone.Goals as goal

pub in_earlier-requires : goal.in_earlier-requires
in_earlier-requires c = table_fewer _ _ _ _ c.requires.table (search rules)

pub returns-then-in_earlier : goal.returns-then-in_earlier
returns-then-in_earlier c = c.if-in_earlier.true ∙ or_found _ _ _ _ refl (gone_where _ _ _ _) (sym c.in_earlier.ensures ∙ c.if-in_earlier.true)

pub returns-else-in_earlier : goal.returns-else-in_earlier
returns-else-in_earlier c = c.in_later.ensures ∙ sym (or_rest _ _ _ _ refl (gone_where _ _ _ _) (sym c.in_earlier.ensures ∙ c.if-in_earlier.false))
