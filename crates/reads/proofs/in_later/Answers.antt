-- `reads::in_later` meets its contract: the answer over all higher rows is the answer over those not yet looked at.
use Rattle.std.proofs.Common.{◌∙◌, sym, rules}
use Rattle.reads.proofs.TableRows.{table_row, later_here, later_end, or_found, or_rest}
use Rattle.reads.proofs.in_later.Goals as goal

pub read_of-read-requires : goal.read_of-read-requires
read_of-read-requires c = table_row _ _ _ c.requires.table _ (search rules)

pub read_of-requires : goal.read_of-requires
read_of-requires c = table_row _ _ _ c.requires.table _ (search rules)

pub returns-then-is_longer : goal.returns-then-is_longer
returns-then-is_longer c =
    or_found _ _ _ _ c.loop-j.invariant
    (later_here _ _ _ _ _ c.requires.table c.loop-j-test.true _ _ c.read_of.ensures.value c.read_of-read.ensures.value _ c.is_longer.ensures) c.if-is_longer.true

pub loop-j-preserved : goal.loop-j-preserved
loop-j-preserved c =
    or_rest _ _ _ _ c.loop-j.invariant
    (later_here _ _ _ _ _ c.requires.table c.loop-j-test.true _ _ c.read_of.ensures.value c.read_of-read.ensures.value _ c.is_longer.ensures) c.if-is_longer.false

pub returns : goal.returns
returns c = later_end _ _ _ _ _ c.requires.table c.loop-j-test.false ∙ sym c.loop-j.invariant
