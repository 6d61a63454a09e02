-- `reads::in_earlier` meets its contract: the answer over all lower rows is the answer over those not yet looked at.
use Rattle.std.proofs.Common.{◌∙◌, sym, rules}
use Rattle.reads.proofs.TableRows.{table_row, earlier_here, earlier_end, or_found, or_rest}
use Rattle.reads.proofs.in_earlier.Goals as goal

pub read_of-read-requires : goal.read_of-read-requires
read_of-read-requires c = table_row _ _ _ c.requires _ (search rules)

pub read_of-requires : goal.read_of-requires
read_of-requires c = table_row _ _ _ c.requires _ (search rules)

pub returns-then-is_part : goal.returns-then-is_part
returns-then-is_part c =
    or_found _ _ _ _ c.loop-j.invariant
    (earlier_here _ _ _ _ c.requires c.loop-j-test.true _ _ c.read_of.ensures.value c.read_of-read.ensures.value _ c.is_part.ensures) c.if-is_part.true

pub loop-j-preserved : goal.loop-j-preserved
loop-j-preserved c =
    or_rest _ _ _ _ c.loop-j.invariant
    (earlier_here _ _ _ _ c.requires c.loop-j-test.true _ _ c.read_of.ensures.value c.read_of-read.ensures.value _ c.is_part.ensures) c.if-is_part.false

pub returns : goal.returns
returns c = earlier_end _ _ _ _ c.requires c.loop-j-test.false ∙ sym c.loop-j.invariant
