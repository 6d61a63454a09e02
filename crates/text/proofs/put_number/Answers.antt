-- `text::put_number` meets its contract: what the loop has stored and what is left of the number make its text.
-- Assumes nothing.
use Rattle.std.proofs.Common.{arith}
use Rattle.text.proofs.Digits.{digits_start, digits_next, digits_end}
use Rattle.text.proofs.put_number.Goals as goal

pub loop-place-init : goal.loop-place-init
loop-place-init c = digits_start c.number_length.ensures.value

pub loop-place-preserved : goal.loop-place-preserved
loop-place-preserved c = digits_next c.loop-place-test.true (omega arith) c.loop-place.invariant

pub returns : goal.returns
returns c = digits_end c.loop-place-test.false c.requires c.number_length.ensures.value c.loop-place.invariant
