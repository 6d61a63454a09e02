-- `text::number_length` meets its contract: the power of ten tells the digits.
-- Assumes nothing.
use Rattle.text.proofs.Counting.{decimal_counted}
use Rattle.text.proofs.number_length.Goals as goal

pub returns-clause-value : goal.returns-clause-value
returns-clause-value c = decimal_counted _ c.max.ensures c.ilog10.ensures.bound c.ilog10.ensures.power_le c.ilog10.ensures.next_power_gt
