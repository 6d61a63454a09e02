-- `text::put_number` meets its contract: what the loop has stored and what is left of the number make its text.
-- Assumes nothing.
use Rattle.text.proofs.Digits.{DigitsLeft}
use Rattle.text.proofs.put_number.Given as goal

abbrev pub invariant-loop-place : goal.invariant-loop-place
invariant-loop-place l = DigitsLeft l.initial.out l.at l.end l.n l.place l.rest l.out
