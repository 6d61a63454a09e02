-- `pivot::enter::best_entry` is safe and ends. What is left falls. Assumes nothing.
use Rattle.pivot.proofs.enter.best_entry.Given as goal

abbrev pub decreases-loop-left : goal.decreases-loop-left
decreases-loop-left l = l.left
