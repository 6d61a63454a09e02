-- `reads::move_up` meets its contract: the rows kept so far, and what dropping leaves of the rest, are what dropping leaves of all.
use Rattle.reads.proofs.DropLaws.{Moved}
use Rattle.reads.proofs.move_up.Given as goal

abbrev pub invariant-loop-i : goal.invariant-loop-i
invariant-loop-i l = Moved l.initial.rows l.initial.lens l.count l.rows l.lens l.i l.kept
