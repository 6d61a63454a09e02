-- `answer::main` is safe: the bytes that are to be written are within what was lent.
-- Assumes nothing.
use Rattle.text.proofs.Writing.{written_fits, written_long}
use Rattle.answer.proofs.main.Goals as goal

pub slice_bounds-out-end : goal.slice_bounds-out-end
slice_bounds-out-end c = written_fits c.answer-written.ensures.writes_form

pub slice_bounds-write_all-end : goal.slice_bounds-write_all-end
slice_bounds-write_all-end c = written_long c.answer-written.ensures.writes_form

pub slice_bounds-err-end : goal.slice_bounds-err-end
slice_bounds-err-end c = written_fits c.answer-written.ensures.writes_line

pub slice_bounds-write_all-end-2 : goal.slice_bounds-write_all-end-2
slice_bounds-write_all-end-2 c = written_long c.answer-written.ensures.writes_line
