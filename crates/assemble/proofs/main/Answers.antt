-- `assemble::main` is safe: the bytes that are to be written are within what was lent.
-- Assumes nothing.
use Rattle.text.proofs.Writing.{written_fits, written_long}
use Rattle.assemble.proofs.main.Goals as goal

pub slice_bounds-text-end : goal.slice_bounds-text-end
slice_bounds-text-end c = written_fits c.assemble-written.ensures.writes

pub slice_bounds-write_all-end : goal.slice_bounds-write_all-end
slice_bounds-write_all-end c = written_long c.assemble-written.ensures.writes
