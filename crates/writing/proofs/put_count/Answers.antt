-- `writing::put_count` meets its contract.
use Rattle.std.proofs.Common.{arith}
use Rattle.forms.proofs.LayoutLaws.{count_inside}
use Rattle.writing.proofs.WritingLaws.{count_placed, path_in_row_lem}
use Rattle.writing.proofs.put_count.Goals as goal

pub overflow_cast-out : goal.overflow_cast-out
overflow_cast-out c = omega (arith, path_in_row_lem c.args.s.now)

pub bounds-out-place : goal.bounds-out-place
bounds-out-place c = count_inside c.args.s.now _ _ c.requires.0

pub returns : goal.returns
returns c = count_placed _ _ _ _ c.requires.0
