-- `writing::put_paths` meets its contract. The loop's invariant: the records of the paths so far are put, `end` is the place behind them, and no record is longer than the longest.
use Rattle.forms.specs.AnswerForm.{first_path_at}
use Rattle.checker.specs.Encode.{path_bytes}
use Rattle.writing.specs.Writing.{Placed}
use Rattle.writing.proofs.WritingLaws.{first_paths, PathsEnd}
use Rattle.writing.proofs.put_paths.Given as goal

abbrev pub invariant-loop-path : goal.invariant-loop-path
invariant-loop-path l = PathsEnd l.s l.paths l.path-index l.end × Placed l.initial.out (first_path_at l.s) (path_bytes l.s (first_paths l.paths l.path-index)) l.out
