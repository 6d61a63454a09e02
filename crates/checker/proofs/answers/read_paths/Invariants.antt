-- `checker::answers::read_paths` reads one record after another: what is tallied and what the records left add is what all give.
use Rattle.std.proofs.Common.{◌-◌}
use Rattle.checker.proofs.AnswerPaths.{PathsLeft}
use Rattle.checker.proofs.answers.read_paths.Given as goal

abbrev pub invariant-loop : goal.invariant-loop
invariant-loop l = PathsLeft l.s l.t l.tallies.vertex_totals l.tallies.arc_totals l.tallies.met l.before l.tallies.copies l.tallies.price (l.paths - l.counter) l.at
