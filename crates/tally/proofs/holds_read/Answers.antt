-- `tally::holds_read` looks for the read where its first vertex stands on the path.
use Rattle.std.proofs.Common.{rules, sym}
use Rattle.tally.proofs.ReadsMetLaws.{held, holds_nowhere}
use Rattle.tally.proofs.holds_read.Goals as goal

pub returns-in-Some : goal.returns-in-Some
returns-in-Some c = held c.args.path.now c.args.read.now c.in-Some.p _ c.requires.0 c.requires.1 c.in-Some.ensures (search rules)

pub returns-in-None : goal.returns-in-None
returns-in-None c = sym (holds_nowhere c.args.path.now c.args.read.now c.requires.1 c.in-None.ensures)
