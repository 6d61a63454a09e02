-- `reads::longest_with` meets its contract: the longest of all is the longest of the best so far and the rows not yet looked at.
use Rattle.std.proofs.Common.{◌∙◌, sym}
use Rattle.reads.proofs.TableRows.{table_row}
use Rattle.reads.proofs.LongestLaws.{with_turn, with_end}
use Rattle.reads.proofs.longest_with.Goals as goal

pub longer_of-found-requires-clause-read_i : goal.longer_of-found-requires-clause-read_i
longer_of-found-requires-clause-read_i c = table_row _ _ _ c.requires.table _ c.requires.inside

pub longer_of-found-requires-clause-read_j : goal.longer_of-found-requires-clause-read_j
longer_of-found-requires-clause-read_j c = table_row _ _ _ c.requires.table _ c.loop-j-test.true

pub loop-j-preserved : goal.loop-j-preserved
loop-j-preserved c = with_turn _ _ _ _ c.requires.table _ _ _ _ c.loop-j.invariant c.loop-j-test.true c.longer_of-found.ensures

pub returns : goal.returns
returns c = sym (c.loop-j.invariant ∙ with_end _ _ _ _ c.requires.table _ _ c.loop-j-test.false)
