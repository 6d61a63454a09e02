-- `reads::longest` meets its contract: the longest of all is the longest of the best so far and the rows not yet looked at.
use Rattle.std.proofs.Common.{◌∙◌, sym}
use Rattle.reads.proofs.LongestLaws.{all_start, all_turn, all_end}
use Rattle.reads.proofs.longest.Goals as goal

pub loop-i-init : goal.loop-i-init
loop-i-init c = all_start _ _ _

pub loop-i-preserved : goal.loop-i-preserved
loop-i-preserved c = all_turn _ _ _ _ c.requires _ _ _ c.loop-i.invariant c.loop-i-test.true c.longest_with-found.ensures

pub returns : goal.returns
returns c = sym (c.loop-i.invariant ∙ all_end _ _ _ _ c.requires _ c.loop-i-test.false)
