-- `reads::marks` meets its contract: each row passed has its mark.
use Rattle.std.proofs.Common.{rules}
use Rattle.reads.proofs.TableRows.{fill_turn}
use Rattle.reads.proofs.marks.Goals as goal

pub loop-i-preserved : goal.loop-i-preserved
loop-i-preserved c =
    record {
      long = search rules;
      marked = fill_turn _ c.loop-i.marks c.loop-i.i _ (search rules) c.loop-i.invariant.marked c.is_gone.ensures;
    }
