-- `checker::reader::reads_verdict` meets its contract: the answer of all reads is that of those not yet passed.
use Rattle.std.proofs.Common.{refl, sym, arith, rules}
use Rattle.forms.proofs.RightLaws.{read_holds}
use Rattle.forms.proofs.ThenLaws.{number_positive}
use Rattle.checker.proofs.ReadLaws.{reads_begin, reads_turn, reads_stop, reads_left, reads_end}
use Rattle.checker.proofs.reader.reads_verdict.Goals as goal

pub loop-init : goal.loop-init
loop-init c = (search rules, reads_begin _ _ _)

pub read_fault-requires : goal.read_fault-requires
read_fault-requires c = (c.requires.0, c.loop.invariant.0)

pub returns-in-Err : goal.returns-in-Err
returns-in-Err c = rw (c.new.ensures.0, c.new.ensures.1) (reads_stop _ _ _ _ _ c.loop.invariant.1 c.loop-test.true c.in-Err.ensures (number_positive _))

pub read_end-at-requires : goal.read_end-at-requires
read_end-at-requires c = omega (arith, (read_holds _ _ (sym c.in_default.ensures)).begins)

pub loop-preserved : goal.loop-preserved
loop-preserved c = (omega (arith, (read_holds _ _ (sym c.in_default.ensures)).whole), reads_turn _ _ _ _ _ c.loop.invariant.1 c.loop-test.true c.in_default.ensures _ refl c.read_end-at.ensures)

pub returns-then-at-s : goal.returns-then-at-s
returns-then-at-s c = rw (c.new-then-at-s.ensures.0, c.new-then-at-s.ensures.1) (reads_left _ _ _ _ _ c.loop.invariant.1 (search rules) (search rules))

pub returns : goal.returns
returns c = reads_end _ _ _ _ _ c.loop.invariant.1 (search rules) (search rules)
