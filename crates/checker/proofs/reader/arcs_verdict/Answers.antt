-- `checker::reader::arcs_verdict` meets its contract: the answer of all records is that of those not yet passed.
use Rattle.std.proofs.Common.{refl, rules}
use Rattle.forms.proofs.Scan.{scan_turns, scan_ends}
use Rattle.forms.proofs.ThenLaws.{refused_at}
use Rattle.checker.proofs.reader.arcs_verdict.Goals as goal

pub returns-in-Err : goal.returns-in-Err
returns-in-Err c = refused_at _ _ _ _ c.new.ensures c.loop-a.invariant c.loop-a-test.true c.in-Err.ensures c.arc_at.ensures

pub loop-a-preserved : goal.loop-a-preserved
loop-a-preserved c = scan_turns _ _ _ _ _ c.loop-a.invariant c.loop-a-test.true c.in_default.ensures refl

pub returns : goal.returns
returns c = scan_ends _ _ _ c.loop-a.a c.loop-a.invariant (search rules)
