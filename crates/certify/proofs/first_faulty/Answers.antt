-- `certify::first_faulty`: what is passed is not at fault, so the answer of all is that of those not yet passed.
use Rattle.std.proofs.Common.{refl, arith}
use Rattle.forms.proofs.Scan.{scan_begins, scan_turns, scan_ends}
use Rattle.forms.proofs.ThenLaws.{refused_at}
use Rattle.certify.proofs.first_faulty.Goals as goal

pub loop-i-init : goal.loop-i-init
loop-i-init g c fault place h = scan_begins _ _ _

pub loop-i-preserved : goal.loop-i-preserved
loop-i-preserved g c fault place h = scan_turns _ _ _ _ 0 (c.loop-i.invariant fault place h) (omega arith) (h _ _ (omega arith) c.in_default.ensures) refl

pub returns-in-Err : goal.returns-in-Err
returns-in-Err g c fault place h p = refused_at _ _ _ c.loop-i.i c.new.ensures (c.loop-i.invariant fault place h) (omega arith) (h _ _ (omega arith) c.in-Err.ensures) (p _)

pub returns : goal.returns
returns g c fault place h p = scan_ends _ _ _ c.loop-i.i (c.loop-i.invariant fault place h) (omega arith)
