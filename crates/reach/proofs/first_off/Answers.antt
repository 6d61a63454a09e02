-- `reach::first_off`: what is passed lies on a path, so the answer of all is that of those not yet passed.
use Rattle.std.proofs.Common.{refl, sym, ap, ◌∙◌, arith}
use Rattle.forms.proofs.Scan.{scan_begins, scan_turns, scan_stops, scan_ends}
use Rattle.reach.specs.Reached.{off}
use Rattle.reach.proofs.first_off.Goals as goal

pub loop-i-init : goal.loop-i-init
loop-i-init g c f place h = scan_begins _ _ _

pub loop-i-preserved : goal.loop-i-preserved
loop-i-preserved g c f place h = scan_turns _ _ _ _ _ (c.loop-i.invariant f place h) (omega arith) refl (ap off (sym (h _ _ (omega arith) c.lies.ensures) ∙ c.if-not-lies.false))

pub returns-then-not-lies : goal.returns-then-not-lies
returns-then-not-lies g c f place h p =
    rw (c.new.ensures.0, c.new.ensures.1)
    (scan_stops _ _ _ _ _ _ (c.loop-i.invariant f place h) (omega arith) (sym (ap off (sym (h _ _ (omega arith) c.lies.ensures) ∙ c.if-not-lies.true))) (λ z. omega (arith, z)) (p _))

pub returns : goal.returns
returns g c f place h p = scan_ends _ _ _ c.loop-i.i (c.loop-i.invariant f place h) (omega arith)
