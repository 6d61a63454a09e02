-- `certify::arcs_sum` meets its contract: the closure gives each arc's part.
use Rattle.std.proofs.Common.{arith, rules, get_or}
use Rattle.forms.specs.Limits.{room_arcs}
use Rattle.certify.specs.Certify.{arc_part}
use Rattle.certify.proofs.arcs_sum.Goals as goal

pub returns : goal.returns
returns c =
    let n = c.arc_count.ensures.value in
    rw (← n)
    (c.sum_of.ensures (λ a. arc_part c.args.s.now c.args.t.now a (get_or c.args.reads.now a 0)) room_arcs (λ a r l p. search rules) (omega (arith, n, c.requires.reads.0.arcs.header.arcs_room)))
