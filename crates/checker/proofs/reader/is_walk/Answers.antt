-- `checker::reader::is_walk` meets its contract: whether all of it is a walk is whether it goes on from u along the rest.
use Rattle.std.proofs.Common.{sym, ◌∙◌, arith, rules}
use Rattle.forms.proofs.WalkLaws.{goes_inside}
use Rattle.checker.proofs.WalkAlong.{along_outside, along_begins, along_ends, along_stops, along_turns}
use Rattle.checker.proofs.reader.is_walk.Goals as goal

pub returns-then-n-u : goal.returns-then-n-u
returns-then-n-u c = along_outside _ _ _ (search rules) c.from-u.ensures (search rules)

pub loop-next-init : goal.loop-next-init
loop-next-init c = (c.if-n-u.false, along_begins _ _ _ (search rules) c.from-u.ensures (search rules))

pub returns-then-not-goes_on : goal.returns-then-not-goes_on
returns-then-not-goes_on c =
    sym (c.loop-next.invariant.1 ∙ along_stops _ _ _ _ _ c.loop-next-test.true c.from-v.ensures c.goes_on.ensures c.if-not-goes_on.true)

pub loop-next-preserved : goal.loop-next-preserved
loop-next-preserved c = (
  omega (arith, goes_inside _ _ _ _ c.goes_on.ensures c.if-not-goes_on.false),
  c.loop-next.invariant.1 ∙ along_turns _ _ _ _ _ c.loop-next-test.true c.from-v.ensures c.goes_on.ensures c.if-not-goes_on.false,
)

pub returns : goal.returns
returns c = sym (c.loop-next.invariant.1 ∙ along_ends _ _ _ _ _ c.loop-next-test.false)
