-- `forms::arcs::arcs_below` meets its contract: no more arcs were passed than have a tail below u.
use borrow.Author.Rules.{rules}
use Rattle.forms.proofs.ArcLaws.{below_inside, below_turns, below_stops, below_ends}
use Rattle.forms.proofs.arcs.arcs_below.Goals as goal

pub arc_tail-requires : goal.arc_tail-requires
arc_tail-requires c = (search rules, below_inside _ _ _ _ _ c.requires.0 c.loop-a.invariant (search rules))

pub returns-then-u-arc_tail : goal.returns-then-u-arc_tail
returns-then-u-arc_tail c = below_stops _ _ _ _ _ c.requires.0 c.loop-a.invariant c.arc_tail.ensures.value (search rules)

pub loop-a-preserved : goal.loop-a-preserved
loop-a-preserved c = below_turns _ _ _ _ _ c.requires.0 c.loop-a.invariant c.arc_tail.ensures.value (search rules) (search rules)

pub returns : goal.returns
returns c = below_ends _ _ _ _ _ c.requires.0 c.loop-a.invariant (search rules)
