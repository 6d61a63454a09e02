-- `forms::arcs::find_arc` meets its contract: what is found among all arcs is what is found from arc a on.
use borrow.Author.Rules.{rules}
use Rattle.std.proofs.Common.{sym, ◌∙◌}
use Rattle.forms.proofs.ArcLaws.{find_inside, find_begins, find_turns, find_stops, find_ends}
use Rattle.forms.proofs.arcs.find_arc.Goals as goal

pub loop-a-init : goal.loop-a-init
loop-a-init c = let n = find_begins c.args.s.now c.args.u c.args.v c.requires.0 c.requires.1 c.from-a.result (search rules) in record { begun = search rules; within = n.0; found = n.1 }

pub arc_head-requires : goal.arc_head-requires
arc_head-requires c = (search rules, find_inside _ _ 0 c.requires.0 c.requires.1 c.loop-a.a (search rules))

pub returns-then-arc_head-v : goal.returns-then-arc_head-v
returns-then-arc_head-v c = let i = c.loop-a.invariant in sym (i.found ∙ find_stops _ _ _ c.requires.0 (search rules) _ i.begun (search rules) c.arc_head.ensures.value (search rules))

pub loop-a-preserved : goal.loop-a-preserved
loop-a-preserved c = let i = c.loop-a.invariant in let n = find_turns _ _ _ c.requires.0 c.requires.1 _ i.begun (search rules) c.arc_head.ensures.value c.if-arc_head-v.false in record { begun = search rules; within = n.0; found = i.found ∙ n.1 }

pub returns : goal.returns
returns c = let i = c.loop-a.invariant in sym (i.found ∙ find_ends _ _ _ c.requires.0 c.requires.1 _ i.within (search rules))
