-- `forms::arcs::first_arcs` meets its contract: the table is filled up to u, and no more arcs are counted than have a tail below u.
use borrow.Author.Rules.{rules}
use Rattle.std.proofs.Common.{arith}
use Rattle.forms.proofs.Filling.{fill_none, fill_more}
use Rattle.forms.proofs.ArcLaws.{tails_grow, tails_most}
use Rattle.forms.proofs.arcs.first_arcs.Goals as goal

pub loop-u-init : goal.loop-u-init
loop-u-init c = record { counted = search rules; filled = fill_none (search rules) }

pub loop-u-preserved : goal.loop-u-preserved
loop-u-preserved c = let i = c.loop-u.invariant in record { counted = omega (arith, tails_grow _ c.requires c.loop-u.u); filled = fill_more i.filled (search rules) (search rules) }

pub returns : goal.returns
returns c = record { arcs = c.requires; at = λ u h. c.loop-u.invariant.filled.each u (omega arith) }

pub overflow_cast-entry : goal.overflow_cast-entry
overflow_cast-entry c = omega (arith, tails_most _ c.requires c.loop-u.u)
