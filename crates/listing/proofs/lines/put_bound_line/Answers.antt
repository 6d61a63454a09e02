-- `listing::lines::put_bound_line` meets its contract: word, number and newline are stored one behind the other.
-- Assumes nothing.
use native.Mathlib.Omega.{arith}
use mathlib.Core.List.{◌++◌}
use Rattle.text.specs.Text.{decimal, newline}
use Rattle.text.proofs.Storing.{Still, still_all, still_next, still_byte, still_room, still_inside, still_none}
use Rattle.listing.specs.Lines.{bound_word, bound_line}
use Rattle.listing.proofs.lines.put_bound_line.Goals as goal
use Rattle.listing.proofs.lines.put_bound_line.Goals.{After-put_number-end, After-put_text-first}

after-word : (c : After-put_text-first) →
    Still c.args.out.now c.args.at (bound_line c.args.bound)
    c.put_text-first.new.out c.put_text-first.result (decimal c.args.bound ++ newline)
unfolding bound_line
after-word c = still_next c.put_text-first.ensures (still_all c.requires)

after-number : (c : After-put_number-end) →
    Still c.args.out.now c.args.at (bound_line c.args.bound)
    c.put_number-end.new.out c.put_number-end.result newline
unfolding bound_line
after-number c = still_next c.put_number-end.ensures (still_next c.put_text-first.ensures (still_all c.requires))

pub put_text-first-requires : goal.put_text-first-requires
unfolding bound_line
put_text-first-requires c = still_room bound_word _ (still_all {out = c.args.out.now} {at = c.args.at} {text = bound_line c.args.bound} c.requires)

pub put_number-end-requires : goal.put_number-end-requires
put_number-end-requires c = still_room (decimal c.args.bound) _ (after-word ((goal.at.put_number-end-requires c).After-put_text-first))

pub bounds-out-end : goal.bounds-out-end
bounds-out-end c = still_inside (after-number ((goal.at.bounds-out-end c).After-put_number-end))

pub overflow_add-result : goal.overflow_add-result
overflow_add-result c =
    let l = after-number ((goal.at.overflow_add-result c).After-put_number-end) in
    omega (arith, still_inside l, l.long)

pub shape_of-out : goal.shape_of-out
shape_of-out c = (still_byte (after-number ((goal.at.shape_of-out c).After-put_number-end))).long

pub returns : goal.returns
returns c = still_none (still_byte (after-number ((goal.at.returns c).After-put_number-end)))
