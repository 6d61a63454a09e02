-- `listing::lines::put_pair_line` meets its contract: word, number, space, number and newline are stored one behind the other.
-- Assumes nothing.
use native.Mathlib.Omega.{arith}
use mathlib.Core.List.{◌++◌}
use Rattle.text.specs.Text.{decimal, space, newline}
use Rattle.text.proofs.Storing.{Still, still_all, still_next, still_byte, still_room, still_inside, still_none}
use Rattle.listing.specs.Lines.{pair_line}
use Rattle.listing.proofs.lines.put_pair_line.Goals as goal
use Rattle.listing.proofs.lines.put_pair_line.Goals.{After-put_number-end, After-put_number-gap, After-put_text-first}

after-word : (c : After-put_text-first) →
    Still c.args.out.now c.args.at (pair_line c.args.word.now c.args.a c.args.b)
    c.put_text-first.new.out c.put_text-first.result (decimal c.args.a ++ (space ++ (decimal c.args.b ++ newline)))
unfolding pair_line
after-word c = still_next c.put_text-first.ensures (still_all c.requires)

after-a : (c : After-put_number-gap) →
    Still c.args.out.now c.args.at (pair_line c.args.word.now c.args.a c.args.b)
    c.put_number-gap.new.out c.put_number-gap.result (space ++ (decimal c.args.b ++ newline))
unfolding pair_line
after-a c = still_next c.put_number-gap.ensures (still_next c.put_text-first.ensures (still_all c.requires))

after-b : (c : After-put_number-end) →
    Still c.args.out.now c.args.at (pair_line c.args.word.now c.args.a c.args.b)
    c.put_number-end.new.out c.put_number-end.result newline
unfolding pair_line
after-b c = still_next c.put_number-end.ensures (still_byte (still_next c.put_number-gap.ensures (still_next c.put_text-first.ensures (still_all c.requires))))

pub put_text-first-requires : goal.put_text-first-requires
unfolding pair_line
put_text-first-requires c = still_room c.args.word.now _ (still_all {out = c.args.out.now} {at = c.args.at} {text = pair_line c.args.word.now c.args.a c.args.b} c.requires)

pub put_number-gap-requires : goal.put_number-gap-requires
put_number-gap-requires c = still_room (decimal c.args.a) _ (after-word ((goal.at.put_number-gap-requires c).After-put_text-first))

pub bounds-out-gap : goal.bounds-out-gap
bounds-out-gap c = still_inside (after-a ((goal.at.bounds-out-gap c).After-put_number-gap))

pub overflow_add-gap : goal.overflow_add-gap
overflow_add-gap c =
    let l = after-a ((goal.at.overflow_add-gap c).After-put_number-gap) in
    omega (arith, still_inside l, l.long)

pub put_number-end-requires : goal.put_number-end-requires
put_number-end-requires c = still_room (decimal c.args.b) _ (still_byte (after-a ((goal.at.put_number-end-requires c).After-put_number-gap)))

pub bounds-out-end : goal.bounds-out-end
bounds-out-end c = still_inside (after-b ((goal.at.bounds-out-end c).After-put_number-end))

pub overflow_add-result : goal.overflow_add-result
overflow_add-result c =
    let l = after-b ((goal.at.overflow_add-result c).After-put_number-end) in
    omega (arith, still_inside l, l.long)

pub shape_of-out : goal.shape_of-out
shape_of-out c = (still_byte (after-b ((goal.at.shape_of-out c).After-put_number-end))).long

pub returns : goal.returns
returns c = still_none (still_byte (after-b ((goal.at.returns c).After-put_number-end)))
