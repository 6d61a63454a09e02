-- `listing::lines::put_path_line` meets its contract: weight, vertices and newline are stored one behind the other.
-- Assumes nothing.
use native.Mathlib.Omega.{arith}
use mathlib.Core.List.{◌++◌}
use Rattle.text.specs.Text.{decimal, newline}
use Rattle.text.proofs.Storing.{Still, still_all, still_next, still_byte, still_room, still_inside, still_none}
use Rattle.listing.specs.Lines.{vertex_texts, path_line}
use Rattle.listing.proofs.lines.put_path_line.Goals as goal
use Rattle.listing.proofs.lines.put_path_line.Goals.{After-put_number-first, After-put_vertices-end}

after-weight : (c : After-put_number-first) →
    Still c.args.out.now c.args.at (path_line c.args.weight c.args.vertices.now)
    c.put_number-first.new.out c.put_number-first.result (vertex_texts c.args.vertices.now ++ newline)
unfolding path_line
after-weight c = still_next c.put_number-first.ensures (still_all c.requires)

after-vertices : (c : After-put_vertices-end) →
    Still c.args.out.now c.args.at (path_line c.args.weight c.args.vertices.now)
    c.put_vertices-end.new.out c.put_vertices-end.result newline
unfolding path_line
after-vertices c = still_next c.put_vertices-end.ensures (still_next c.put_number-first.ensures (still_all c.requires))

pub put_number-first-requires : goal.put_number-first-requires
unfolding path_line
put_number-first-requires c = still_room (decimal c.args.weight) _ (still_all {out = c.args.out.now} {at = c.args.at} {text = path_line c.args.weight c.args.vertices.now} c.requires)

pub put_vertices-end-requires : goal.put_vertices-end-requires
put_vertices-end-requires c = still_room (vertex_texts c.args.vertices.now) _ (after-weight ((goal.at.put_vertices-end-requires c).After-put_number-first))

pub bounds-out-end : goal.bounds-out-end
bounds-out-end c = still_inside (after-vertices ((goal.at.bounds-out-end c).After-put_vertices-end))

pub overflow_add-result : goal.overflow_add-result
overflow_add-result c =
    let l = after-vertices ((goal.at.overflow_add-result c).After-put_vertices-end) in
    omega (arith, still_inside l, l.long)

pub shape_of-out : goal.shape_of-out
shape_of-out c = (still_byte (after-vertices ((goal.at.shape_of-out c).After-put_vertices-end))).long

pub returns : goal.returns
returns c = still_none (still_byte (after-vertices ((goal.at.returns c).After-put_vertices-end)))
