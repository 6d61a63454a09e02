-- `listing::put_paths` meets its contract: at each turn the lines of the remaining paths are still to be stored.
-- Assumes nothing.
use Prim.Native.Nat.{◌-◌}
use native.Mathlib.Omega.{arith}
use lib.ListN.{take, drop}
use Rattle.text.proofs.Storing.{still_next, still_room}
use Rattle.listing.specs.Lines.{path_line}
use Rattle.listing.proofs.Accepted.{graph_long, answer_long}
use Rattle.listing.proofs.PathLines.{none_passed, path_inside, vertices_handed, one_passed, lines_start, line_next, lines_end}
use Rattle.listing.proofs.put_paths.Goals as goal

pub path_count-paths-requires : goal.path_count-paths-requires
path_count-paths-requires c = omega (arith, answer_long _ _ c.requires.answer_value)

pub first_path_at-path-requires : goal.first_path_at-path-requires
first_path_at-path-requires c = graph_long _ _ c.requires.answer_value

pub loop-init : goal.loop-init
loop-init c = (
  none_passed c.requires.answer_value c.path_count-paths.ensures.value c.first_path_at-path.ensures.value (omega arith),
  lines_start _ _ c.requires.text_fits (omega arith),
)

pub path_vertices_at-first-requires : goal.path_vertices_at-first-requires
path_vertices_at-first-requires c = omega (arith, path_inside c.loop-test.true c.loop.invariant.0)

pub path_end-behind-requires : goal.path_end-behind-requires
path_end-behind-requires c = omega (arith, path_inside c.loop-test.true c.loop.invariant.0)

pub path_weight-requires : goal.path_weight-requires
path_weight-requires c = omega (arith, path_inside c.loop-test.true c.loop.invariant.0)

pub slice_bounds-put_path_line-end : goal.slice_bounds-put_path_line-end
slice_bounds-put_path_line-end c = omega (arith, path_inside c.loop-test.true c.loop.invariant.0)

pub slice_bounds-put_path_line-count : goal.slice_bounds-put_path_line-count
slice_bounds-put_path_line-count c = omega arith

pub put_path_line-end-requires : goal.put_path_line-end-requires
put_path_line-end-requires c =
    let first = c.path_vertices_at-first in
    let behind = c.path_end-behind in
    still_room (path_line c.path_weight.result (take (behind.result - first.result) (drop first.result c.args.answer.now))) _
    (line_next c.loop-test.true c.loop.invariant.0 _ _ c.path_weight.ensures.value
    (vertices_handed c.loop-test.true c.loop.invariant.0 first.ensures behind.ensures) c.loop.invariant.1)

pub loop-preserved : goal.loop-preserved
loop-preserved c =
    let first = c.path_vertices_at-first in
    let behind = c.path_end-behind in
    let weight = c.path_weight in (
      one_passed c.loop-test.true c.loop.invariant.0 behind.ensures,
      still_next c.put_path_line-end.ensures
          (line_next c.loop-test.true c.loop.invariant.0 _ _ weight.ensures.value
          (vertices_handed c.loop-test.true c.loop.invariant.0 first.ensures behind.ensures) c.loop.invariant.1),
    )

pub shape_of-out : goal.shape_of-out
shape_of-out c = c.loop.invariant.1.long

pub returns : goal.returns
returns c = lines_end c.loop-test.false c.loop.invariant.0 c.loop.invariant.1
