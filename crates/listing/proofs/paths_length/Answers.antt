-- `listing::paths_length` meets its contract: at each turn the bytes counted and those of the remaining lines make the whole.
-- Assumes nothing.
use native.Mathlib.Omega.{arith}
use Rattle.listing.proofs.Accepted.{graph_long, answer_long}
use Rattle.listing.proofs.PathLines.{none_passed, path_inside, vertices_handed, vertices_few, one_passed, bytes_start, bytes_next, bytes_few, bytes_end}
use Rattle.listing.proofs.paths_length.Goals as goal

pub path_count-count-requires : goal.path_count-count-requires
path_count-count-requires c = omega (arith, answer_long _ _ c.requires)

pub first_path_at-path-requires : goal.first_path_at-path-requires
first_path_at-path-requires c = graph_long _ _ c.requires

pub loop-init : goal.loop-init
loop-init c = (
  none_passed c.requires c.path_count-count.ensures.value c.first_path_at-path.ensures.value (omega arith),
  bytes_start _ _ (omega arith) (omega arith),
)

pub path_vertices_at-first-requires : goal.path_vertices_at-first-requires
path_vertices_at-first-requires c = omega (arith, path_inside c.loop-test.true c.loop.invariant.0)

pub path_end-behind-requires : goal.path_end-behind-requires
path_end-behind-requires c = omega (arith, path_inside c.loop-test.true c.loop.invariant.0)

pub path_weight-requires : goal.path_weight-requires
path_weight-requires c = omega (arith, path_inside c.loop-test.true c.loop.invariant.0)

pub slice_bounds-path_line_length-end : goal.slice_bounds-path_line_length-end
slice_bounds-path_line_length-end c = omega (arith, path_inside c.loop-test.true c.loop.invariant.0)

pub slice_bounds-path_line_length-count : goal.slice_bounds-path_line_length-count
slice_bounds-path_line_length-count c = omega arith

pub path_line_length-bytes-requires : goal.path_line_length-bytes-requires
path_line_length-bytes-requires c = omega (arith, vertices_few c.loop-test.true c.loop.invariant.0 c.path_vertices_at-first.ensures c.path_end-behind.ensures)

pub overflow_add-bytes : goal.overflow_add-bytes
overflow_add-bytes c =
    let p = c.loop.invariant.0 in
    let handed = vertices_handed c.loop-test.true p c.path_vertices_at-first.ensures c.path_end-behind.ensures in
    let next = bytes_next c.loop-test.true p _ _ _ _ c.path_weight.ensures.value handed c.path_line_length-bytes.ensures c.loop.invariant.1 in
    omega (arith, bytes_few p _ _ next)

pub loop-preserved : goal.loop-preserved
loop-preserved c =
    let p = c.loop.invariant.0 in
    let handed = vertices_handed c.loop-test.true p c.path_vertices_at-first.ensures c.path_end-behind.ensures in (
      one_passed c.loop-test.true p c.path_end-behind.ensures,
      bytes_next c.loop-test.true p _ _ _ _ c.path_weight.ensures.value handed c.path_line_length-bytes.ensures c.loop.invariant.1,
    )

pub returns : goal.returns
returns c =
    let h = c.loop.invariant in
    record {
      value = bytes_end c.loop-test.false h.0 _ h.1;
      small = omega (arith, bytes_few h.0 _ _ h.1);
    }
