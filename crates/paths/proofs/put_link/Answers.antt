-- `paths::put_link` meets its contract. Assumes nothing.
use Rattle.std.proofs.Common.{◌<◌, arith}
use Rattle.reads.specs.ReadTable.{row_length}
use Rattle.paths.proofs.PeelLawsPath.{vertex_room, read_room, put_vertex, put_none, put_read}
use Rattle.paths.proofs.put_link.Goals as goal
use Rattle.paths.proofs.put_link.Goals.{Then-e-vertices}

-- a vertex's edge: there is room for one vertex
vertex_inside : (c : Then-e-vertices) → c.args.r < row_length
vertex_inside c =
    omega (arith, c.requires.room.1, vertex_room _ _ _ _ _ c.requires.held c.args.e c.if-e-vertices.true)

pub bounds-row-r : goal.bounds-row-r
bounds-row-r c = vertex_inside ((goal.at.bounds-row-r c).Then-e-vertices)

pub returns-then-e-vertices : goal.returns-then-e-vertices
returns-then-e-vertices c =
    put_vertex _ _ _ _ _ c.requires.held _ c.args.row.now c.args.r (omega arith) (vertex_inside ((goal.at.returns-then-e-vertices c).Then-e-vertices)) c.if-e-vertices.true

pub returns-then-e-plain : goal.returns-then-e-plain
returns-then-e-plain c = put_none _ _ _ _ _ c.requires.held _ c.args.row.now c.args.r (omega arith) c.if-e-vertices.false c.if-e-plain.true

pub slice_bounds-copy_from_slice-end : goal.slice_bounds-copy_from_slice-end
slice_bounds-copy_from_slice-end c = omega (arith, c.requires.room.1, read_room _ _ _ _ _ c.requires.held c.args.e c.if-e-plain.false c.requires.room.0)

pub returns : goal.returns
returns c =
    let room = read_room _ _ _ _ _ c.requires.held c.args.e c.if-e-plain.false c.requires.room.0 in
    put_read _ _ _ _ _ c.requires.held _ c.args.row.now _ c.args.r _ (omega arith) c.if-e-plain.false c.requires.room.0 (omega (arith, c.requires.room.1, room)) (omega arith)
    c.copy_from_slice.ensures.after
