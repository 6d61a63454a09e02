-- `writing::put_path` meets its contract: weight, count and vertices put one behind the other.
use Rattle.std.proofs.Common.{◌∙◌, arith}
use Rattle.writing.proofs.WritingLaws.{path_in_row_lem, be_bytes32, placed_same, record_placed}
use Rattle.writing.proofs.put_path.Goals as goal

pub vertices-vertices-requires : goal.vertices-vertices-requires
vertices-vertices-requires c = record { wide = c.requires.fits.2; fit = omega (arith, path_in_row_lem c.args.s.now) }

pub returns-clause-placed : goal.returns-clause-placed
returns-clause-placed c =
    let fits = c.requires.fits in
    record_placed c.args.s.now c.args.out.now _ _ _ c.args.place _ c.args.path.now.weight c.args.path.now.size c.args.path.now.row fits.2 fits.0
    c.path_vertices_at-at.ensures
    (placed_same _ _ _ c.put.ensures (c.to_be_bytes.ensures ∙ be_bytes32 _ fits.1))
    c.put_count.ensures
    (placed_same _ _ _ c.put-2.ensures c.vertices-vertices.ensures)
