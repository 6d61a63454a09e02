-- `reads::join_at` meets its contract: the pair with the longest overlap can be joined, and the joined read fits a row.
use Rattle.std.proofs.Common.{◌≤◌, ap, length, arith, rules}
use Rattle.reads.specs.ReadTable.{meeting}
use Rattle.reads.proofs.TableRows.{table_row, leaves_same}
use Rattle.reads.proofs.JoinedRead.{Joins, longest_joins, join_room, join_table, join_lower}
use Rattle.reads.proofs.join_at.Goals as goal
use Rattle.reads.proofs.join_at.Goals.{Start}

-- what the pair with the longest overlap has
facts : (c : Start) → Joins c.args.rows.now c.args.lens.now c.args.count (meeting c.args.m)
facts c = longest_joins _ _ _ c.requires.table _ c.requires.longest c.args.m.some

pub read_of-a-requires : goal.read_of-a-requires
read_of-a-requires c = table_row _ _ _ c.requires.table _ (facts c).i_below

pub read_of-b-requires : goal.read_of-b-requires
read_of-b-requires c = table_row _ _ _ c.requires.table _ (facts ((goal.at.read_of-b-requires c).Start)).j_below

pub slice_bounds-rest-count : goal.slice_bounds-rest-count
slice_bounds-rest-count c = omega (arith, (facts ((goal.at.slice_bounds-rest-count c).Start)).part, ap length c.read_of-b.ensures.value)

pub slice_bounds-rest-start : goal.slice_bounds-rest-start
slice_bounds-rest-start c =
    let part : c.args.m.shared ≤ length c.read_of-b.result.now = omega (arith, (facts ((goal.at.slice_bounds-rest-start c).Start)).part, ap length c.read_of-b.ensures.value) in
    search rules

pub joined-row-requires : goal.joined-row-requires
joined-row-requires c =
    join_room _ _ _ c.requires.table _ (facts ((goal.at.joined-row-requires c).Start)) _ _ c.read_of-a.ensures.value c.read_of-b.ensures.value

pub offset_bounds-rows-low : goal.offset_bounds-rows-low
offset_bounds-rows-low c = omega (arith, (facts ((goal.at.offset_bounds-rows-low c).Start)).i_below, c.requires.table.counted, c.min-low.ensures)

pub bounds-rows-low : goal.bounds-rows-low
bounds-rows-low c = omega (arith, (facts ((goal.at.bounds-rows-low c).Start)).i_below, c.requires.table.counted, c.min-low.ensures)

pub offset_bounds-lens-low : goal.offset_bounds-lens-low
offset_bounds-lens-low c = omega (arith, (facts ((goal.at.offset_bounds-lens-low c).Start)).i_below, c.requires.table.counted, c.min-low.ensures)

pub bounds-lens-low : goal.bounds-lens-low
bounds-lens-low c = omega (arith, (facts ((goal.at.bounds-lens-low c).Start)).i_below, c.requires.table.counted, c.min-low.ensures)

pub close_gap-requires-clause-table : goal.close_gap-requires-clause-table
close_gap-requires-clause-table c =
    join_table _ _ _ c.requires.table _ (facts ((goal.at.close_gap-requires-clause-table c).Start)) _ _ c.read_of-a.ensures.value c.read_of-b.ensures.value
    _ _ c.min-low.ensures (search rules) c.joined-row.ensures

pub close_gap-requires-clause-inside : goal.close_gap-requires-clause-inside
close_gap-requires-clause-inside c =
    omega (arith, (facts ((goal.at.close_gap-requires-clause-inside c).Start)).i_below, (facts ((goal.at.close_gap-requires-clause-inside c).Start)).j_below, c.max.ensures)

pub returns-clause-left : goal.returns-clause-left
returns-clause-left c =
    leaves_same c.close_gap.ensures.left
    (join_lower _ _ _ c.requires.table _ (facts ((goal.at.returns-clause-left c).Start)) _ _ c.read_of-a.ensures.value c.read_of-b.ensures.value
    _ _ c.min-low.ensures (search rules) c.joined-row.ensures _ c.max.ensures)
