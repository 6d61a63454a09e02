-- `reads::prepare_reads` meets its contract: what joining is still to make of the table is what preparing makes of the reads at entry.
use Rattle.std.proofs.Common.{refl, ◌∙◌}
use Rattle.reads.proofs.PrepareLaws.{prepare_start, prepare_turn, prepare_stop}
use Rattle.reads.proofs.prepare_reads.Goals as goal

pub loop-m-preserved : goal.loop-m-preserved
loop-m-preserved c =
    let turn = c.loop-m.invariant in (
      c.join_at-n.ensures.left.table,
      prepare_turn _ _ _ _ turn.0 turn.1 _ _ _ _ c.in-Some.ensures c.in-Some.m.some c.join_at-n.ensures.left c.join_at-n.ensures.fewer,
    )

pub returns : goal.returns
returns c =
    let turn = c.loop-m.invariant in
    let so_far = prepare_start _ _ _ _ c.drop_parts-n.ensures ∙ turn.1 in
    record { table = turn.0; reads = prepare_stop _ _ _ _ turn.0 so_far _ c.in_default.ensures refl }
