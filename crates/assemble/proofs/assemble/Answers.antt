-- `assemble::assemble` meets its contract: a law for each way through it. The lent answer has the bytes that the builder asks for.
-- Assumes nothing.
use Rattle.std.proofs.Common.{ℕ, refl, sym, length-take-le, rules, arith}
use Rattle.std.proofs.Math.ListN.{length-replicate}
use Rattle.forms.proofs.ThenLaws.{number_positive}
use Rattle.listing.specs.Listing.{answer_lent}
use Rattle.listing.proofs.Writing.{written_of}
use Rattle.assemble.proofs.Laws.{lists_too_long, lists_refused, lists_built}
use Rattle.assemble.proofs.assemble.Goals as goal

pub returns-then-graph-gt-LONGEST_INPUT : goal.returns-then-graph-gt-LONGEST_INPUT
returns-then-graph-gt-LONGEST_INPUT c =
    rw (written_of c.list_refusal.result c.unwrap_or.ensures)
    (lists_too_long (search rules) c.if-graph-gt-LONGEST_INPUT.true c.number.ensures c.list_refusal.ensures.lists)

pub slice_bounds-list_cover-end : goal.slice_bounds-list_cover-end
slice_bounds-list_cover-end c =
    let p = c.in-Ok.ensures in
    sym (length-take-le _ _ (omega (arith, p.fits, p.same_length)))

pub returns-in-Ok : goal.returns-in-Ok
returns-in-Ok c =
    rw (written_of c.list_cover.result c.unwrap_or-in-Ok.ensures)
    (lists_built c.if-graph-gt-LONGEST_INPUT.false (length-replicate {A = ℕ} answer_lent 0) c.in-Ok.ensures (search rules) refl c.list_cover.ensures)

pub returns-in-Err : goal.returns-in-Err
returns-in-Err c =
    rw (written_of c.list_refusal-in-Err.result c.unwrap_or-in-Err.ensures)
    (lists_refused c.if-graph-gt-LONGEST_INPUT.false (length-replicate {A = ℕ} answer_lent 0) c.in-Err.ensures (search rules) (number_positive c.in-Err.refused.fault)
    c.list_refusal-in-Err.ensures.lists c.number-in-Err.ensures refl)
