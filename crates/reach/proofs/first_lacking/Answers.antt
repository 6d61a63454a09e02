-- `reach::first_lacking` meets its contract: vertices, then arcs, then reads.
use Rattle.std.proofs.Common.{sym, ◌∙◌}
use Rattle.std.proofs.lemmas.Result.{err_from_is_err_and}
use Rattle.forms.proofs.ThenLaws.{then_err, then_ok}
use Rattle.reach.proofs.ReachLawsLacking.{lie_then}
use Rattle.reach.proofs.first_lacking.Goals as goal

pub returns-in_err-vertices_lie : goal.returns-in_err-vertices_lie
returns-in_err-vertices_lie c =
    let p = err_from_is_err_and c.from_residual.result c.from_residual.ensures.1 in
    rw (p.1, p.2) (then_err _ _ c.in_err-vertices_lie.ensures ∙
    sym (lie_then (record { reads = c.requires.reads; vertices = c.vertex_count-n.ensures.value; arcs = c.arc_count-m.ensures.value })))

pub returns-in_err-arcs_lie : goal.returns-in_err-arcs_lie
returns-in_err-arcs_lie c =
    let p = err_from_is_err_and c.from_residual-in_err-arcs_lie.result c.from_residual-in_err-arcs_lie.ensures.1 in
    rw (p.1, p.2) (then_ok c.in_ok-vertices_lie.ensures (then_err _ _ c.in_err-arcs_lie.ensures) ∙
    sym (lie_then (record { reads = c.requires.reads; vertices = c.vertex_count-n.ensures.value; arcs = c.arc_count-m.ensures.value })))

pub returns : goal.returns
returns c =
    then_ok c.in_ok-vertices_lie.ensures (then_ok c.in_ok-arcs_lie.ensures c.reads_lie.ensures) ∙
    sym (lie_then (record { reads = c.requires.reads; vertices = c.vertex_count-n.ensures.value; arcs = c.arc_count-m.ensures.value }))
