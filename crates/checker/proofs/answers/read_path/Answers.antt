-- `checker::answers::read_path` judges one path's record and tallies it.
use Rattle.std.proofs.Common.{refl, ◌-◌, take, drop, arith}
use Rattle.std.proofs.lemmas.Result.{err_from_is_err_and}
use Rattle.forms.proofs.ThenLaws.{number_positive}
use Rattle.tally.proofs.PathWalkLaws.{walked_rises}
use Rattle.checker.proofs.AnswerLaws.{not_after}
use Rattle.checker.proofs.AnswerPaths.{record_refused, record_no_path, record_no_order, record_right, fault_head, path_slice, path_slice_long, head_room}
use Rattle.checker.proofs.answers.read_path.Goals as goal

pub returns-in_err-path_head_fault-clause-read : goal.returns-in_err-path_head_fault-clause-read
returns-in_err-path_head_fault-clause-read c =
    let p = err_from_is_err_and c.from_residual.result c.from_residual.ensures.1 in
    rw (p.1, p.2)
    (record_refused _ _ _ _ _ (fault_head _ _ _ _ _ _ c.in_err-path_head_fault.ensures.value (number_positive _)) (number_positive _))

pub walk_path-walked-requires-clause-reads : goal.walk_path-walked-requires-clause-reads
walk_path-walked-requires-clause-reads c =
    let head = c.in_ok-path_head_fault.ensures.right in
    let long = path_slice_long head c.path_vertices_at.ensures c.path_end.ensures in
    (c.requires.reads.0, c.requires.reads.1, c.requires.reads.2, omega (arith, long, head), omega (arith, long, head_room head))

pub returns-in_default-clause-read : goal.returns-in_default-clause-read
returns-in_default-clause-read c =
    let ok = c.in_ok-path_head_fault.ensures in
    record_no_path _ _ _ _ _ ok.right ok.value c.path_weight-weight.ensures.value (path_slice _ _ _ c.path_vertices_at.ensures c.path_end.ensures) c.in_default.ensures refl

pub returns-then-le-clause-read : goal.returns-then-le-clause-read
returns-then-le-clause-read c =
    let ok = c.in_ok-path_head_fault.ensures in
    let order = not_after (take (c.path_end.result - c.path_vertices_at.result) (drop c.path_vertices_at.result c.args.t.now)) c.args.before.now _ c.le.ensures in
    record_no_order _ _ _ _ _ ok.right ok.value c.path_weight-weight.ensures.value (path_slice _ _ _ c.path_vertices_at.ensures c.path_end.ensures) c.in-Some.ensures refl order c.if-le.true

pub mark_reads-requires : goal.mark_reads-requires
mark_reads-requires c = (c.requires.reads.0, c.requires.totals_fit.1, walked_rises c.requires.reads.0 c.in-Some.ensures refl)

pub returns-clause-read : goal.returns-clause-read
returns-clause-read c =
    let ok = c.in_ok-path_head_fault.ensures in
    let order = not_after (take (c.path_end.result - c.path_vertices_at.result) (drop c.path_vertices_at.result c.args.t.now)) c.args.before.now _ c.le.ensures in
    record_right _ _ _ _ _ ok.right ok.value c.path_weight-weight.ensures.value (path_slice _ _ _ c.path_vertices_at.ensures c.path_end.ensures) c.in-Some.ensures refl order c.if-le.false c.mark_reads.ensures
