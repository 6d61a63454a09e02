-- `checker::check::find_path` gives what the sister call gives, and the part of the answer that holds path k's vertices, or the empty part.
use Rattle.std.proofs.Common.{sym, ap, rules}
use Rattle.std.proofs.lemmas.Result.{err_from_is_err_and}
use Rattle.forms.specs.declared.Verdict.{Verdict}
use Rattle.checker.proofs.GraphReads.{number_zero_iff_reads}
use Rattle.checker.proofs.CertifyLawsHandOut.{has_path, stands_to, nothing_found, path_found}
use Rattle.checker.proofs.check.find_path.Goals as goal

pub returns-in_err-hand_out_verdict : goal.returns-in_err-hand_out_verdict
returns-in_err-hand_out_verdict c =
    let p = err_from_is_err_and c.from_residual.result c.from_residual.ensures.1 in
    rw (p.1, p.2) (nothing_found _ _ _ _ c.in_err-hand_out_verdict.ensures)

pub first_path_at-requires : goal.first_path_at-requires
first_path_at-requires c =
    let h = has_path _ _ _ (ap (λ (v : Verdict). v.number) (sym c.in_ok-hand_out_verdict.ensures)) in
    ((number_zero_iff_reads _).0 h.accepted.graph_reads).arcs.header.long

pub path_at-at-requires : goal.path_at-at-requires
path_at-at-requires c =
    let h = has_path _ _ _ (ap (λ (v : Verdict). v.number) (sym c.in_ok-hand_out_verdict.ensures)) in
    rw c.first_path_at.ensures.value (stands_to h)

pub returns : goal.returns
returns c =
    path_found _ _ _ c.in_ok-hand_out_verdict.ensures c.first_path_at.ensures.value
    c.path_at-at.ensures.0 c.path_at-at.ensures.1 (search rules) (search rules)
