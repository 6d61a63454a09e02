-- `checker::check::answer_verdict` goes through header, marks and paths, the first refusal deciding.
use Rattle.std.proofs.Common.{sym, ap, ◌∙◌}
use Rattle.std.proofs.lemmas.Result.{err_from_is_err_and}
use Rattle.forms.specs.declared.Verdict.{Verdict}
use Rattle.forms.proofs.ThenLaws.{then_err, then_ok}
use Rattle.checker.specs.Check.{answer_verdict}
use Rattle.checker.proofs.Accepted.{header_read}
use Rattle.checker.proofs.AnswerLaws.{header_then, marks_then}
use Rattle.checker.proofs.CertifyLawsCheck.{marks_stand}
use Rattle.checker.proofs.check.answer_verdict.Goals as goal

pub returns-in_err-header_verdict : goal.returns-in_err-header_verdict
unfolding answer_verdict
returns-in_err-header_verdict c =
    let p = err_from_is_err_and c.from_residual.result c.from_residual.ensures.1 in
    rw (p.1, p.2) (then_err _ _ c.in_err-header_verdict.ensures ∙ sym (header_then _ _ _))

pub marks_verdict-requires : goal.marks_verdict-requires
marks_verdict-requires c = (c.requires.arcs.header.long, (header_read _ _ _ (ap (λ (v : Verdict). v.number) (sym c.in_ok-header_verdict.ensures))).0.long)

pub returns-in_err-marks_verdict : goal.returns-in_err-marks_verdict
unfolding answer_verdict
returns-in_err-marks_verdict c =
    let p = err_from_is_err_and c.from_residual-in_err-marks_verdict.result c.from_residual-in_err-marks_verdict.ensures.1 in
    rw (p.1, p.2) (then_ok c.in_ok-header_verdict.ensures (then_err _ _ c.in_err-marks_verdict.ensures ∙ sym (marks_then _ _ _ _)) ∙ sym (header_then _ _ _))

pub paths_verdict-requires : goal.paths_verdict-requires
paths_verdict-requires c =
    let header = header_read _ _ _ (ap (λ (v : Verdict). v.number) (sym c.in_ok-header_verdict.ensures)) in
    (c.requires, marks_stand _ _ header.0.long (ap (λ (v : Verdict). v.number) (sym c.in_ok-marks_verdict.ensures)))

pub returns : goal.returns
unfolding answer_verdict
returns c = then_ok c.in_ok-header_verdict.ensures (then_ok c.in_ok-marks_verdict.ensures c.paths_verdict.ensures ∙ sym (marks_then _ _ _ _)) ∙ sym (header_then _ _ _)
