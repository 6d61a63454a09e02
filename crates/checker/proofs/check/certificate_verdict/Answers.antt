-- `checker::check::certificate_verdict` gives the first of 19, 20, 21 and 22 that holds.
use Rattle.std.proofs.Common.{sym, ap, ◌∙◌, arith}
use Rattle.std.proofs.lemmas.Result.{err_from_is_err_and}
use Rattle.forms.specs.declared.Verdict.{Verdict}
use Rattle.checker.proofs.CertifyLawsCheck.{some_unmet, price_differs, slack_below, bound_differs, all_certified, none_below}
use Rattle.checker.proofs.check.certificate_verdict.Goals as goal

pub returns-in_err-unmet_verdict : goal.returns-in_err-unmet_verdict
returns-in_err-unmet_verdict c =
    let p = err_from_is_err_and c.from_residual.result c.from_residual.ensures.1 in
    rw (p.1, p.2) (some_unmet _ _ _ _ _ _ c.requires.tallied.0 _ c.in_err-unmet_verdict.ensures)

pub returns-then-price_differs : goal.returns-then-price_differs
returns-then-price_differs c =
    let differs = price_differs _ _ _ _ _ _ c.requires.tallied.0 c.in_ok-unmet_verdict.ensures (λ e. c.if-price_differs.true (e ∙ sym c.requires.tallied.1)) in
    grind (arith, differs)

pub returns-in_err-slacks_verdict : goal.returns-in_err-slacks_verdict
returns-in_err-slacks_verdict c =
    let p = err_from_is_err_and c.from_residual-in_err-slacks_verdict.result c.from_residual-in_err-slacks_verdict.ensures.1 in
    rw (p.1, p.2) (slack_below _ _ _ _ _ _ c.requires.tallied.0 c.in_ok-unmet_verdict.ensures (c.if-price_differs.false ∙ c.requires.tallied.1) _ c.in_err-slacks_verdict.ensures)

pub bound_of-shown-requires : goal.bound_of-shown-requires
bound_of-shown-requires c = (c.requires.reads.0, c.requires.reads.1, c.requires.reads.3, none_below _ _ (ap (λ (v : Verdict). v.number) (sym c.in_ok-slacks_verdict.ensures)))

pub returns-then-bound_differs : goal.returns-then-bound_differs
returns-then-bound_differs c =
    let differs = bound_differs _ _ _ _ _ _ c.requires.tallied.0 c.in_ok-unmet_verdict.ensures (c.if-price_differs.false ∙ c.requires.tallied.1) c.in_ok-slacks_verdict.ensures c.bound_of-shown.ensures (λ e. c.if-bound_differs.true (e ∙ sym c.requires.tallied.1)) in
    grind (arith, differs)

pub returns : goal.returns
returns c = all_certified _ _ _ _ _ _ c.requires.tallied.0 c.in_ok-unmet_verdict.ensures (c.if-price_differs.false ∙ c.requires.tallied.1) c.in_ok-slacks_verdict.ensures c.bound_of-shown.ensures (c.if-bound_differs.false ∙ c.requires.tallied.1)
