-- `checker::check::hand_out_verdict` gives the check's refusal, and 23 after it.
use Rattle.std.proofs.Common.{sym, ap, rules}
use Rattle.std.proofs.lemmas.Result.{err_from_is_err_and}
use Rattle.forms.specs.declared.Verdict.{Verdict}
use Rattle.forms.specs.GraphFaults.{then}
use Rattle.forms.proofs.ThenLaws.{then_err, then_ok}
use Rattle.checker.specs.Check.{hand_out_verdict}
use Rattle.checker.proofs.Accepted.{number_zero_accepted}
use Rattle.checker.proofs.AnswerLaws.{count_stands}
use Rattle.checker.proofs.CertifyLawsHandOut.{no_such_path, such_path}
use Rattle.checker.proofs.check.hand_out_verdict.Goals as goal

pub returns-in_err-check : goal.returns-in_err-check
unfolding hand_out_verdict then
returns-in_err-check c =
    let p = err_from_is_err_and c.from_residual.result c.from_residual.ensures.1 in
    rw (p.1, p.2) (then_err _ _ c.in_err-check.ensures)

pub path_count-requires : goal.path_count-requires
path_count-requires c = count_stands c.args.graph.now _ (number_zero_accepted _ _ (ap (λ (v : Verdict). v.number) (sym c.in_ok-check.ensures))).header.long

pub returns-then-path_count-k : goal.returns-then-path_count-k
unfolding hand_out_verdict then
returns-then-path_count-k c = then_ok c.in_ok-check.ensures (rw (c.new.ensures.0, c.new.ensures.1) (no_such_path _ _ _ c.path_count.ensures.value (search rules)))

pub returns : goal.returns
unfolding hand_out_verdict then
returns c = then_ok c.in_ok-check.ensures (such_path _ _ _ c.path_count.ensures.value (search rules))
