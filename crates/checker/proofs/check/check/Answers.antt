-- `checker::check::check` reads the graph, and where nothing is refused of it, judges the answer beside it.
use Rattle.std.proofs.Common.{sym, ap}
use Rattle.std.proofs.lemmas.Result.{err_from_is_err_and}
use Rattle.forms.specs.declared.Verdict.{Verdict}
use Rattle.forms.specs.GraphFaults.{then}
use Rattle.forms.proofs.ThenLaws.{then_err, then_ok}
use Rattle.checker.specs.Check.{check_verdict}
use Rattle.checker.proofs.GraphReads.{number_zero_iff_reads}
use Rattle.checker.proofs.check.check.Goals as goal

pub returns-in_err-read_graph : goal.returns-in_err-read_graph
unfolding check_verdict then
returns-in_err-read_graph c =
    let p = err_from_is_err_and c.from_residual.result c.from_residual.ensures.1 in
    rw (p.1, p.2) (then_err _ _ c.in_err-read_graph.ensures)

pub answer_verdict-requires : goal.answer_verdict-requires
answer_verdict-requires c = (number_zero_iff_reads _).0 (ap (λ (v : Verdict). v.number) (sym c.in_ok-read_graph.ensures))

pub returns : goal.returns
unfolding check_verdict then
returns c = then_ok c.in_ok-read_graph.ensures c.answer_verdict.ensures
