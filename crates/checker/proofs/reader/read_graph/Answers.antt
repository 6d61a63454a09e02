-- `checker::reader::read_graph` meets its contract: header, vertices, arcs and reads, the first refusal deciding.
use Rattle.std.proofs.Common.{sym, ap, arith}
use Rattle.std.proofs.lemmas.Result.{err_from_is_err_and}
use Rattle.forms.specs.declared.Header.{Header}
use Rattle.forms.specs.declared.Verdict.{Verdict}
use Rattle.forms.specs.GraphFaults.{graph_verdict}
use Rattle.forms.proofs.RightLaws.{header_holds}
use Rattle.forms.proofs.ThenLaws.{then_err, then_ok, counted}
use Rattle.checker.proofs.reader.read_graph.Goals as goal

pub returns-in_err-header_verdict : goal.returns-in_err-header_verdict
unfolding graph_verdict
returns-in_err-header_verdict c =
    let p = err_from_is_err_and c.from_residual.result c.from_residual.ensures.1 in
    rw (p.1, p.2) (then_err _ _ c.in_err-header_verdict.ensures)

pub of-header-requires : goal.of-header-requires
of-header-requires c = (header_holds _ (ap (λ (v : Verdict). v.number) (sym c.in_ok-header_verdict.ensures))).long

pub vertices_verdict-requires : goal.vertices_verdict-requires
vertices_verdict-requires c = omega (arith, ap (λ (h : Header). h.vertices) c.of-header.ensures, (header_holds _ (ap (λ (v : Verdict). v.number) (sym c.in_ok-header_verdict.ensures))).vertices_room)

pub returns-in_err-vertices_verdict : goal.returns-in_err-vertices_verdict
unfolding graph_verdict
returns-in_err-vertices_verdict c =
    let p = err_from_is_err_and c.from_residual-in_err-vertices_verdict.result c.from_residual-in_err-vertices_verdict.ensures.1 in
    rw (p.1, p.2)
    (then_ok c.in_ok-header_verdict.ensures (then_err _ _ (counted _ _ c.in_err-vertices_verdict.ensures (ap (λ (h : Header). h.vertices) c.of-header.ensures))))

pub arcs_then_reads-requires : goal.arcs_then_reads-requires
arcs_then_reads-requires c =
    let of = c.of-header.ensures in (
      header_holds _ (ap (λ (v : Verdict). v.number) (sym c.in_ok-header_verdict.ensures)),
      ap (λ (h : Header). h.vertices) of,
      ap (λ (h : Header). h.arcs) of,
      ap (λ (h : Header). h.reads) of,
    )

pub returns : goal.returns
unfolding graph_verdict
returns c = then_ok c.in_ok-header_verdict.ensures (then_ok (counted _ _ c.in_ok-vertices_verdict.ensures (ap (λ (h : Header). h.vertices) c.of-header.ensures)) c.arcs_then_reads.ensures)
