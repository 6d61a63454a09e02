-- `checker::reader::arcs_then_reads` meets its contract: where no arc is refused the arcs are right, and the table is made for the reads.
use Rattle.std.proofs.Common.{sym, ap, arith, rules}
use Rattle.std.proofs.lemmas.Result.{err_from_is_err_and}
use Rattle.forms.specs.declared.Verdict.{Verdict}
use Rattle.forms.proofs.RightLaws.{arcs_hold}
use Rattle.forms.proofs.ThenLaws.{then_err, then_ok, counted, reads_counted}
use Rattle.checker.proofs.RecordLaws.{arc_place_lem}
use Rattle.checker.proofs.reader.arcs_then_reads.Goals as goal

pub returns-in_err-arcs_verdict : goal.returns-in_err-arcs_verdict
returns-in_err-arcs_verdict c =
    let p = err_from_is_err_and c.from_residual.result c.from_residual.ensures.1 in
    rw (p.1, p.2) (then_err _ _ (counted _ _ c.in_err-arcs_verdict.ensures c.requires.2))

pub first_arcs-first-requires : goal.first_arcs-first-requires
first_arcs-first-requires c = arcs_hold _ c.requires.0 (ap (λ (v : Verdict). v.number) (sym (counted _ _ c.in_ok-arcs_verdict.ensures c.requires.2)))

pub reads_verdict-requires : goal.reads_verdict-requires
reads_verdict-requires c = (search rules, omega (arith, c.first_read_at.ensures, arc_place_lem _ _ c.requires.0.vertices_room c.requires.0.arcs_room))

pub returns : goal.returns
returns c = then_ok (counted _ _ c.in_ok-arcs_verdict.ensures c.requires.2) (reads_counted _ c.reads_verdict.ensures c.requires.3 c.first_read_at.ensures)
