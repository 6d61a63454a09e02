-- `checker::check::paths_verdict` reads the paths, and where nothing is refused of them tests the certificate.
use Rattle.std.proofs.Common.{refl, sym, ap, ◌∙◌}
use Rattle.std.proofs.lemmas.Result.{err_from_is_err_and}
use Rattle.forms.specs.declared.Answer.{Answer}
use Rattle.forms.proofs.LayoutLaws.{header_inside}
use Rattle.forms.proofs.ThenLaws.{then_err, then_ok}
use Rattle.checker.proofs.AnswerLaws.{paths_then}
use Rattle.checker.proofs.check.paths_verdict.Goals as goal

pub of-answer-requires : goal.of-answer-requires
of-answer-requires c = header_inside _ _ c.requires.1.long

pub read_paths-requires : goal.read_paths-requires
read_paths-requires c =
    record {
      reads = (c.requires.0, c.first_arcs-first.ensures, c.roles-roles.ensures, c.requires.1.long, ap (λ (a : Answer). a.paths) c.of-answer.ensures);
      nothing_tallied = c.none-tallies.ensures;
    }

pub returns-in_err-read_paths : goal.returns-in_err-read_paths
returns-in_err-read_paths c =
    let p = err_from_is_err_and c.from_residual.result c.from_residual.ensures.1 in
    let read = c.in_err-read_paths.ensures in
    rw (p.1, p.2) (then_err _ _ read.verdict ∙ sym (paths_then _ _ _ _ _ _ _))

pub certificate_verdict-requires : goal.certificate_verdict-requires
certificate_verdict-requires c =
    let read = c.in_ok-read_paths.ensures in
    record {
      reads = (c.requires.0, c.first_arcs-first.ensures, c.roles-roles.ensures, c.requires.1);
      tallied = (read.tallied refl, ap (λ (a : Answer). a.price) c.of-answer.ensures);
    }

pub returns : goal.returns
returns c =
    let read = c.in_ok-read_paths.ensures in
    then_ok read.verdict c.certificate_verdict.ensures ∙ sym (paths_then _ _ _ _ _ _ _)
