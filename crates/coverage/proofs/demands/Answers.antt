-- `coverage::demands` keeps its promise: the lists, then the exons, then what is written. Assumes nothing.
use Rattle.std.proofs.Common.{sym, refl, ap₂, ◌∙◌, arith}
use Rattle.std.proofs.lemmas.Result.{err_from_is_err_and}
use Rattle.forms.specs.GraphFaults.{refusal, nothing_refused}
use Rattle.forms.specs.Refusals.{number_of}
use Rattle.coverage.proofs.DemandLaws.{same_lengths, exons_right, lists_refused, lists_right, refused, written}
use Rattle.coverage.proofs.demands.Goals as goal

pub returns-then-not-one_length : goal.returns-then-not-one_length
returns-then-not-one_length c =
    refused _ _ _ c.new.result
    (ap₂ (λ f at. refusal (number_of f) at) c.new.ensures.0 c.new.ensures.1 ∙ lists_refused _ _ _ (sym c.if-not-one_length.ensures))

pub exons_verdict-requires : goal.exons_verdict-requires
exons_verdict-requires c = omega (arith, (same_lengths _ _ _ (sym c.if-not-one_length.ensures)).0)

pub returns-in_err-exons_verdict : goal.returns-in_err-exons_verdict
returns-in_err-exons_verdict c =
    let p = err_from_is_err_and c.from_residual.result c.from_residual.ensures.1 in
    rw (p.1, p.2) (refused _ _ _ c.in_err-exons_verdict.field-0.0 (c.in_err-exons_verdict.ensures ∙ lists_right _ _ _ (sym c.if-not-one_length.ensures)))

pub write_demands-requires : goal.write_demands-requires
write_demands-requires c =
    let same = same_lengths _ _ _ (sym c.if-not-one_length.ensures) in
    (same.0, same.1, exons_right _ _ nothing_refused c.in_ok-exons_verdict.ensures refl)

pub returns : goal.returns
returns c = written _ _ _ _ (c.in_ok-exons_verdict.ensures ∙ lists_right _ _ _ (sym c.if-not-one_length.ensures)) c.write_demands.ensures
