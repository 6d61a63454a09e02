-- A result that holds a refusal is determined by the number and the place that it tells: no two reasons have one number, and none has 0.
use Rattle.std.proofs.Common.{◌≡◌, ℕ, cond, refl, sym, ap, ◌∙◌, eqb}
use Rattle.std.specs.Prelude.{Result, Ok, Err}
use Rattle.forms.specs.declared.Verdict.{Verdict}
use Rattle.forms.specs.declared.refusals.Fault.{Fault}
use Rattle.forms.specs.declared.refusals.Fault.TheVariants.{GraphLength, GraphVersion, GraphCount, GraphNumber, GraphEnd, Arc, Read, OnNoPath, OutputShort, AnswerLength, AnswerVersion, PathCount, Mark, AnswerEnd, Path, Weight, Order, Unmet, Price, Slack, Bound, NoSuchPath, ListingShort, ListLengths, ExonLength, ExonDemand}
use Rattle.forms.specs.declared.refusals.Refused.{Refused}
use Rattle.forms.specs.Refusals.{number_of, verdict_of, value_of}
use Rattle.forms.proofs.ThenLaws.{number_positive}

-- the reason that has a number
abbrev reason : ℕ → Fault
reason n =
    cond (eqb n 1) GraphLength
    (cond (eqb n 2) GraphVersion
    (cond (eqb n 3) GraphCount
    (cond (eqb n 4) GraphNumber
    (cond (eqb n 5) GraphEnd
    (cond (eqb n 6) Arc
    (cond (eqb n 7) Read
    (cond (eqb n 8) OnNoPath
    (cond (eqb n 9) OutputShort
    (cond (eqb n 11) AnswerLength
    (cond (eqb n 12) AnswerVersion
    (cond (eqb n 13) PathCount
    (cond (eqb n 14) Mark
    (cond (eqb n 15) AnswerEnd
    (cond (eqb n 16) Path
    (cond (eqb n 17) Weight
    (cond (eqb n 18) Order
    (cond (eqb n 19) Unmet
    (cond (eqb n 20) Price
    (cond (eqb n 21) Slack
    (cond (eqb n 22) Bound
    (cond (eqb n 23) NoSuchPath
    (cond (eqb n 29) ListingShort
    (cond (eqb n 30) ListLengths
    (cond (eqb n 32) ExonLength ExonDemand))))))))))))))))))))))))

reason_of : (f : Fault) → reason (number_of f) ≡ f
reason_of GraphLength = refl
reason_of GraphVersion = refl
reason_of GraphCount = refl
reason_of GraphNumber = refl
reason_of GraphEnd = refl
reason_of Arc = refl
reason_of Read = refl
reason_of OnNoPath = refl
reason_of OutputShort = refl
reason_of AnswerLength = refl
reason_of AnswerVersion = refl
reason_of PathCount = refl
reason_of Mark = refl
reason_of AnswerEnd = refl
reason_of Path = refl
reason_of Weight = refl
reason_of Order = refl
reason_of Unmet = refl
reason_of Price = refl
reason_of Slack = refl
reason_of Bound = refl
reason_of NoSuchPath = refl
reason_of ListingShort = refl
reason_of ListLengths = refl
reason_of ExonLength = refl
reason_of ExonDemand = refl

same_refusal : (d d' : Refused) → number_of d.fault ≡ number_of d'.fault → d.place ≡ d'.place → d ≡ d'
same_refusal d d' e places =
    let faults : d.fault ≡ d'.fault = sym (reason_of d.fault) ∙ ap reason e ∙ reason_of d'.fault in
    λ i. record { fault = faults i; place = places i }

-- two results that tell one verdict are equal, where those that hold no refusal hold the same
pub same_result : {A : Type 0} (r r' : Result A Refused) → verdict_of r ≡ verdict_of r' → ((a a' : A) → r ≡ Ok a → r' ≡ Ok a' → a ≡ a') → r ≡ r'
same_result (Ok a) (Ok a') e same = ap Ok (same a a' refl refl)
same_result (Ok a) (Err d) e same = absurd (number_positive d.fault (sym (ap (λ (v : Verdict). v.number) e)))
same_result (Err d) (Ok a) e same = absurd (number_positive d.fault (ap (λ (v : Verdict). v.number) e))
same_result (Err d) (Err d') e same = ap Err (same_refusal d d' (ap (λ (v : Verdict). v.number) e) (ap (λ (v : Verdict). v.place) e))

pub same_verdict : (r r' : Result (Unit {0}) Refused) → verdict_of r ≡ verdict_of r' → r ≡ r'
same_verdict r r' e = same_result r r' e (λ a a' p q. refl)

-- two that tell one verdict and one count
pub same_count : (r r' : Result ℕ Refused) → verdict_of r ≡ verdict_of r' → value_of r ≡ value_of r' → r ≡ r'
same_count r r' e counts = same_result r r' e (λ a a' p q. sym (ap value_of p) ∙ counts ∙ ap value_of q)
