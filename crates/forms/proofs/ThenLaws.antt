-- One part of a form after the other: the first refusal decides.
use Rattle.std.proofs.Common.{ℕ, ◌-◌, ◌<◌, ◌≡◌, refl, sym, ap, ap₂, ◌∙◌, arith, List, eq-eqb, ne_eqb}
use Rattle.forms.specs.declared.Verdict.{Verdict}
use Rattle.forms.specs.declared.refusals.Fault.{Fault}
use Rattle.forms.specs.declared.refusals.Fault.TheVariants.{GraphLength, GraphVersion, GraphCount, GraphNumber, GraphEnd, Arc, Read, OnNoPath, OutputShort, AnswerLength, AnswerVersion, PathCount, Mark, AnswerEnd, Path, Weight, Order, Unmet, Price, Slack, Bound, NoSuchPath, ListingShort, ListLengths, ExonLength, ExonDemand}
use Rattle.forms.specs.declared.refusals.Refused.{Refused}
use Rattle.forms.specs.GraphFaults.{refusal, nothing_refused, then, first_fault, reads_verdict}
use Rattle.forms.specs.Refusals.{number_of}
use Rattle.forms.proofs.Scan.{scan_stops}

pub then_refused : {x v : Verdict} (after : Verdict) → x ≡ v → (x.number ≡ 0 → ⊥) → x ≡ then v after
unfolding then
then_refused {x} {v} after e wrong = e ∙ simp (ne_eqb v.number 0 (λ z. wrong (ap (λ (w : Verdict). w.number) e ∙ z)))

pub then_passed : {x v after r : Verdict} → x ≡ v → x.number ≡ 0 → r ≡ after → r ≡ then v after
unfolding then
then_passed {x} {v} e right q = q ∙ simp (eq-eqb v.number 0 (sym (ap (λ (w : Verdict). w.number) e) ∙ right))

-- no reason has number 0, so a call that refuses does not answer 0
pub number_positive : (f : Fault) → number_of f ≡ 0 → ⊥
number_positive GraphLength e = absurd (omega (arith, e))
number_positive GraphVersion e = absurd (omega (arith, e))
number_positive GraphCount e = absurd (omega (arith, e))
number_positive GraphNumber e = absurd (omega (arith, e))
number_positive GraphEnd e = absurd (omega (arith, e))
number_positive Arc e = absurd (omega (arith, e))
number_positive Read e = absurd (omega (arith, e))
number_positive OnNoPath e = absurd (omega (arith, e))
number_positive OutputShort e = absurd (omega (arith, e))
number_positive AnswerLength e = absurd (omega (arith, e))
number_positive AnswerVersion e = absurd (omega (arith, e))
number_positive PathCount e = absurd (omega (arith, e))
number_positive Mark e = absurd (omega (arith, e))
number_positive AnswerEnd e = absurd (omega (arith, e))
number_positive Path e = absurd (omega (arith, e))
number_positive Weight e = absurd (omega (arith, e))
number_positive Order e = absurd (omega (arith, e))
number_positive Unmet e = absurd (omega (arith, e))
number_positive Price e = absurd (omega (arith, e))
number_positive Slack e = absurd (omega (arith, e))
number_positive Bound e = absurd (omega (arith, e))
number_positive NoSuchPath e = absurd (omega (arith, e))
number_positive ListingShort e = absurd (omega (arith, e))
number_positive ListLengths e = absurd (omega (arith, e))
number_positive ExonLength e = absurd (omega (arith, e))
number_positive ExonDemand e = absurd (omega (arith, e))

-- A refusal made of the fault of record i, at its place: the records before i were right, so it decides.
pub refused_at : (fault place : ℕ → ℕ) (n i : ℕ) {r : Refused} {f : Fault} {at : ℕ} → (r.fault ≡ f) × (r.place ≡ at) → first_fault fault place n 0 ≡ first_fault fault place (n - i) i → i < n
    → number_of f ≡ fault i → at ≡ place i → refusal (number_of r.fault) r.place ≡ first_fault fault place n 0
refused_at fault place n i {r} made inv h e p =
    scan_stops fault place n i (number_of r.fault) r.place inv h (ap number_of made.0 ∙ e) (number_positive r.fault) (made.1 ∙ p)

-- what a `?` hands on: the refusal of the first part decides
pub then_err : (e : Refused) {v : Verdict} (after : Verdict) → refusal (number_of e.fault) e.place ≡ v → refusal (number_of e.fault) e.place ≡ then v after
then_err e after q = then_refused after q (number_positive e.fault)

-- and behind a `?` the rest decides
pub then_ok : {v after r : Verdict} → nothing_refused ≡ v → r ≡ after → r ≡ then v after
then_ok e q = then_passed e refl q

-- the verdict on as many records as were counted
pub counted : (fault place : ℕ → ℕ) {x : Verdict} {m n : ℕ} → x ≡ first_fault fault place m 0 → m ≡ n → x ≡ first_fault fault place n 0
counted fault place e q = e ∙ ap (λ k. first_fault fault place k 0) q

-- the verdict on as many reads as were counted, from where they begin
pub reads_counted : (s : List ℕ) {x : Verdict} {k n at from : ℕ} → x ≡ reads_verdict s k at → k ≡ n → at ≡ from → x ≡ reads_verdict s n from
reads_counted s e q f = e ∙ ap₂ (reads_verdict s) q f
