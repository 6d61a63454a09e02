-- "Show that any two results allowed by a promise are equal", with "the builder's choice among lowest-price covers, and of marks" as the exception.
use Prim.Native.Nat.{ℕ, ◌≤◌}
use native.Mathlib.Omega.{arith}
use mathlib.Core.Path.{◌≡◌, sym, ap, ◌∙◌}
use mathlib.Core.List.{List}
use mathlib.Core.Logic.{◌⊎◌, inl, inr, ◌≢◌}
use lib.IntN.{nat_abs}
use lib.ListN.{length, take}
use Rattle.std.specs.Prelude.{Result}
use Rattle.mathematics.specs.Price.{whole}
use Rattle.mathematics.proofs.PriceKinds.{whole_ordered}
use Rattle.mathematics.proofs.Lowest.{lowest_prices_equal}
use Rattle.forms.specs.declared.Verdict.{Verdict}
use Rattle.forms.specs.GraphOf.{graph_of}
use Rattle.forms.specs.GraphFaults.{graph_verdict}
use Rattle.forms.specs.AnswerForm.{cover_of}
use Rattle.forms.proofs.GraphFacts.{graph_well_formed}
use Rattle.checker.proofs.GraphReads.{number_zero_iff_reads, number_to_seven}
use Rattle.forms.specs.declared.refusals.Refused.{Refused}
use Rattle.forms.specs.Refusals.{verdict_of}
use Rattle.forms.proofs.ResultLaws.{same_result}
use Rattle.builder.specs.Build.{Built, BuildPromise, built_of}
use Rattle.builder.specs.Results.{Alike}
use Rattle.network.proofs.NetworkLaws.{same_or_not}
use Rattle.builder.proofs.Coverable.{cover_number, cover_place_zero}
use Rattle.builder.proofs.Lowest.{verdict_of_read, verdict_of_unread, written_is_lowest}

-- Any two results that the promise allows are alike.
pub built_twice : (s before after after' : List ℕ) (r r' : Built) → BuildPromise s before after r → BuildPromise s before after' r' → Alike s after after' r r'
built_twice s before after after' r r' P Q =
    record {
      same_number = number;
      same_place = ap (λ (v : Verdict). v.place) same;
      same_refused = λ n.
          let a = P.refused n in
          let b = Q.refused (λ z. n (number ∙ z)) in
          (a.0 ∙ sym b.0, a.1 ∙ sym b.1);
      both_accepted = λ e. (P.accepted e, Q.accepted (sym number ∙ e));
      price_is_same = λ e.
          let a = written_is_lowest s before after r P e in
          let b = written_is_lowest s before after' r' Q (sym number ∙ e) in
          ap nat_abs
          (sym a.price_stated ∙
          (lowest_prices_equal whole whole_ordered (graph_of s) (cover_of s (take r.written after)) (cover_of s (take r'.written after'))
          a.lowest b.lowest ∙ b.price_stated));
    }
  where
    same : Rattle.forms.specs.GraphFaults.refusal r.number r.place ≡ Rattle.forms.specs.GraphFaults.refusal r'.number r'.place
    same = P.verdict ∙ sym Q.verdict

    number : r.number ≡ r'.number
    number = ap (λ (v : Verdict). v.number) same

-- Two answers of the call that are refusals are one answer.
pub refused_once : (s before after after' : List ℕ) (r r' : Result ℕ Refused) → BuildPromise s before after (built_of r) → BuildPromise s before after' (built_of r') → (verdict_of r).number ≢ 0 → r ≡ r'
refused_once s before after after' r r' P Q n =
    same_result r r' (P.verdict ∙ sym Q.verdict) (λ a a' p q. absurd (n (ap (λ (x : Result ℕ Refused). (verdict_of x).number) p)))

module _ (s before after : List ℕ) (r : Built) (P : BuildPromise s before after r) where
  -- The numbers that `build` can give are 0 and 1 to 9: those of the reader, 8 and 9.
  pub build_number : r.number ≤ 9
  build_number = by (same_or_not (graph_verdict s).number 0)
    where
      by : ((graph_verdict s).number ≡ 0) ⊎ ((graph_verdict s).number ≢ 0) → r.number ≤ 9
      by (inl reads) =
          let G = graph_well_formed s ((number_zero_iff_reads s).0 reads) in
          omega (arith, ap (λ (v : Verdict). v.number) (P.verdict ∙ verdict_of_read s (length before) reads), cover_number s G (length before))
      by (inr not) = omega (arith, ap (λ (v : Verdict). v.number) (P.verdict ∙ verdict_of_unread s (length before) not), number_to_seven s)

  -- "both are 0 where nothing is refused"
  pub build_place_zero : r.number ≡ 0 → r.place ≡ 0
  build_place_zero e = by (same_or_not (graph_verdict s).number 0)
    where
      by : ((graph_verdict s).number ≡ 0) ⊎ ((graph_verdict s).number ≢ 0) → r.place ≡ 0
      by (inl reads) =
          let same = P.verdict ∙ verdict_of_read s (length before) reads in
          let G = graph_well_formed s ((number_zero_iff_reads s).0 reads) in
          ap (λ (v : Verdict). v.place) same ∙ cover_place_zero s G (length before) (sym (ap (λ (v : Verdict). v.number) same) ∙ e)
      by (inr not) = absurd (not (sym (ap (λ (v : Verdict). v.number) (P.verdict ∙ verdict_of_unread s (length before) not)) ∙ e))
