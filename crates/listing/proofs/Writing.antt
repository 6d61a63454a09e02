-- What a call that lists has promised: the text at the front of the lent output, every byte behind it kept, how many bytes were written, and 29 where the output
-- is shorter than the text.
use Rattle.std.proofs.Common.{ℕ, ◌≤◌, ◌<◌, ◌≡◌, refl, sym, ap, ap₂, ◌∙◌, List, length, Result, Ok, Err, arith, lt-ltb, le-ltb, le-leb, eq-eqb, ne_eqb}
use Rattle.std.specs.Result.{result_unwrap_or}
use borrow.Author.Tests.{lt-leb}
use Rattle.forms.specs.declared.refusals.Fault.TheVariants.{ListingShort, GraphLength, AnswerLength}
use Rattle.forms.specs.declared.refusals.Refused.{Refused}
use Rattle.forms.specs.Refusals.{number_of, verdict_of, value_of}
use Rattle.forms.proofs.ThenLaws.{number_positive}
use Rattle.forms.proofs.ResultLaws.{same_count}
use Rattle.forms.specs.declared.Verdict.{Verdict}
use Rattle.forms.specs.GraphFaults.{refusal, nothing_refused, graph_verdict}
use Rattle.checker.specs.Check.{check_verdict}
use Rattle.text.specs.Text.{TextFits, Puts, Writes}
use Rattle.text.proofs.Writing.{written_whole, written_nothing, writes_once}
use Rattle.listing.specs.Lines.{refused_line}
use Rattle.listing.specs.Listing.{cover_listing, listing_of, longest_input, inputs_listing, listed_verdict, fitted, Listed, listed_of, Lists}

-- the lent output is shorter than the text
pub lists_nothing : (out text : List ℕ) {e : Refused} → length out < length text → (e.fault ≡ ListingShort) × (e.place ≡ 0) → Lists out text out (listed_of (Err e))
unfolding listed_verdict fitted
lists_nothing out text {e} h is =
    record {
      verdict = simp (lt-ltb _ _ h) (ap₂ refusal (ap number_of is.0) is.1);
      writes = simp (lt-ltb _ _ h) (written_nothing out);
    }

-- it is not, and the text was stored from its front on
pub lists_text : {out text after : List ℕ} {r : ℕ} → TextFits out 0 text → Puts out 0 text after r → Lists out text after (listed_of (Ok r))
unfolding listed_verdict fitted
lists_text {out} {text} h p =
    let l : length text ≤ length out = omega arith in
    record { verdict = simp (le-ltb _ _ l); writes = simp (le-ltb _ _ l) (written_whole h p) }

-- an output that is not shorter than the text takes it whole, and nothing is refused
pub listed_whole : {before text after : List ℕ} {r : Listed} → length text ≤ length before → Lists before text after r →
    (refusal r.number r.place ≡ nothing_refused) × Writes before text after r.written
unfolding listed_verdict fitted
listed_whole {before} {text} h l = (simp (le-ltb _ _ h) at l.verdict, simp (le-ltb _ _ h) at l.writes)

-- any two results that the promise allows are equal
pub lists_once : {before text a b : List ℕ} {q r : Result ℕ Refused} → Lists before text a (listed_of q) → Lists before text b (listed_of r) → (a ≡ b) × (q ≡ r)
lists_once {q = q} {r = r} x y =
    let w = writes_once x.writes y.writes in
    (w.0, same_count q r (sym (listed_verdict_of q) ∙ x.verdict ∙ sym y.verdict ∙ listed_verdict_of r) (sym (listed_value_of q) ∙ w.1 ∙ listed_value_of r))
  where
    listed_verdict_of : (r : Result ℕ Refused) → refusal (listed_of r).number (listed_of r).place ≡ verdict_of r
    listed_verdict_of (Ok n) = refl
    listed_verdict_of (Err e) = refl

    listed_value_of : (r : Result ℕ Refused) → (listed_of r).written ≡ value_of r
    listed_value_of (Ok n) = refl
    listed_value_of (Err e) = refl

-- and by number, place and count, as `Lists` tells them
pub listed_once : {before text a b : List ℕ} {q r : Listed} → Lists before text a q → Lists before text b r → (a ≡ b) × (q ≡ r)
listed_once {q = q} {r = r} x y =
    let v = x.verdict ∙ sym y.verdict in
    let w = writes_once x.writes y.writes in (
      w.0,
      ap (λ (u : Verdict). answered u.number u.place q.written) v ∙ ap (answered r.number r.place) w.1,
    )
  where
    answered : ℕ → ℕ → ℕ → Listed
    answered n p w = record { number = n; place = p; written = w }

-- how many bytes such a call wrote, where a refusal counts as none
pub written_of : (r : Result ℕ Refused) {n : ℕ} → n ≡ result_unwrap_or r 0 → n ≡ (listed_of r).written
written_of (Ok m) e = e
written_of (Err w) e = e

-- a text that was listed, by its definition
pub lists_as : {before text text' after : List ℕ} {r : Listed} → text ≡ text' → Lists before text' after r → Lists before text after r
lists_as e l = rw e l

-- the listing of an answer that is refused, and of one that is accepted
pub listing_refused : (s t : List ℕ) (e : Refused) → refusal (number_of e.fault) e.place ≡ check_verdict s t → listing_of s t ≡ refused_line (number_of e.fault) e.place
unfolding listing_of
listing_refused s t e h = rw (← h) (simp (ne_eqb _ _ (number_positive e.fault)))

pub listing_accepted : (s t : List ℕ) → (check_verdict s t).number ≡ 0 → listing_of s t ≡ cover_listing s t
unfolding listing_of
listing_accepted s t e = simp (eq-eqb _ _ e)

-- the listing of inputs of any length
pub inputs_long_graph : (s t : List ℕ) {e : Refused} → longest_input < length s → (e.fault ≡ GraphLength) × (e.place ≡ 0) →
    inputs_listing s t ≡ refused_line (number_of e.fault) e.place
unfolding inputs_listing
inputs_long_graph s t l is = rw (is.0, is.1) (simp (lt-ltb _ _ l))

module _ (s t : List ℕ) (short : length s ≤ longest_input) where
  pub inputs_short : length t ≤ longest_input → inputs_listing s t ≡ listing_of s t
  unfolding inputs_listing
  inputs_short l = simp (le-ltb _ _ short, le-leb _ _ l)

  module _ (long : longest_input < length t) where
    pub inputs_long_answer : {e : Refused} → nothing_refused ≡ graph_verdict s → (e.fault ≡ AnswerLength) × (e.place ≡ 0) →
        inputs_listing s t ≡ refused_line (number_of e.fault) e.place
    unfolding inputs_listing
    inputs_long_answer h is = rw (is.0, is.1) (simp (le-ltb _ _ short, lt-leb _ _ long, ← h))

    pub inputs_bad_graph : (e : Refused) → refusal (number_of e.fault) e.place ≡ graph_verdict s → inputs_listing s t ≡ refused_line (number_of e.fault) e.place
    unfolding inputs_listing
    inputs_bad_graph e h = simp (le-ltb _ _ short, lt-leb _ _ long, ← h, ne_eqb _ _ (number_positive e.fault))
