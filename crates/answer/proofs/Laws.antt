-- What `answer` writes, one law for each way through it.
use Prim.Native.Nat.{ℕ, ◌≤◌, ◌<◌}
use native.Mathlib.Omega.{arith}
use mathlib.Core.Path.{◌≡◌, refl, ap, sym, ◌∙◌}
use mathlib.Core.List.{List, [], ◌++◌}
use mathlib.Core.Logic.{◌≢◌}
use lib.ListN.{length, take, take-append-drop}
use lib.Seq.{length-take-le}
use borrow.Author.Tests.{eq-eqb, ne_eqb}
use Rattle.forms.specs.declared.Verdict.{Verdict}
use Rattle.forms.specs.GraphFaults.{refusal}
use Rattle.builder.specs.Build.{Built, BuildPromise}
use Rattle.text.proofs.Writing.{written_nothing}
use Rattle.listing.specs.Lines.{refused_line}
use Rattle.listing.specs.Listing.{longest_input, answer_lent, input_verdict, longest_listing, Listed, Lists}
use Rattle.listing.proofs.Writing.{listed_whole}
use Rattle.listing.proofs.Longest.{refused_few}
use Rattle.listing.proofs.Inputs.{input_too_long, input_built}
use Rattle.answer.specs.Answered.{line_of, Answered}

-- a refusal: nothing for standard output, and its line for standard error
refuses : {s out err err' : List ℕ} {r : Listed} (v : Verdict) → v ≡ input_verdict s → v.number ≢ 0 → length err ≡ longest_listing →
    Lists err (refused_line v.number v.place) err' r → Answered s out out err err' (record { form = 0; line = r.written })
unfolding line_of
refuses {out = out} v e n long l =
    record {
      form = [];
      accepted = λ z. absurd (n (ap (λ (u : Verdict). u.number) e ∙ z));
      refused = λ _. refl;
      writes_form = written_nothing out;
      writes_line = rw (← e) (simp (ne_eqb _ _ n) (listed_whole (omega (arith, refused_few v.number v.place)) l).1);
    }

-- the graph is too long
pub refuses_long : {s out err err' : List ℕ} {number : ℕ} {r : Listed} → longest_input < length s → length err ≡ longest_listing → number ≡ 1 → Lists err (refused_line number 0) err' r →
    Answered s out out err err' (record { form = 0; line = r.written })
refuses_long {s} h long is_one l = refuses (refusal 1 0) (input_too_long s h) (λ e. absurd (omega arith)) long (rw is_one at l)

module _ {s out out' : List ℕ} {b : Built} (short : length s ≤ longest_input) (lent : length out ≡ answer_lent) (p : BuildPromise s out out' b) where
  verdict : refusal b.number b.place ≡ input_verdict s
  verdict = input_built s short lent p.verdict

  -- the builder refuses it
  pub refuses_built : {err err' : List ℕ} {number place : ℕ} {r : Listed} → b.number ≢ 0 → length err ≡ longest_listing → Lists err (refused_line number place) err' r →
      number ≡ b.number → place ≡ b.place → Answered s out out' err err' (record { form = 0; line = r.written })
  refuses_built n long l same_number same_place =
      rw (p.refused n).1 (refuses (refusal b.number b.place) verdict n long (rw (same_number, same_place) at l))

  -- an answer form was built
  pub answers : {err : List ℕ} → b.number ≡ 0 → Answered s out out' err err (record { form = b.written; line = 0 })
  unfolding line_of
  answers {err} z =
      record {
        form = take b.written out';
        accepted = λ _. p.accepted z;
        refused = λ n. absurd (n (ap (λ (u : Verdict). u.number) (sym verdict) ∙ z));
        writes_form =
            record {
              bytes = sym (take-append-drop b.written out') ∙ ap (λ l. take b.written out' ++ l) p.behind;
              counted = sym (length-take-le b.written out' (omega (arith, p.fits, p.same_length)));
            };
        writes_line = rw (← verdict) (simp (eq-eqb _ _ z) (written_nothing err));
      }
