-- What `assemble` lists, one law for each way through it.
use Prim.Native.Nat.{ℕ, ◌≤◌, ◌<◌}
use native.Mathlib.Omega.{arith}
use mathlib.Core.Path.{◌≡◌, ap, ◌∙◌}
use mathlib.Core.List.{List, []}
use mathlib.Core.Logic.{◌≢◌}
use lib.ListN.{length, take}
use borrow.Author.Tests.{eq-eqb, ne_eqb}
use Rattle.forms.specs.declared.Verdict.{Verdict}
use Rattle.forms.specs.GraphFaults.{refusal}
use Rattle.builder.specs.Build.{Built, BuildPromise}
use Rattle.listing.specs.Lines.{refused_line}
use Rattle.listing.specs.Listing.{listing_of, longest_input, answer_lent, input_verdict, longest_listing, Listed, Lists}
use Rattle.listing.proofs.Writing.{listed_whole}
use Rattle.listing.proofs.Longest.{refused_few, listing_few}
use Rattle.listing.proofs.Inputs.{input_too_long, input_built}
use Rattle.assemble.specs.Assemble.{assembled_listing, Assembled}

-- a refusal is listed
refuses : {s before after : List ℕ} {r : Listed} (v : Verdict) → v ≡ input_verdict s → v.number ≢ 0 → length before ≡ longest_listing →
    Lists before (refused_line v.number v.place) after r → Assembled s before after r.written
unfolding assembled_listing
refuses v e n long l =
    record {
      answer = [];
      accepted = λ z. absurd (n (ap (λ (u : Verdict). u.number) e ∙ z));
      writes = rw (← e) (simp (ne_eqb _ _ n) (listed_whole (omega (arith, refused_few v.number v.place)) l).1);
    }

-- the graph is too long
pub lists_too_long : {s before after : List ℕ} {number : ℕ} {r : Listed} → length before ≡ longest_listing → longest_input < length s → number ≡ 1 → Lists before (refused_line number 0) after r →
    Assembled s before after r.written
lists_too_long {s} long h is_one l = refuses (refusal 1 0) (input_too_long s h) (λ e. absurd (omega arith)) long (rw is_one at l)

module _ {s lent held : List ℕ} {b : Built} (short : length s ≤ longest_input) (asked : length lent ≡ answer_lent) (p : BuildPromise s lent held b) where
  verdict : refusal b.number b.place ≡ input_verdict s
  verdict = input_built s short asked p.verdict

  -- the builder refuses it
  pub lists_refused : {before after : List ℕ} {number place : ℕ} {r : Listed} → length before ≡ longest_listing → b.number ≢ 0 →
      Lists before (refused_line number place) after r → number ≡ b.number → place ≡ b.place → Assembled s before after r.written
  lists_refused long n l same_number same_place = refuses (refusal b.number b.place) verdict n long (rw (same_number, same_place) at l)

  -- an answer form was built
  pub lists_built : {before after : List ℕ} {r : Listed} → length before ≡ longest_listing → b.number ≡ 0 →
      Lists before (listing_of s (take b.written held)) after r → Assembled s before after r.written
  unfolding assembled_listing
  lists_built long z l =
      record {
        answer = take b.written held;
        accepted = λ _. p.accepted z;
        writes = rw (← verdict) (simp (eq-eqb _ _ z) (listed_whole (omega (arith, listing_few s (take b.written held))) l).1);
      }
