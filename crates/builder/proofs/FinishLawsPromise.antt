-- The builder's promise, way by way through the call: the graph does not read (1 to 7), an item lies on no path (8), there is too little room (9), or an
-- answer is written.
use Prim.Native.Nat.{ℕ, ◌≤◌}
use native.Mathlib.Decide.{ℕ_discrete, dec_lt}
use native.Mathlib.Omega.{arith}
use mathlib.Core.Path.{◌≡◌, refl, sym, ap, ◌∙◌}
use mathlib.Core.List.{List}
use mathlib.Core.Bool.{cond}
use borrow.Author.Tests.{lt-ltb}
use lib.Dec.{ltb}
use lib.ListN.{length}
use Rattle.mathematics.specs.Exists.{Coverable}
use Rattle.std.specs.Prelude.{Ok, Err}
use Rattle.forms.specs.declared.Verdict.{Verdict}
use Rattle.forms.specs.declared.refusals.Refused.{Refused}
use Rattle.forms.specs.Refusals.{number_of}
use Rattle.forms.specs.GraphOf.{graph_of}
use Rattle.forms.specs.GraphReads.{Reads}
use Rattle.forms.specs.GraphFaults.{refusal, nothing_refused, then, graph_verdict}
use Rattle.checker.proofs.GraphReads.{number_zero_iff_reads}
use Rattle.forms.proofs.GraphFacts.{graph_well_formed}
use Rattle.forms.proofs.ThenLaws.{then_refused, then_passed, number_positive}
use Rattle.forms.specs.BuildFaults.{room_asked, build_verdict}
use Rattle.builder.specs.Build.{BuildPromise, built_of}
use Rattle.reach.specs.Reached.{lie_verdict}
use Rattle.builder.specs.Finish.{Answered}
use Rattle.forms.specs.Layout.{longest_answer}
use Rattle.builder.proofs.Coverable.{lacking_then_room, none_lacking_iff_coverable}
use Rattle.builder.proofs.Lowest.{verdict_of_read, verdict_of_unread}

-- nothing written, nothing changed
refused_so : (s out : List ℕ) (e : Refused) → refusal (number_of e.fault) e.place ≡ build_verdict s (length out) → BuildPromise s out out (built_of (Err e))
refused_so s out e same =
    record {
      verdict = same;
      refused = λ _. (refl, refl);
      accepted = λ z. absurd (number_positive e.fault z);
      fits = omega arith;
      behind = refl;
      same_length = refl;
    }

module _ (s out : List ℕ) where
  -- the graph does not read
  pub promise_unread : (e : Refused) → refusal (number_of e.fault) e.place ≡ graph_verdict s → BuildPromise s out out (built_of (Err e))
  promise_unread e same =
      refused_so s out e (same ∙ sym (verdict_of_unread s (length out) (λ z. number_positive e.fault (ap (λ (x : Verdict). x.number) same ∙ z))))

  module _ (read : nothing_refused ≡ graph_verdict s) where
    pub graph_reads : (graph_verdict s).number ≡ 0
    graph_reads = sym (ap (λ (x : Verdict). x.number) read)

    pub reads_then : Reads s
    reads_then = (number_zero_iff_reads s).0 graph_reads

    -- an item lies on no path, or else the room is too small
    abbrev then_room : Verdict
    then_room = then (lie_verdict (graph_of s) nothing_refused) (cond (ltb (length out) (room_asked s)) (refusal 9 0) nothing_refused)

    verdict_is : build_verdict s (length out) ≡ then_room
    verdict_is = verdict_of_read s (length out) graph_reads ∙ lacking_then_room s (length out)

    pub promise_refused : (e : Refused) → refusal (number_of e.fault) e.place ≡ then_room → BuildPromise s out out (built_of (Err e))
    promise_refused e same = refused_so s out e (same ∙ sym verdict_is)

    module _ (none : nothing_refused ≡ then_room) where
      none_lacking : (lie_verdict (graph_of s) nothing_refused).number ≡ 0
      none_lacking =
          elim (ℕ_discrete (lie_verdict (graph_of s) nothing_refused).number 0) [
            | yes e ↦ e
            | no n ↦ ap (λ (x : Verdict). x.number) (then_refused _ refl n ∙ sym none)
          ]

      pub coverable_then : Coverable (graph_of s)
      coverable_then = (none_lacking_iff_coverable s (graph_well_formed s reads_then)).0 none_lacking

      room_decides : nothing_refused ≡ cond (ltb (length out) (room_asked s)) (refusal 9 0) nothing_refused
      room_decides = none ∙ sym (then_passed refl none_lacking refl)

      pub room_then : longest_answer s ≤ length out
      room_then =
          elim (dec_lt (length out) (room_asked s)) [
            | yes l ↦
                let e : ◌≡◌ {A = ℕ} 0 9 = ap (λ (x : Verdict). x.number) (room_decides ∙ ap (λ b. cond b (refusal 9 0) nothing_refused) (lt-ltb (length out) (room_asked s) l)) in
                absurd (omega arith)
            | no l ↦ omega arith
          ]

      pub promise_built : {after : List ℕ} {r : ℕ} → Answered s out after r → BuildPromise s out after (built_of (Ok r))
      promise_built A =
          record {
            verdict = none ∙ sym verdict_is;
            refused = λ n. absurd (n refl);
            accepted = λ _. A.accepted;
            fits = A.fits;
            behind = A.behind;
            same_length = A.same_length;
          }
