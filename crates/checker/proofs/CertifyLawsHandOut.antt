-- The hand-out: the records of an accepted answer's paths lie within it, and a walk over them finds path k.
use Rattle.std.proofs.Common.{ℕ, zero, suc, ◌+◌, ◌-◌, ◌<◌, ◌≤◌, add-one, arith, ◌≡◌, refl, sym, ap, ◌∙◌, List, [], Bool, true, false, cond, ltb, length, drop, length-drop, length-take-le, lt-ltb, le-ltb, ltb-true, eq-eqb, ne_eqb}
use native.Mathlib.Nat.{sub-zero}
use Rattle.forms.specs.declared.Verdict.{Verdict}
use Rattle.forms.specs.AnswerForm.{path_count, first_path_at, path_length, path_vertices_at, path_end}
use Rattle.forms.specs.Bytes.{part}
use Rattle.forms.specs.GraphFaults.{refusal, nothing_refused}
use Rattle.forms.specs.Refusals.{number_of}
use Rattle.forms.specs.declared.refusals.Refused.{Refused}
use Rattle.forms.proofs.ThenLaws.{number_positive}
use Rattle.checker.specs.Check.{check_verdict, hand_out_verdict, path_at, handed_out, handed_out_at}
use Rattle.checker.specs.HandedOut.{PartFound}
use Rattle.checker.specs.Tallies.{PathsStand}
use Rattle.checker.specs.Accepted.{PathsRight, Accepted}
use Rattle.checker.proofs.Accepted.{earlier_first, number_zero_accepted}

-- Of k paths to pass i are passed, and the next one's record is at an offset.
pub record Passing (s t : List ℕ) (k from at i : ℕ) : Type 0 where
  pub stands : PathsStand s t (k - i + 1) at
  pub same : path_at s t (k - i) at ≡ path_at s t k from

first_stands : (s t : List ℕ) (left at : ℕ) → PathsStand s t (left + 1) at → (path_end s t at ≤ length t) × PathsStand s t left (path_end s t at)
first_stands s t left at p = rw (add-one left) at p

pub pass_begin : {s t : List ℕ} {k from : ℕ} → PathsStand s t (k + 1) from → Passing s t k from from 0
pass_begin p = record { stands = rw sub-zero p; same = simp sub-zero }

module _ {s t : List ℕ} {k from at i : ℕ} (p : Passing s t k from at i) where
  pub pass_within : path_end s t at ≤ length t
  pass_within = (first_stands s t (k - i) at p.stands).0

  pub pass_turn : {next : ℕ} → next ≡ path_end s t at → i < k → Passing s t k from next (i + 1)
  pass_turn e h =
      let split : k - i ≡ suc (k - (i + 1)) = omega arith in
      let more : k - (i + 1) + 1 ≡ k - i = omega arith in
      record {
        stands = rw (e, more) (first_stands s t (k - i) at p.stands).1;
        same = rw e (sym (ap (λ n. path_at s t n at) split) ∙ p.same);
      }

  pub pass_end : k ≤ i → (at ≡ path_at s t k from) × (path_end s t at ≤ length t)
  pass_end h =
      let none : k - i ≡ 0 = omega arith in
      (rw none at p.same, pass_within)

-- 23 after 22
module _ (t : List ℕ) (k n : ℕ) (counted : n ≡ path_count t) where
  pub no_such_path : n ≤ k → refusal 23 0 ≡ cond (ltb k (path_count t)) nothing_refused (refusal 23 0)
  no_such_path h = simp (le-ltb k (path_count t) (omega arith))

  pub such_path : k < n → nothing_refused ≡ cond (ltb k (path_count t)) nothing_refused (refusal 23 0)
  such_path h = simp (lt-ltb k (path_count t) (omega arith))

-- what is not refused is accepted, and has path k
pub record HasPath (s t : List ℕ) (k : ℕ) : Type 0 where
  pub accepted : Accepted s t
  pub below : k < path_count t

pub has_path : (s t : List ℕ) (k : ℕ) → (hand_out_verdict s t k).number ≡ 0 → HasPath s t k
unfolding hand_out_verdict
has_path s t k e =
    let h = earlier_first (check_verdict s t) (cond (ltb k (path_count t)) nothing_refused (refusal 23 0)) e in
    record { accepted = number_zero_accepted s t h.0; below = by (ltb k (path_count t)) refl h.1 }
  where
    by : (b : Bool) → ltb k (path_count t) ≡ b → (cond b nothing_refused (refusal 23 0)).number ≡ 0 → k < path_count t
    by true p q = ltb-true k (path_count t) p
    by false p q = absurd (omega arith)

paths_stand : (s t : List ℕ) (count at : ℕ) (before : List ℕ) (copies k : ℕ) → PathsRight s t count at before copies → k < count → PathsStand s t (suc k) at
paths_stand s t zero at before copies k p h = absurd (omega arith)
paths_stand s t (suc count) at before copies zero p h = (p.0.within, tt)
paths_stand s t (suc count) at before copies (suc k) p h = (p.0.within, paths_stand s t count (path_end s t at) _ _ k p.1 (omega arith))

pub stands_to : {s t : List ℕ} {k : ℕ} → HasPath s t k → PathsStand s t (k + 1) (first_path_at s)
stands_to {s} {t} {k} h = rw (add-one k) (paths_stand s t (path_count t) (first_path_at s) [] 0 k h.accepted.paths h.below)

-- nothing is handed out: the empty part at the answer's front
pub nothing_found : (s t : List ℕ) (k : ℕ) (r : Refused) → refusal (number_of r.fault) r.place ≡ hand_out_verdict s t k → PartFound s t k (number_of r.fault) r.place 0 0
unfolding handed_out handed_out_at
nothing_found s t k r e =
    let refused = ne_eqb (hand_out_verdict s t k).number 0 (λ z. number_positive r.fault (ap (λ (w : Verdict). w.number) e ∙ z)) in
    record { verdict = e; begins = simp refused; long = simp refused }

-- path k is handed out: its vertices stand behind the header of its record, which lies within the answer
pub path_found : (s t : List ℕ) (k : ℕ) {from at start count : ℕ} → nothing_refused ≡ hand_out_verdict s t k → from ≡ first_path_at s →
    at ≡ path_at s t k from → path_end s t at ≤ length t → start ≡ path_vertices_at s at → count ≡ path_length s t at → PartFound s t k 0 0 start count
unfolding handed_out handed_out_at part
path_found s t k {from} {at} {start} {count} d first e within begins long =
    let passed = eq-eqb (hand_out_verdict s t k).number 0 (ap (λ (w : Verdict). w.number) (sym d)) in
    let here : path_at s t k (first_path_at s) ≡ at = sym (e ∙ ap (path_at s t k) first) in
    record {
      verdict = d;
      begins = begins ∙ simp (passed, here);
      long = long ∙ simp (passed, here, length-take-le (path_length s t at) (drop (path_vertices_at s at) t) (simp length-drop (omega arith)));
    }
