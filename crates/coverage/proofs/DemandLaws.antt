-- Laws of the faults of an exon's counts and of the list of quotients: what the functions of `coverage` need. Assumes nothing.
use Rattle.std.proofs.Common.{◌≡◌, ℕ, zero, suc, ◌+◌, ◌/◌, ◌<◌, ◌≤◌, Bool, true, false, cond, ◌&&◌, ◌||◌, eqb, ltb, leb, List, [], ◌∷◌, ◌++◌, length, get_or, take, set, sym, refl, ap, ◌∙◌, ◌⊎◌, inl, inr, Ok, Err, add-one, arith, take_all, take-suc, take-suc-set, ltb-false, le-ltb, lt-ltb, eq-eqb, ne_eqb, eqb-true, leb-true}
use mathlib.Core.Bool.{false≢true}
use Rattle.forms.specs.declared.Verdict.{Verdict}
use Rattle.forms.specs.Limits.{max_demand}
use Rattle.forms.specs.GraphFaults.{refusal, nothing_refused, first_fault}
use Rattle.forms.proofs.RightLaws.{each_right, all_right}
use Rattle.forms.specs.declared.refusals.Refused.{Refused}
use Rattle.forms.specs.Refusals.{number_of}
use Rattle.forms.proofs.ThenLaws.{number_positive}
use Rattle.coverage.specs.Limits.{min_length, max_length, min_exons, max_exons}
use Rattle.coverage.specs.Demands.{one_length, exon_fault, fault_of, counts_verdict, quotients, demands_written, entries_written, filled_of, DemandsPromise}
use Rattle.coverage.specs.declared.Coverage.{Coverage}
use Rattle.coverage.specs.Depth.{coverage_of}

-- ---- an exon's counts, test by test
-- the demand of a record just made
pub demand_counts : (c : Coverage) (bases length n : ℕ) → c ≡ coverage_of bases length → n ≡ c.bases / c.length → n ≡ bases / length
unfolding coverage_of
demand_counts c bases length n e d = d ∙ ap (λ (k : Coverage). k.bases / k.length) e

module _ (bases length : ℕ) where
  pub length_out : (length < min_length) ⊎ ((min_length ≤ length) × (max_length < length)) → 32 ≡ exon_fault bases length
  unfolding exon_fault
  length_out (inl h) = simp (lt-ltb _ _ h)
  length_out (inr h) = simp (le-ltb _ _ h.0, lt-ltb _ _ h.1)

  module _ (some : min_length ≤ length) where
    module _ (short : length ≤ max_length) where
      pub quotient_high : max_demand < bases / length → 33 ≡ exon_fault bases length
      unfolding exon_fault
      quotient_high h = simp (le-ltb _ _ some, le-ltb _ _ short, lt-ltb _ _ h)

      pub counts_right : bases / length ≤ max_demand → 0 ≡ exon_fault bases length
      unfolding exon_fault
      counts_right h = simp (le-ltb _ _ some, le-ltb _ _ short, le-ltb _ _ h)

-- a right exon's length is in range, and its quotient is a demand
right_so : (low high deep : Bool) → ◌≡◌ {A = ℕ} (cond (low || high) 32 (cond deep 33 0)) 0 → (low ≡ false) × (high ≡ false) × (deep ≡ false)
right_so false false false e = (refl, refl, refl)
right_so false false true e = absurd (let z : ◌≡◌ {A = ℕ} 33 0 = e in omega arith)
right_so false true deep e = absurd (let z : ◌≡◌ {A = ℕ} 32 0 = e in omega arith)
right_so true high deep e = absurd (let z : ◌≡◌ {A = ℕ} 32 0 = e in omega arith)

pub right_counts : (bases length : ℕ) → exon_fault bases length ≡ 0 → (min_length ≤ length) × (length ≤ max_length) × (bases / length ≤ max_demand)
unfolding exon_fault
right_counts bases length e =
    let so = right_so (ltb length min_length) (ltb max_length length) (ltb max_demand (bases / length)) e in
    (ltb-false _ _ so.0, ltb-false _ _ so.1, ltb-false _ _ so.2)

-- ---- the list of quotients
pub quotients_length : (bases lengths : List ℕ) → length lengths ≡ length bases → length (quotients bases lengths) ≡ length bases
unfolding quotients
quotients_length [] lengths e = refl
quotients_length (b ∷ bases) [] e = e
quotients_length (b ∷ bases) (l ∷ lengths) e = ap suc (quotients_length bases lengths (omega arith))

pub quotients_at : (bases lengths : List ℕ) (k : ℕ) → length lengths ≡ length bases → k < length bases → get_or (quotients bases lengths) k 0 ≡ get_or bases k 0 / get_or lengths k 0
unfolding quotients
quotients_at [] lengths k e h = absurd (omega arith)
quotients_at (b ∷ bases) [] k e h = absurd (omega arith)
quotients_at (b ∷ bases) (l ∷ lengths) zero e h = refl
quotients_at (b ∷ bases) (l ∷ lengths) (suc k) e h = quotients_at bases lengths k (omega arith) (omega arith)

-- one demand more is written
pub demand_more : (bases lengths demands : List ℕ) (k v : ℕ) → length lengths ≡ length bases → length demands ≡ length bases → k < length demands
    → take k demands ≡ take k (quotients bases lengths) → v ≡ get_or bases k 0 / get_or lengths k 0 → take (k + 1) (set demands k v) ≡ take (k + 1) (quotients bases lengths)
demand_more bases lengths demands k v same room h held e =
    rw (add-one k)
    (take-suc-set demands k v h
    ∙ ap (λ (l : List ℕ). l ++ (v ∷ [])) held
    ∙ ap (λ (x : ℕ). take k (quotients bases lengths) ++ (x ∷ [])) (e ∙ sym (quotients_at bases lengths k same (omega arith)))
    ∙ sym (take-suc (quotients bases lengths) k 0 (omega (arith, quotients_length bases lengths same))))

-- all are written
pub demands_whole : (bases lengths demands : List ℕ) (k : ℕ) → length lengths ≡ length bases → length demands ≡ length bases → length demands ≤ k
    → take k demands ≡ take k (quotients bases lengths) → demands ≡ quotients bases lengths
demands_whole bases lengths demands k same room h held =
    sym (take_all k demands h) ∙ held ∙ take_all k (quotients bases lengths) (omega (arith, quotients_length bases lengths same))

-- ---- the exon with a number
pub fault_of_lem : (bases lengths : List ℕ) (k r : ℕ) → r ≡ exon_fault (get_or bases k 0) (get_or lengths k 0) → r ≡ fault_of bases lengths k
unfolding fault_of
fault_of_lem bases lengths k r e = e

pub right_exon : (bases lengths : List ℕ) (k : ℕ) → fault_of bases lengths k ≡ 0 → (min_length ≤ get_or lengths k 0) × (get_or lengths k 0 ≤ max_length) × (get_or bases k 0 / get_or lengths k 0 ≤ max_demand)
unfolding fault_of
right_exon bases lengths k e = right_counts (get_or bases k 0) (get_or lengths k 0) e

-- ---- the call's ends
-- lists of one length, by the test
one_so : (same room some few : Bool) → (same && (room && (some && few))) ≡ true → (same ≡ true) × (room ≡ true) × (some ≡ true) × (few ≡ true)
one_so true true true true e = (refl, refl, refl, refl)
one_so true true true false e = absurd (false≢true e)
one_so true true false few e = absurd (false≢true e)
one_so true false some few e = absurd (false≢true e)
one_so false room some few e = absurd (false≢true e)

pub same_lengths : (bases lengths demands : ℕ) → one_length bases lengths demands ≡ true → (lengths ≡ bases) × (demands ≡ bases) × (min_exons ≤ bases) × (bases ≤ max_exons)
unfolding one_length
same_lengths bases lengths demands e =
    let so = one_so (eqb lengths bases) (eqb demands bases) (leb min_exons bases) (leb bases max_exons) e in
    (eqb-true _ _ so.0, eqb-true _ _ so.1, leb-true _ _ so.2, leb-true _ _ so.3)

-- where the verdict of the exons refuses nothing, each exon is right, and the place is 0 too
module _ (bases lengths : List ℕ) (v : Verdict) (is : v ≡ first_fault (fault_of bases lengths) (λ exon. exon) (length bases) 0) (none : v.number ≡ 0) where
  pub exons_right : (k : ℕ) → k < length bases → fault_of bases lengths k ≡ 0
  exons_right k h = each_right (fault_of bases lengths) (λ exon. exon) (length bases) 0 (sym (ap (λ (w : Verdict). w.number) is) ∙ none) k (omega arith) (omega arith)

  pub exons_pass : nothing_refused ≡ first_fault (fault_of bases lengths) (λ exon. exon) (length bases) 0
  exons_pass = all_right (fault_of bases lengths) (λ exon. exon) (length bases) 0 (λ k _ h. exons_right k (omega arith))

module _ (bases lengths before : List ℕ) where
  pub lists_refused : one_length (length bases) (length lengths) (length before) ≡ false → refusal 30 0 ≡ counts_verdict bases lengths before
  unfolding counts_verdict
  lists_refused e = simp e

  pub lists_right : one_length (length bases) (length lengths) (length before) ≡ true → first_fault (fault_of bases lengths) (λ exon. exon) (length bases) 0 ≡ counts_verdict bases lengths before
  unfolding counts_verdict
  lists_right e = simp e

  -- a refusal keeps the list
  pub refused : (e : Refused) → refusal (number_of e.fault) e.place ≡ counts_verdict bases lengths before → DemandsPromise bases lengths before before (filled_of (Err e))
  unfolding entries_written demands_written
  refused e h =
      let number : ((counts_verdict bases lengths before).number ≡ 0 → ⊥) = λ z. number_positive e.fault (ap (λ (w : Verdict). w.number) h ∙ z) in
      record { verdict = h; entries = simp (ne_eqb _ _ number); demands = simp (ne_eqb _ _ number) }

  -- where nothing is refused the list holds the quotients
  pub written : (after : List ℕ) → nothing_refused ≡ counts_verdict bases lengths before → after ≡ quotients bases lengths → DemandsPromise bases lengths before after (filled_of (Ok (length bases)))
  unfolding entries_written demands_written
  written after e held =
      let number : (counts_verdict bases lengths before).number ≡ 0 = sym (ap (λ (w : Verdict). w.number) e) in
      record { verdict = e; entries = simp (eq-eqb _ _ number); demands = held ∙ simp (eq-eqb _ _ number) }
