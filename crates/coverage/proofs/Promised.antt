-- What the promise of `coverage::demands` says: each demand is the whole-number quotient, nothing is refused exactly where every count is right, which
-- numbers can be given and where, and that any two results allowed are equal. Assumes nothing.
use Rattle.std.proofs.Common.{◌≡◌, ℕ, zero, suc, ◌+◌, ◌/◌, ◌<◌, ◌≤◌, Bool, true, false, cond, ◌||◌, eqb, ltb, ◌≢◌, ◌⊎◌, ◌↔◌, List, length, get_or, sym, refl, ap, ◌∙◌, subst, inl, inr, arith, eq-eqb, ne_eqb, eqb-true, le-leb}
use native.Mathlib.Decide.{dec_le}
use Rattle.forms.specs.declared.Verdict.{Verdict}
use Rattle.forms.specs.Limits.{max_demand}
use Rattle.forms.specs.GraphFaults.{refusal, nothing_refused, first_fault}
use Rattle.forms.specs.declared.refusals.Refused.{Refused}
use Rattle.forms.proofs.RightLaws.{all_right}
use Rattle.forms.proofs.ResultLaws.{same_count}
use Rattle.std.specs.Prelude.{Result}
use Rattle.coverage.specs.Limits.{min_length, max_length}
use Rattle.coverage.specs.Demands.{one_length, exon_fault, fault_of, counts_verdict, quotients, demands_written, entries_written, Filled, filled_of, DemandsPromise, CountsRight}
use Rattle.coverage.proofs.DemandLaws.{counts_right, right_exon, quotients_length, quotients_at, same_lengths, exons_right, lists_refused, lists_right}

module _ (bases lengths before : List ℕ) where
  -- nothing refused: the lists have one length, and the exons refuse nothing
  lists_one : (b : Bool) (v : Verdict) → (cond b v (refusal 30 0)).number ≡ 0 → (b ≡ true) × (v.number ≡ 0)
  lists_one true v e = (refl, e)
  lists_one false v e = absurd (let z : ◌≡◌ {A = ℕ} 30 0 = e in omega arith)

  right_of_zero : (counts_verdict bases lengths before).number ≡ 0 → CountsRight bases lengths before
  unfolding counts_verdict
  right_of_zero e =
      let h = lists_one (one_length (length bases) (length lengths) (length before)) (first_fault (fault_of bases lengths) (λ exon. exon) (length bases) 0) e in
      let same = same_lengths _ _ _ h.0 in
      record {
        same = same.0;
        room = same.1;
        some = same.2;
        few = same.3;
        exon = λ k l. right_exon bases lengths k (exons_right bases lengths _ refl h.1 k l);
      }

  one_of_right : CountsRight bases lengths before → one_length (length bases) (length lengths) (length before) ≡ true
  unfolding one_length
  one_of_right r = simp (eq-eqb _ _ r.same, eq-eqb _ _ r.room, le-leb _ _ r.some, le-leb _ _ r.few)

  nothing_of_right : CountsRight bases lengths before → nothing_refused ≡ counts_verdict bases lengths before
  unfolding fault_of
  nothing_of_right r =
      all_right (fault_of bases lengths) (λ exon. exon) (length bases) 0
      (λ k _ h. let x = r.exon k (omega arith) in sym (counts_right (get_or bases k 0) (get_or lengths k 0) x.0 x.1 x.2))
      ∙ lists_right bases lengths before (one_of_right r)

  -- Document 02, #110, the refusals: nothing is refused exactly where every count is right.
  pub number_zero_iff_right : ((counts_verdict bases lengths before).number ≡ 0) ↔ CountsRight bases lengths before
  number_zero_iff_right = (right_of_zero, λ r. sym (ap (λ (v : Verdict). v.number) (nothing_of_right r)))

  -- Document 01: "Each answer holds number and place; both are 0 where nothing is refused."
  pub place_zero : (counts_verdict bases lengths before).number ≡ 0 → (counts_verdict bases lengths before).place ≡ 0
  place_zero e = sym (ap (λ (v : Verdict). v.place) (nothing_of_right (right_of_zero e)))

-- ---- the first faulty exon

-- v refuses the first faulty of the exons i .. i + n - 1
abbrev FirstAt : (ℕ → ℕ) → ℕ → ℕ → Verdict → Type 0
FirstAt fault n i v = (i ≤ v.place) × (v.place < i + n) × (fault v.place ≡ v.number) × ((k : ℕ) → i ≤ k → k < v.place → fault k ≡ 0)

first_at : (fault : ℕ → ℕ) (n i : ℕ) → (first_fault fault (λ exon. exon) n i).number ≢ 0 → FirstAt fault n i (first_fault fault (λ exon. exon) n i)
unfolding first_fault
first_at fault zero i wrong = absurd (wrong refl)
first_at fault (suc n) i wrong = this (eqb (fault i) 0) refl wrong (first_at fault n (suc i))
  where
    this : (b : Bool) → eqb (fault i) 0 ≡ b → (cond b (first_fault fault (λ exon. exon) n (suc i)) (refusal (fault i) i)).number ≢ 0
        → ((first_fault fault (λ exon. exon) n (suc i)).number ≢ 0 → FirstAt fault n (suc i) (first_fault fault (λ exon. exon) n (suc i)))
        → FirstAt fault (suc n) i (cond b (first_fault fault (λ exon. exon) n (suc i)) (refusal (fault i) i))
    this false t w rest = (omega arith, omega arith, refl, λ k a b. absurd (omega arith))
    this true t w rest =
        let r = rest w in (
          omega arith,
          omega arith,
          r.2,
          λ k a b. elim (dec_le (suc i) k) [
            | yes l ↦ r.3 k l b
            | no l ↦ let e : i ≡ k = omega arith in subst (λ j. fault j ≡ 0) e (eqb-true _ _ t)
          ],
        )

exon_number : (bases length : ℕ) → (exon_fault bases length ≡ 0) ⊎ ((exon_fault bases length ≡ 32) ⊎ (exon_fault bases length ≡ 33))
unfolding exon_fault
exon_number bases length = each (ltb length min_length || ltb max_length length) (ltb max_demand (bases / length))
  where
    each : (out deep : Bool) → (◌≡◌ {A = ℕ} (cond out 32 (cond deep 33 0)) 0) ⊎ ((◌≡◌ {A = ℕ} (cond out 32 (cond deep 33 0)) 32) ⊎ (◌≡◌ {A = ℕ} (cond out 32 (cond deep 33 0)) 33))
    each true deep = inr (inl refl)
    each false true = inr (inr refl)
    each false false = inl refl

module _ (bases lengths before : List ℕ) where
  -- "then exon by exon, its number the place": where the lists are of one length, what is refused is the first faulty exon, with its fault
  pub refused_at_first : one_length (length bases) (length lengths) (length before) ≡ true → (counts_verdict bases lengths before).number ≢ 0
      → ((counts_verdict bases lengths before).place < length bases)
      × (exon_fault (get_or bases (counts_verdict bases lengths before).place 0) (get_or lengths (counts_verdict bases lengths before).place 0) ≡ (counts_verdict bases lengths before).number)
      × ((k : ℕ) → k < (counts_verdict bases lengths before).place → exon_fault (get_or bases k 0) (get_or lengths k 0) ≡ 0)
  unfolding fault_of
  refused_at_first one wrong =
      let e = lists_right bases lengths before one in
      let r = subst (FirstAt (fault_of bases lengths) (length bases) 0) e
      (first_at (fault_of bases lengths) (length bases) 0 (λ z. wrong (sym (ap (λ (v : Verdict). v.number) e) ∙ z))) in
      (omega arith, r.2, λ k h. r.3 k (omega arith) h)

  -- 30 is given, with place 0, exactly where the lists are not of one length in 1..256
  pub lists_refused_iff : (counts_verdict bases lengths before ≡ refusal 30 0) ↔ (one_length (length bases) (length lengths) (length before) ≡ false)
  lists_refused_iff = (not_one (one_length (length bases) (length lengths) (length before)) refl, λ e. sym (lists_refused bases lengths before e))
    where
      not_one : (b : Bool) → one_length (length bases) (length lengths) (length before) ≡ b → counts_verdict bases lengths before ≡ refusal 30 0 → one_length (length bases) (length lengths) (length before) ≡ false
      not_one false t e = t
      not_one true t e =
          let n : (counts_verdict bases lengths before).number ≡ 30 = ap (λ (v : Verdict). v.number) e in
          let r = refused_at_first t (λ z. omega arith) in
          elim (exon_number (get_or bases (counts_verdict bases lengths before).place 0) (get_or lengths (counts_verdict bases lengths before).place 0)) [
            | inl z ↦ absurd (omega (arith, r.1))
            | inr (inl z) ↦ absurd (omega (arith, r.1))
            | inr (inr z) ↦ absurd (omega (arith, r.1))
          ]

  -- no number is given but 0, 30, 32 and 33
  pub numbers_given : ((counts_verdict bases lengths before).number ≡ 0) ⊎ (((counts_verdict bases lengths before).number ≡ 30) ⊎ (((counts_verdict bases lengths before).number ≡ 32) ⊎ ((counts_verdict bases lengths before).number ≡ 33)))
  numbers_given = by (one_length (length bases) (length lengths) (length before)) refl (dec_zero (counts_verdict bases lengths before).number)
    where
      dec_zero : (n : ℕ) → (n ≡ 0) ⊎ (n ≢ 0)
      dec_zero zero = inl refl
      dec_zero (suc n) = inr (λ z. omega arith)

      by : (b : Bool) → one_length (length bases) (length lengths) (length before) ≡ b → ((counts_verdict bases lengths before).number ≡ 0) ⊎ ((counts_verdict bases lengths before).number ≢ 0)
          → ((counts_verdict bases lengths before).number ≡ 0) ⊎ (((counts_verdict bases lengths before).number ≡ 30) ⊎ (((counts_verdict bases lengths before).number ≡ 32) ⊎ ((counts_verdict bases lengths before).number ≡ 33)))
      by b t (inl z) = inl z
      by false t (inr w) = inr (inl (sym (ap (λ (v : Verdict). v.number) (lists_refused bases lengths before t))))
      by true t (inr w) =
          let r = refused_at_first t w in
          elim (exon_number (get_or bases (counts_verdict bases lengths before).place 0) (get_or lengths (counts_verdict bases lengths before).place 0)) [
            | inl z ↦ absurd (w (sym r.1 ∙ z))
            | inr (inl z) ↦ inr (inr (inl (sym r.1 ∙ z)))
            | inr (inr z) ↦ inr (inr (inr (sym r.1 ∙ z)))
          ]

  module _ (after : List ℕ) (r : Filled) (promise : DemandsPromise bases lengths before after r) where
    number_is : r.number ≡ (counts_verdict bases lengths before).number
    number_is = ap (λ (v : Verdict). v.number) promise.verdict

    -- "Its whole part becomes the vertex demand, written to a lent list": the whole list, each entry the whole-number quotient, a demand that a graph form takes
    pub written_are_quotients : r.number ≡ 0 → (r.written ≡ length before) × (length after ≡ length before)
        × ((k : ℕ) → k < length before → (get_or after k 0 ≡ get_or bases k 0 / get_or lengths k 0) × (get_or after k 0 ≤ max_demand))
    unfolding demands_written entries_written
    written_are_quotients e =
        let z : (counts_verdict bases lengths before).number ≡ 0 = sym number_is ∙ e in
        let right = right_of_zero bases lengths before z in
        let list : after ≡ quotients bases lengths = promise.demands ∙ simp (eq-eqb _ _ z) in
        let count : r.written ≡ length bases = promise.entries ∙ simp (eq-eqb _ _ z) in
        let at : (k : ℕ) → k < length before → get_or after k 0 ≡ get_or bases k 0 / get_or lengths k 0 =
        λ k h. ap (λ (l : List ℕ). get_or l k 0) list ∙ quotients_at bases lengths k right.same (omega (arith, right.room)) in (
          count ∙ sym right.room,
          ap length list ∙ quotients_length bases lengths right.same ∙ sym right.room,
          λ k h. (at k h, omega (arith, at k h, (right.exon k (omega (arith, right.room))).2)),
        )

    -- document 01: "0 on a refusal. On a refusal it changes no byte of any lent buffer."
    pub refused_changes_nothing : r.number ≢ 0 → (r.written ≡ 0) × (after ≡ before)
    unfolding demands_written entries_written
    refused_changes_nothing w =
        let wrong : ((counts_verdict bases lengths before).number ≡ 0 → ⊥) = λ z. w (number_is ∙ z) in
        (promise.entries ∙ simp (ne_eqb _ _ wrong), promise.demands ∙ simp (ne_eqb _ _ wrong))

-- "Show that any two results allowed by a promise are equal.": by number, place and count, as a caller in C sees them
pub filled_determined : (bases lengths before after after' : List ℕ) (r r' : Filled) → DemandsPromise bases lengths before after r → DemandsPromise bases lengths before after' r' → (r ≡ r') × (after ≡ after')
filled_determined bases lengths before after after' r r' p q =
    let v = p.verdict ∙ sym q.verdict in (
      ap (λ (w : Verdict). record { number = w.number; place = w.place; written = r.written }) v
          ∙ ap (λ (n : ℕ). record { number = r'.number; place = r'.place; written = n }) (p.entries ∙ sym q.entries),
      p.demands ∙ sym q.demands,
    )

-- and by what the call answers
pub determined : (bases lengths before after after' : List ℕ) (r r' : Result ℕ Refused) → DemandsPromise bases lengths before after (filled_of r) → DemandsPromise bases lengths before after' (filled_of r') →
    (r ≡ r') × (after ≡ after')
determined bases lengths before after after' r r' p q =
    (same_count r r' (p.verdict ∙ sym q.verdict) (p.entries ∙ sym q.entries), p.demands ∙ sym q.demands)
