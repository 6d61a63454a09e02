-- Laws of `first_fault`, for a loop over records of one kind: what the loop has passed was right, so the answer of all is the answer of the rest.
use Prim.Native.Nat.{ℕ, suc, ◌+◌, ◌-◌, ◌<◌, ◌≤◌}
use native.Mathlib.Nat.{sub-zero}
use native.Mathlib.Numerals.{add-one}
use native.Mathlib.Omega.{arith}
use mathlib.Core.Path.{◌≡◌, sym, ◌∙◌}
use borrow.Author.Tests.{eq-eqb, ne_eqb}
use Rattle.forms.specs.GraphFaults.{first_fault, refusal, nothing_refused}

module _ (fault place : ℕ → ℕ) where
  rest_right : (k i : ℕ) → fault i ≡ 0 → first_fault fault place (suc k) i ≡ first_fault fault place k (suc i)
  unfolding first_fault
  rest_right k i e = simp (eq-eqb _ _ e)

  rest_wrong : (k i : ℕ) → (fault i ≡ 0 → ⊥) → first_fault fault place (suc k) i ≡ refusal (fault i) (place i)
  unfolding first_fault
  rest_wrong k i e = simp (ne_eqb _ _ e)

  module _ (n : ℕ) where
    -- where the loop begins, all is the rest
    pub scan_begins : first_fault fault place n 0 ≡ first_fault fault place (n - 0) 0
    scan_begins = rw sub-zero

    -- a turn: the record is right
    pub scan_turns : (i r : ℕ) → first_fault fault place n 0 ≡ first_fault fault place (n - i) i → i < n → r ≡ fault i → r ≡ 0 → first_fault fault place n 0 ≡ first_fault fault place (n - (i + 1)) (i + 1)
    scan_turns i r inv h e right =
        let split : n - i ≡ suc (n - (i + 1)) = omega arith in
        inv ∙ (rw (split, rest_right (n - (i + 1)) i (sym e ∙ right), add-one))

    -- the record is not: it decides
    pub scan_stops : (i r at : ℕ) → first_fault fault place n 0 ≡ first_fault fault place (n - i) i → i < n → r ≡ fault i → (r ≡ 0 → ⊥) → at ≡ place i → refusal r at ≡ first_fault fault place n 0
    scan_stops i r at inv h e wrong p =
        let split : n - i ≡ suc (n - (i + 1)) = omega arith in
        rw (e, p) (sym (inv ∙ rw (split, rest_wrong (n - (i + 1)) i (λ z. wrong (e ∙ z)))))

    -- all are right
    pub scan_ends : (i : ℕ) → first_fault fault place n 0 ≡ first_fault fault place (n - i) i → n ≤ i → nothing_refused ≡ first_fault fault place n 0
    unfolding first_fault
    scan_ends i inv h =
        let none : n - i ≡ 0 = omega arith in
        sym (inv ∙ rw none)
