-- How many digits a number has: one more than the greatest power of ten within it tells.
use Rattle.std.proofs.Common.{ℕ, zero, suc, ◌+◌, ◌*◌, ◌/◌, ◌%◌, ◌^◌, ◌≤◌, ◌<◌, ◌≡◌, [], ◌∷◌, length, max, ◌∙◌, sym, pow-suc, arith, lt-ltb, le-ltb}
use Rattle.std.proofs.Math.Nat.{one-le-pow}
use Rattle.text.specs.Text.{digit, digits_before, decimal}
use Rattle.text.proofs.Digits.{digits_before_lem}

-- a number of two digits or more has one digit more than its tenth
digits_more : (k n : ℕ) → 9 < n → length (digits_before (suc k) n []) ≡ length (digits_before k (n / 10) []) + 1
unfolding digits_before
digits_more k n l = simp (le-ltb n 10 l) (digits_before_lem k (n / 10) (digit (n % 10) ∷ []))

digits_one : (k n : ℕ) → n ≤ 9 → length (digits_before (suc k) n []) ≡ 1
unfolding digits_before
digits_one k n l =
    let small : n < 10 = omega arith in
    simp (lt-ltb n 10 small)

digits_counted : (places power n : ℕ) → power < places → 10 ^ power ≤ n → n < 10 * 10 ^ power → length (digits_before places n []) ≡ power + 1
digits_counted zero power n few low high = absurd (omega arith)
digits_counted (suc places) zero n few low high = digits_one places n (omega arith)
digits_counted (suc places) (suc power) n few low high =
    let l : 10 ^ power * 10 ≤ n = rw pow-suc at low in
    let h : n < 10 * (10 ^ power * 10) = rw pow-suc at high in
    let some = one-le-pow power 10 (omega arith) in
    omega (arith, digits_more places n (omega arith), digits_counted places power (n / 10) (omega arith) (omega arith) (omega arith))

-- the power is that of the number, or of 1 where it is 0
pub decimal_counted : (n : ℕ) {power m : ℕ} → m ≡ max n 1 → power < 20 → 10 ^ power ≤ m → m < 10 * 10 ^ power → power + 1 ≡ length (decimal n)
unfolding decimal
decimal_counted zero {power} e few low high =
    sym (digits_counted 20 power 1 few (rw e at low) (rw e at high)) ∙ (digits_one 19 1 (omega arith) ∙ sym (digits_one 19 0 (omega arith)))
decimal_counted (suc n) {power} e few low high = sym (digits_counted 20 power (suc n) few (omega arith) (omega arith))
