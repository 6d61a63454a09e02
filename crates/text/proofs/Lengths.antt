-- How many digits a number has at the most.
use Prim.Native.Nat.{ℕ, zero, suc, ◌+◌, ◌-◌, ◌/◌, ◌%◌, ◌^◌, ◌≤◌, ◌<◌}
use native.Mathlib.Omega.{arith}
use mathlib.Core.List.{List, [], ◌∷◌}
use lib.Dec.{ltb}
use lib.ListN.{length}
use borrow.Author.Tests.{ltb-false}
use Rattle.text.specs.Text.{digit, digits_before, decimal}
use Rattle.text.proofs.Digits.{chosen, one_digit_less}

digits_few : (places n : ℕ) (after : List ℕ) → length (digits_before places n after) ≤ places + length after
unfolding digits_before
digits_few zero n after = omega arith
digits_few (suc places) n after =
    let more = digits_few places (n / 10) (digit (n % 10) ∷ after) in
    chosen (λ l. length l ≤ suc places + length after) (ltb n 10) (digit n ∷ after) (digits_before places (n / 10) (digit (n % 10) ∷ after))
    (λ e. omega arith) (λ e. omega (arith, more))

-- each number of the machine has at most 20 digits
pub decimal_few : (n : ℕ) → length (decimal n) ≤ 20
unfolding decimal
decimal_few n = omega (arith, digits_few 20 n [])

digits_below : (places k n : ℕ) (after : List ℕ) → 1 ≤ k → n < 10 ^ k → length (digits_before places n after) ≤ k + length after
unfolding digits_before
digits_below zero k n after some h = omega arith
digits_below (suc places) k n after some h =
    let more = digits_below places (k - 1) (n / 10) (digit (n % 10) ∷ after) in
    chosen (λ l. length l ≤ k + length after) (ltb n 10) (digit n ∷ after) (digits_before places (n / 10) (digit (n % 10) ∷ after)) (λ e. omega arith)
    (λ e.
    let l = one_digit_less k n (ltb-false n 10 e) h in
    omega (arith, more l.0 l.1))

-- a number below 10^k has at most k digits
pub decimal_below : (k n : ℕ) → 1 ≤ k → n < 10 ^ k → length (decimal n) ≤ k
unfolding decimal
decimal_below k n some h = omega (arith, digits_below 20 k n [] some h)
