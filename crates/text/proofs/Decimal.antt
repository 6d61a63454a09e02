-- The text of a number is the right one: read digit by digit it gives the number back, and it does not begin with a zero unless the number is 0.
use Prim.Native.Nat.{ℕ, zero, suc, ◌*◌, ◌/◌, ◌%◌, ◌^◌, ◌≤◌, ◌<◌}
use native.Mathlib.Omega.{arith}
use native.Mathlib.Nat.{pow-suc}
use mathlib.Core.Path.{◌≡◌, ap, ◌∙◌}
use mathlib.Core.List.{List, [], ◌∷◌}
use lib.Dec.{ltb}
use lib.ListN.{get_or}
use borrow.Author.Tests.{ltb-false}
use Rattle.text.specs.Text.{digit, digits_before, decimal, value_of}
use Rattle.text.proofs.Digits.{chosen}

shorter : (n places : ℕ) → n < 10 ^ suc places → n / 10 < 10 ^ places
shorter n places h =
    let p : n < 10 ^ places * 10 = rw pow-suc at h in
    omega arith

digits_value : (places n : ℕ) (after : List ℕ) → n < 10 ^ places → value_of 0 (digits_before places n after) ≡ value_of n after
unfolding digits_before
digits_value zero n after h = ap (λ k. value_of k after) (omega arith)
digits_value (suc places) n after h =
    let more = digits_value places (n / 10) (digit (n % 10) ∷ after) in
    chosen (λ l. value_of 0 l ≡ value_of n after) (ltb n 10) (digit n ∷ after) (digits_before places (n / 10) (digit (n % 10) ∷ after))
    (λ e. ap (λ k. value_of k after) (omega arith))
    (λ e. more (shorter n places h) ∙ ap (λ k. value_of k after) (omega arith))

-- the digits of a number give it back
pub decimal_value : (n : ℕ) → n < 10 ^ 20 → value_of 0 (decimal n) ≡ n
unfolding decimal
decimal_value n h = digits_value 20 n [] h

digits_lead : (places n : ℕ) (after : List ℕ) → 1 ≤ n → n < 10 ^ places → 49 ≤ get_or (digits_before places n after) 0 0
unfolding digits_before
digits_lead zero n after some h = absurd (omega arith)
digits_lead (suc places) n after some h =
    let more = digits_lead places (n / 10) (digit (n % 10) ∷ after) in
    chosen (λ l. 49 ≤ get_or l 0 0) (ltb n 10) (digit n ∷ after) (digits_before places (n / 10) (digit (n % 10) ∷ after))
    (λ e. omega arith)
    (λ e. more (omega (arith, ltb-false n 10 e)) (shorter n places h))

-- "no leading zeros": the first digit of a number that is not 0 is not 0
pub decimal_leads : (n : ℕ) → 1 ≤ n → n < 10 ^ 20 → 49 ≤ get_or (decimal n) 0 0
unfolding decimal
decimal_leads n some h = digits_lead 20 n [] some h
