-- The quotient of two whole numbers as an f64: one rounding of their fraction, which stays from their whole-number quotient up to below the next whole
-- number. That one is a float, and so is the next whole number less 2⁻²¹, which no fraction with a denominator below 2²¹ passes; rounding keeps the order.
-- Assumes nothing.
use Rattle.std.proofs.Common.{◌≡◌, ℕ, ◌+◌, ◌*◌, ◌/◌, ◌^◌, ◌<◌, ◌≤◌, true, false, T, pos, sym, ◌∙◌, subst, inl, inr, true≢false, lt_of_lt_of_le, mul-le-mul_right, mul_assoc, mul_comm, add-mul, eq-zero-or-pos, lt_of_mul-lt-mul_right, mul-lt-mul_of_pos_right, mul-pos, one-mul, zero-mul, mul-one, div-le_self, mul_right_comm, div-mul-le_self, mul_left_comm, arith, lit<, lit≤, lt→ltb, shl_lt, ne_eqb}
use native.Mathlib.Nat.{zero-div, lt-div-mul-add, div-eq_of_lt-le, min-eq_left}
use lib.Ieee.{Float, nan, inf, fin, binary64, up, down, round, div, of_int, lt, le, to_unsigned}
use lib.Ieee.Fits.{down_pos}
use lib.Ieee.Exact.{HasValue, round_exact}
use lib.Ieee.Back.{round_whole}
use lib.Ieee.Nearest.{div_same}
use lib.Ieee.Order.{round_mono}
use lib.Ieee.Scale.{round_same}
use lib.Ieee.Positive.{num, den, positive, den_pos, own_value, first_pos, positive_of_value, values_of_le, between}

-- ---- one rounding

crossed : (m n a b d e : ℕ) → m * 1 ≡ a * e → n * 1 ≡ b * d → m * d * b ≡ a * (n * e)
crossed m n a b d e p q =
    let m' : m ≡ a * e = sym (mul-one m) ∙ p in
    let n' : n ≡ b * d = sym (mul-one n) ∙ q in
    rw (m', n') (simp (mul_assoc, mul_comm, mul_left_comm))

-- where x is the whole number a and y the whole number b, not 0, x / y is the fraction a / b, rounded once
div_whole : (x y : Float) (a b : ℕ) → HasValue x false a 1 → HasValue y false b 1 → 0 < b → div binary64 x y ≡ round binary64 false a b
unfolding div
div_whole nan y a b h k B = absurd h
div_whole (inf s) y a b h k B = absurd h
div_whole (fin true m e) y a b h k B = absurd (true≢false h.0)
div_whole (fin false m e) nan a b h k B = absurd k
div_whole (fin false m e) (inf t) a b h k B = absurd k
div_whole (fin false m e) (fin true n d) a b h k B = absurd (true≢false k.0)
div_whole (fin false m e) (fin false n d) a b h k B =
    let N : 0 < n * up d = subst (λ (z : ℕ). 0 < z) (sym k.1 ∙ mul-one (n * up d)) (mul-pos B (down_pos d)) in
    let n_pos : 0 < n = first_pos n (up d) N in
    simp (ne_eqb n 0 (λ z. omega arith))
    (round_same binary64 false (m * up e * down d) (n * up d * down e) a b (mul-pos N (down_pos e)) B (crossed (m * up e) (n * up d) a b (down d) (down e) h.1 k.1))

pub quotient_rounded : (a b : ℕ) → a ≤ 2 ^ 53 → 0 < b → b ≤ 2 ^ 53 → div binary64 (of_int binary64 (pos a)) (of_int binary64 (pos b)) ≡ round binary64 false a b
unfolding of_int
quotient_rounded a b small some small' = div_whole _ _ a b (round_whole binary64 false a small) (round_whole binary64 false b small') some

-- ---- from q up to below q + 1

-- x is a fraction from q up to below q + 1
pub record From (q : ℕ) (x : Float) : Type 0 where
  pub top : ℕ
  pub under : ℕ
  pub some : 0 < under
  pub value : HasValue x false top under
  pub least : q * under ≤ top
  pub less : top < (q + 1) * under

-- a whole number of 2⁻²¹, of at most 53 digits, is a float
exact : (n : ℕ) → n < 2 ^ 53 → HasValue (round binary64 false n 2097152) false n 2097152
exact n small =
    round_exact binary64 false n 2097152 n 1053 (lit< tt) small (lt_of_lt_of_le (shl_lt 53 1053 small) (lit≤ tt))
    (sym (mul_assoc n (2 ^ 1053) 2097152))

-- the next whole number less 2⁻²¹ is not passed
ceiling : (a b q : ℕ) → a < q * b + b → b ≤ 2097152 → a * 2097152 ≤ (q * 2097152 + 2097151) * b
ceiling a b q h k = rw (add-mul, mul_right_comm q 2097152 b) (omega arith)

-- what is at most that is below the next whole number
below_next : (n d q : ℕ) → 0 < d → n * 2097152 ≤ (q * 2097152 + 2097151) * d → n < (q + 1) * d
below_next n d q h k =
    let k' : n * 2097152 ≤ q * d * 2097152 + 2097151 * d = rw (add-mul, mul_right_comm q 2097152 d) at k in
    rw add-mul (omega arith)

-- the fraction, rounded; and what bounds it from above
abbrev rounded : ℕ → ℕ → Float
rounded a b = round binary64 false a b

abbrev next_less : ℕ → Float
next_less q = rounded (q * 2097152 + 2097151) 2097152

module _ (a b : ℕ) (few : a < 4294967296) (some : 0 < b) (short : b < 2097152) where
  quotient_few : a / b < 4294967296
  quotient_few = omega (arith, div-le_self a b)

  next_value : HasValue (next_less (a / b)) false (a / b * 2097152 + 2097151) 2097152
  next_value = exact (a / b * 2097152 + 2097151) (omega (arith, quotient_few))

  next_positive : T (positive (next_less (a / b)))
  next_positive = positive_of_value (next_less (a / b)) (a / b * 2097152 + 2097151) 2097152 next_value (omega arith)

  under_next : T (le (rounded a b) (next_less (a / b)))
  under_next = round_mono binary64 a b (a / b * 2097152 + 2097151) 2097152 some (lit< tt) (ceiling a b (a / b) (lt-div-mul-add some) (omega arith))

  module _ (counted : 0 < a) where
    rounded_positive : T (positive (rounded a b))
    rounded_positive =
        between (rounded 1 2097152) (rounded a b) (next_less (a / b)) (positive_of_value (rounded 1 2097152) 1 2097152 (exact 1 (lit< tt)) (lit< tt)) next_positive
        (round_mono binary64 1 2097152 a b (lit< tt) some (omega arith)) under_next

    whole_value : HasValue (rounded (a / b) 1) false (a / b) 1
    whole_value = round_whole binary64 false (a / b) (omega (arith, quotient_few))

    over_whole : T (le (rounded (a / b) 1) (rounded a b))
    over_whole = round_mono binary64 (a / b) 1 a b (lit< tt) some (omega (arith, div-mul-le_self a b))

    at_least : a / b * den (rounded a b) ≤ num (rounded a b)
    at_least = elim (eq-zero-or-pos (a / b)) [
      | inl e ↦ rw (e, zero-mul) (omega arith)
      | inr p ↦
          omega (arith, values_of_le (rounded (a / b) 1) (rounded a b) (a / b) 1 (num (rounded a b)) (den (rounded a b)) (positive_of_value (rounded (a / b) 1) (a / b) 1 whole_value p) rounded_positive whole_value (own_value (rounded a b) rounded_positive) over_whole)
    ]

    from_counted : From (a / b) (rounded a b)
    from_counted =
        record {
          top = num (rounded a b);
          under = den (rounded a b);
          some = den_pos (rounded a b);
          value = own_value (rounded a b) rounded_positive;
          least = at_least;
          less = below_next (num (rounded a b)) (den (rounded a b)) (a / b) (den_pos (rounded a b))
              (values_of_le (rounded a b) (next_less (a / b)) (num (rounded a b)) (den (rounded a b)) (a / b * 2097152 + 2097151) 2097152 rounded_positive next_positive (own_value (rounded a b) rounded_positive) next_value under_next);
        }

-- no bases at all
from_none : (b : ℕ) → 0 < b → From (0 / b) (rounded 0 b)
from_none b some =
    rw zero-div (record {
      top = 0;
      under = b;
      some = some;
      value = round_exact binary64 false 0 b 0 0 some (lit< tt) (lit< tt) (sym (zero-mul b));
      least = rw zero-mul (omega arith);
      less = rw one-mul some;
    })

-- the fraction, rounded, lies from the whole-number quotient up to below the next whole number
pub rounded_from : (a b : ℕ) → a < 4294967296 → 0 < b → b < 2097152 → From (a / b) (round binary64 false a b)
rounded_from a b few some short = elim (eq-zero-or-pos a) [
  | inl e ↦ rw e (from_none b some)
  | inr counted ↦ from_counted a b few some short counted
]

-- ---- what is cut off, and what cutting asks for

pub cut_whole : (q : ℕ) (x : Float) → From q x → q < 4294967296 → to_unsigned 64 x ≡ q
unfolding to_unsigned
cut_whole q nan r h = absurd r.value
cut_whole q (inf s) r h = absurd r.value
cut_whole q (fin true m e) r h = absurd (true≢false r.value.0)
cut_whole q (fin false m e) r h =
    let same : m * up e / down e ≡ q = div_same (m * up e) (down e) r.top r.under (down_pos e) r.some r.value.1 ∙ div-eq_of_lt-le r.under r.least r.less in
    rw same (min-eq_left (omega arith))

pub above_minus_one : (q : ℕ) (x : Float) → From q x → T (lt (fin true 1 (pos 0)) x)
unfolding lt
above_minus_one q nan r = absurd r.value
above_minus_one q (inf s) r = absurd r.value
above_minus_one q (fin true m e) r = absurd (true≢false r.value.0)
above_minus_one q (fin false m e) r = lt→ltb 0 (1 * up (pos 0) * down e + m * up e * down (pos 0)) (omega (arith, down_pos e))

pub below_top : (q : ℕ) (x : Float) → From q x → q < 4294967296 → T (lt x (fin false 1 (pos 64)))
unfolding lt
below_top q nan r h = absurd r.value
below_top q (inf s) r h = absurd r.value
below_top q (fin true m e) r h = absurd (true≢false r.value.0)
below_top q (fin false m e) r h = lt→ltb (m * up e * down (pos 64)) (1 * up (pos 64) * down e) (omega (arith, less, mul-le-mul_right (down e) h))
  where
    less : m * up e < (q + 1) * down e
    less = lt_of_mul-lt-mul_right r.under
        (rw (r.value.1, mul_right_comm (q + 1) (down e) r.under) (mul-lt-mul_of_pos_right r.less (down_pos e)))
