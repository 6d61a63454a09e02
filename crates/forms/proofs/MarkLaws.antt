-- A mark of an answer form: which words are marks in range, and which number such a word stands for.
use Prim.Native.Nat.{ℕ, zero, suc, ◌+◌, ◌-◌, ◌<◌, ◌≤◌}
use native.Mathlib.Decide.{dec_lt}
use native.Mathlib.Omega.{arith}
use mathlib.Core.Path.{◌≡◌, refl, sym, ◌∙◌}
use mathlib.Core.List.{List}
use mathlib.Core.Bool.{true}
use lib.Dec.{leb, leb-zero, leb-suc-zero, leb-suc-suc}
use lib.IntN.{pos, neg_ℤ, sub_ℕ}
use lib.Signed.{le_z}
use borrow.Author.Tests.{lt-ltb, le-ltb, le-leb, lt-leb}
use Rattle.forms.specs.Bytes.{be32}
use Rattle.forms.specs.Limits.{mark_limit}
use Rattle.forms.specs.AnswerForm.{signed32}
use Rattle.forms.specs.AnswerFaults.{mark_fault}

-- the opposite of a is not above that of b exactly where b is not above a
opposites : (a b : ℕ) → le_z (neg_ℤ (pos a)) (neg_ℤ (pos b)) ≡ leb b a
opposites zero zero = refl
opposites zero (suc b) = sym (leb-suc-zero b)
opposites (suc a) zero = sym (leb-zero (suc a))
opposites (suc a) (suc b) = sym (leb-suc-suc b a)

opposite_low : (a b : ℕ) → le_z (neg_ℤ (pos a)) (pos b) ≡ true
opposite_low zero b = leb-zero b
opposite_low (suc a) b = refl

module _ (t : List ℕ) (at : ℕ) where
  pub mark_low : be32 t at ≤ mark_limit → 0 ≡ mark_fault t at
  unfolding mark_fault signed32
  mark_low h = simp (lt-ltb (be32 t at) 2_147_483_648 (omega arith), le-leb _ _ h)

  pub mark_high : 2_294_967_296 ≤ be32 t at → 0 ≡ mark_fault t at
  unfolding mark_fault signed32
  mark_high h =
      simp (
        le-ltb (be32 t at) 2_147_483_648 (omega arith),
        opposites mark_limit (4294967296 - be32 t at),
        opposite_low (4294967296 - be32 t at) mark_limit,
        le-leb (4294967296 - be32 t at) mark_limit (omega arith),
      )

  pub mark_between : mark_limit < be32 t at → be32 t at < 2_294_967_296 → 14 ≡ mark_fault t at
  unfolding mark_fault signed32
  mark_between h k = go (dec_lt (be32 t at) 2_147_483_648)
    where
      go : Dec (be32 t at < 2_147_483_648) → 14 ≡ mark_fault t at
      go (yes l) = simp (lt-ltb _ _ l, lt-leb _ _ h)
      go (no l) =
          simp (
            le-ltb (be32 t at) 2_147_483_648 (omega arith),
            opposites mark_limit (4294967296 - be32 t at),
            lt-leb (4294967296 - be32 t at) mark_limit (omega arith),
          )

  -- a mark in range that is not low is high
  pub mark_right : (x : ℕ) → x ≡ be32 t at → mark_fault t at ≡ 0 → mark_limit < x → 2_294_967_296 ≤ x
  mark_right x same e h = go (dec_lt (be32 t at) 2_294_967_296)
    where
      go : Dec (be32 t at < 2_294_967_296) → 2_294_967_296 ≤ x
      go (yes l) = absurd (let z : ◌≡◌ {A = ℕ} 14 0 = mark_between (omega arith) l ∙ e in omega arith)
      go (no l) = omega arith

  pub mark_of_low : (x : ℕ) → x ≡ be32 t at → x ≤ mark_limit → signed32 t at ≡ sub_ℕ (x + mark_limit) mark_limit
  unfolding signed32
  mark_of_low x e h =
      let same : be32 t at + mark_limit - mark_limit ≡ be32 t at = omega arith in
      rw e
      (simp (
        lt-ltb (be32 t at) 2_147_483_648 (omega arith),
        le-ltb (be32 t at + mark_limit) mark_limit (omega arith),
        same,
      ))

  pub mark_of_high : (x : ℕ) → x ≡ be32 t at → 2_294_967_296 ≤ x → x < 4_294_967_296 → signed32 t at ≡ sub_ℕ (x - 2_294_967_296) mark_limit
  unfolding signed32
  mark_of_high x e h k =
      let same : 4_294_967_296 - be32 t at ≡ suc (mark_limit - suc (be32 t at - 2_294_967_296)) = omega arith in
      rw e
      (simp (
        le-ltb (be32 t at) 2_147_483_648 (omega arith),
        lt-ltb (be32 t at - 2_294_967_296) mark_limit (omega arith),
        same,
      ))
