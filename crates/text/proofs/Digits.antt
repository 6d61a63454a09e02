-- The digits of a number, found from the last to the first: what the loop that stores them keeps from turn to turn.
use Rattle.std.proofs.Common.{ℕ, zero, suc, ◌+◌, ◌-◌, ◌*◌, ◌/◌, ◌%◌, ◌^◌, ◌≤◌, ◌<◌, ◌≡◌, refl, sym, ap, ap₂, ◌∙◌, Bool, true, false, cond, ltb, List, [], ◌∷◌, ◌++◌, length, take, drop, set, take-append-drop, drop-cons, drop-set-lt, get_or-set_same, lt-length-set, le_refl, pow-suc, arith, ltb-true}
use Rattle.std.proofs.lemmas.List.{take-set-le}
use Rattle.text.specs.Text.{digit, digits_before, decimal, TextFits, Puts}
use Rattle.text.proofs.Storing.{set_whole}

-- a byte stored in front of the last ones
drop_set : (l : List ℕ) (j v : ℕ) → j < length l → drop j (set l j v) ≡ v ∷ drop (suc j) l
drop_set l j v h =
    drop-cons (set l j v) j 0 (lt-length-set l j v h) ∙ ap₂ ◌∷◌ (get_or-set_same l j v 0 h) (drop-set-lt (suc j) l j v (le_refl (suc j)))

-- a text chosen by a test
pub chosen : (P : List ℕ → Type 0) (b : Bool) (x y : List ℕ) → (b ≡ true → P x) → (b ≡ false → P y) → P (cond b x y)
chosen P true x y f g = f refl
chosen P false x y f g = g refl

some_digit : (j x : ℕ) → 1 ≤ x → x < 10 ^ j → 1 ≤ j
some_digit zero x a b = absurd (omega arith)
some_digit (suc j) x a b = omega arith

-- without its last digit a number of two digits or more has one digit less
pub one_digit_less : (k n : ℕ) → 10 ≤ n → n < 10 ^ k → (1 ≤ k - 1) × (n / 10 < 10 ^ (k - 1))
one_digit_less zero n l h = absurd (omega arith)
one_digit_less (suc j) n l h =
    let e : suc j - 1 ≡ j = omega arith in
    let p : n < 10 ^ j * 10 = rw pow-suc at h in
    let less : n / 10 < 10 ^ j = omega arith in
    rw e (some_digit j (n / 10) (omega arith) less, less)

both_longer : (b : Bool) (x y x' y' : List ℕ) (more : ℕ) → length x ≡ length x' + more → length y ≡ length y' + more → length (cond b x y) ≡ length (cond b x' y') + more
both_longer true x y x' y' more p q = p
both_longer false x y x' y' more p q = q

-- what stands behind a number's digits adds its own length. The last fact is for the turned definition: this law holds of it too, so that it is refused at `digits_turn`
pub digits_before_lem : (places n : ℕ) (after : List ℕ) → length (digits_before places n after) ≡ length (digits_before places n []) + length after
unfolding digits_before
digits_before_lem zero n after = omega arith
digits_before_lem (suc places) n after =
    let d = digit (n % 10) in
    both_longer (ltb n 10) (digit n ∷ after) _ (digit n ∷ []) _ (length after)
    (omega arith)
    (omega (arith, digits_before_lem places (n / 10) (d ∷ after), digits_before_lem places (n / 10) (d ∷ []), digits_before_lem places (n / 10) after))

-- so many digits of a number, found from the last to the first, in front of what follows
pub last_digits : ℕ → ℕ → List ℕ → List ℕ
last_digits zero n after = after
last_digits (suc more) n after = last_digits more (n / 10) (digit (n % 10) ∷ after)

turned : (b : Bool) (n : ℕ) (x y x' y' after : List ℕ) → (b ≡ true → x ≡ last_digits (length x') n after) → (b ≡ false → y ≡ last_digits (length y') n after) →
    cond b x y ≡ last_digits (length (cond b x' y')) n after
turned true n x y x' y' after f g = f refl
turned false n x y x' y' after f g = g refl

-- as many as the number's text has make that text
digits_turn : (places n : ℕ) (after : List ℕ) → digits_before places n after ≡ last_digits (length (digits_before places n [])) n after
unfolding digits_before last_digits
digits_turn zero n after = refl
digits_turn (suc places) n after =
    let d = digit (n % 10) in
    let long : length (digits_before places (n / 10) (d ∷ [])) ≡ suc (length (digits_before places (n / 10) [])) = omega (arith, digits_before_lem places (n / 10) (d ∷ [])) in
    turned (ltb n 10) n (digit n ∷ after) (digits_before places (n / 10) (d ∷ after)) (digit n ∷ []) (digits_before places (n / 10) (d ∷ [])) after
    (λ e. ap (λ k. k ∷ after) (omega (arith, ltb-true n 10 e)))
    (λ e. digits_turn places (n / 10) (d ∷ after) ∙ ap (λ k. last_digits k n after) (sym long))

both_followed : (b : Bool) (x y x' y' after : List ℕ) → x ≡ x' ++ after → y ≡ y' ++ after → cond b x y ≡ cond b x' y' ++ after
both_followed true x y x' y' after p q = p
both_followed false x y x' y' after p q = q

-- what stands behind a number's digits follows them
digits_followed : (places n : ℕ) (more after : List ℕ) → digits_before places n (more ++ after) ≡ digits_before places n more ++ after
unfolding digits_before
digits_followed zero n more after = refl
digits_followed (suc places) n more after =
    let d = digit (n % 10) in
    both_followed (ltb n 10) (digit n ∷ (more ++ after)) (digits_before places (n / 10) (d ∷ (more ++ after))) (digit n ∷ more) (digits_before places (n / 10) (d ∷ more)) after
    refl (digits_followed places (n / 10) (d ∷ more) after)

-- the places before `place` are as they were, and behind its last ones, which are stored, the digits of `rest` make the text with them
pub record DigitsLeft (before : List ℕ) (at end n place rest : ℕ) (out : List ℕ) : Type 0 where
  pub inside : at ≤ place
  pub front : take at out ≡ take at before
  pub whole : last_digits (place - at) rest (drop place out) ≡ decimal n ++ drop end before

pub digits_start : {out : List ℕ} {at n many : ℕ} → many ≡ length (decimal n) → DigitsLeft out at (at + many) n (at + many) n out
unfolding decimal
digits_start {out} {at} {n} {many} e =
    let all : at + many - at ≡ length (decimal n) = omega arith in
    record {
      inside = omega arith;
      front = refl;
      whole =
          ap (λ k. last_digits k n (drop (at + many) out)) all ∙
          (sym (digits_turn 20 n (drop (at + many) out)) ∙ digits_followed 20 n [] (drop (at + many) out));
    }

pub digits_next : {before out : List ℕ} {at end n place rest : ℕ} → at < place → place ≤ length out → DigitsLeft before at end n place rest out →
    DigitsLeft before at end n (place - 1) (rest / 10) (set out (place - 1) (48 + rest % 10))
unfolding last_digits
digits_next {before} {out} {at} {end} {n} {place} {rest} l long h =
    let more : suc (place - 1 - at) ≡ place - at = omega arith in
    let here : suc (place - 1) ≡ place = omega arith in
    let inside : place - 1 < length out = omega arith in
    record {
      inside = omega arith;
      front = take-set-le at out (place - 1) (48 + rest % 10) (omega arith) ∙ h.front;
      whole =
          ap (last_digits (place - 1 - at) (rest / 10)) (drop_set out (place - 1) (48 + rest % 10) inside) ∙
          (ap₂ (λ k j. last_digits k rest (drop j out)) more here ∙ h.whole);
    }

pub digits_end : {before out : List ℕ} {at n many place rest : ℕ} → place ≤ at → TextFits before at (decimal n) → many ≡ length (decimal n) →
    DigitsLeft before at (at + many) n place rest out → Puts before at (decimal n) out (at + many)
unfolding last_digits
digits_end {before} {out} {at} {n} {many} {place} {rest} l fits e h =
    let here : place ≡ at = omega (arith, h.inside) in
    let none : place - at ≡ 0 = omega arith in
    let whole : drop at out ≡ decimal n ++ drop (at + many) before = rw (none, here) at h.whole in
    record {
      bytes =
          sym (take-append-drop at out) ∙
          (ap₂ ◌++◌ h.front (rw e at whole) ∙ sym (set_whole before at (decimal n) fits));
      ends = omega arith;
    }
