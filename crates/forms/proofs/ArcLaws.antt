-- Arcs that ascend by tail: how many have a tail below u cuts them in two, and between two cuts lie the arcs of one tail. So the arc from u to v is
-- found among those of tail u.
use Prim.Native.Nat.{ℕ, zero, suc, ◌+◌, ◌-◌, ◌<◌, ◌≤◌}
use native.Mathlib.Nat.{sub-zero, add-zero, zero-add, add-suc, le_refl, le_of_lt, le_of_eq}
use native.Mathlib.Numerals.{add-one}
use native.Mathlib.Omega.{arith}
use native.Mathlib.Decide.{dec_le}
use mathlib.Core.Path.{◌≡◌, refl, sym, ap, subst, ◌∙◌}
use mathlib.Core.List.{List}
use mathlib.Core.Bool.{Bool, true, false}
use mathlib.Core.Logic.{⊎_elim}
use lib.Dec.{ltb}
use lib.ListN.{length, get_or}
use borrow.Author.Tests.{eq-eqb, ne_eqb, ltb-true, ltb-false}
use Rattle.std.specs.Prelude.{Option, Some, None}
use Rattle.mathematics.specs.Graph.{joins}
use Rattle.mathematics.specs.Cover.{one_if}
use Rattle.forms.specs.Bytes.{tabulate}
use Rattle.forms.specs.Limits.{room_vertices}
use Rattle.forms.specs.GraphForm.{arc_count, arc_at, arc_tail, arc_head, arc_length}
use Rattle.forms.specs.GraphOf.{arc_of, arcs_of}
use Rattle.forms.specs.GraphReads.{ArcsRight}
use Rattle.forms.specs.ArcTable.{number_from, arc_number, tails_below, ArcsFrom, ArcTable}

abbrev pub tail_of : List ℕ → ℕ → ℕ
tail_of s a = arc_tail s (arc_at s a)

abbrev pub head_of : List ℕ → ℕ → ℕ
head_of s a = arc_head s (arc_at s a)

-- a row of numbers that does not fall: of count of them from number i on, the first below are under u, and the others are not
module _ (t : ℕ → ℕ) where
  rises : (m : ℕ) → ((a : ℕ) → suc a < m → t a ≤ t (suc a)) → (d i : ℕ) → i + d < m → t i ≤ t (i + d)
  rises m step zero i h = rw add-zero (le_refl _)
  rises m step (suc d) i h =
      let last : t (i + d) ≤ t (suc (i + d)) = step (i + d) (omega arith) in
      let before : t i ≤ t (i + d) = rises m step d i (omega arith) in
      rw add-suc (omega arith)

  Rise : ℕ → ℕ → Type 0
  Rise count i = (j k : ℕ) → i ≤ j → j ≤ k → k < i + count → t j ≤ t k

  record Cut (u count i below : ℕ) : Type 0 where
    low : (k : ℕ) → i ≤ k → k < i + below → t k < u
    high : (k : ℕ) → i + below ≤ k → k < i + count → u ≤ t k
    most : below ≤ count

  cut_low : (u count i below : ℕ) → t i < u → Cut u count (suc i) below → (k : ℕ) → i ≤ k → k < i + (1 + below) → t k < u
  cut_low u count i below h c k a b =
      elim (dec_le (suc i) k) [ yes l ↦ c.low k l (omega arith) | no l ↦ subst (λ x. t x < u) (omega arith) h ]

  cut_more : (u count i below : ℕ) → Rise (suc count) i → (b : Bool) → ltb (t i) u ≡ b → Cut u count (suc i) below → Cut u (suc count) i (one_if b + below)
  unfolding Rise
  cut_more u count i below rise true e c =
      record {
        low = cut_low u count i below (ltb-true (t i) u e) c;
        high = λ k a b. c.high k (omega arith) (omega arith);
        most = omega (arith, c.most);
      }
  cut_more u count i zero rise false e c =
      record {
        low = λ k a b. absurd (omega arith);
        high = λ k a b. omega (arith, ltb-false (t i) u e, rise i k (le_refl i) (omega arith) b);
        most = omega arith;
      }
  cut_more u count i (suc below) rise false e c =
      absurd (omega (arith, ltb-false (t i) u e, rise i (suc i) (le_refl i) (omega arith) (omega (arith, c.most)), c.low (suc i) (le_refl (suc i)) (omega arith)))

module _ (s : List ℕ) where
  cut : (u count i : ℕ) → Rise (tail_of s) count i → Cut (tail_of s) u count i (tails_below (tabulate (arc_of s) count i) u)
  unfolding tails_below Rise
  cut u zero i rise = record { low = λ k a b. absurd (omega arith); high = λ k a b. absurd (omega arith); most = omega arith }
  cut u (suc count) i rise =
      cut_more (tail_of s) u count i _ rise (ltb (tail_of s i) u) refl
      (cut u count (suc i) (λ j k a b c. rise j k (omega arith) b (omega arith)))

  module _ (right : ArcsRight s) where
    steps : (a : ℕ) → suc a < arc_count s → tail_of s a ≤ tail_of s (suc a)
    steps a h = ⊎_elim (λ l. le_of_lt l) (λ e. le_of_eq e.0) (right.ascending a h)

    all_rise : Rise (tail_of s) (arc_count s) 0
    unfolding Rise
    all_rise j k a b c =
        let split : j + (k - j) ≡ k = omega arith in
        subst (λ x. tail_of s j ≤ tail_of s x) split (rises (tail_of s) (arc_count s) steps (k - j) j (omega arith))

    -- the arcs of the form, cut at u
    whole_cut : (u : ℕ) → Cut (tail_of s) u (arc_count s) 0 (tails_below (arcs_of s) u)
    whole_cut u = cut u (arc_count s) 0 all_rise

-- Counting the arcs whose tail is below u, from arc a on, where the arcs before a are counted.
module _ (s : List ℕ) (base count u a : ℕ) (c : ArcsFrom s base count) (passed : a ≤ tails_below (arcs_of s) u) where
  pub below_inside : a < count → arc_at s a + arc_length ≤ length s
  below_inside h = (c.right.each a (omega (arith, c.arcs))).whole

  module _ {tail : ℕ} (its_tail : tail ≡ tail_of s a) where
    pub below_turns : a < count → tail < u → a + 1 ≤ tails_below (arcs_of s) u
    below_turns h l =
        elim (dec_le (a + 1) (tails_below (arcs_of s) u))
        [ yes y ↦ y | no y ↦ absurd (omega (arith, its_tail, (whole_cut s c.right u).high a (omega arith) (omega (arith, c.arcs)))) ]

    pub below_stops : u ≤ tail → a ≡ tails_below (arcs_of s) u
    below_stops l =
        elim (dec_le (tails_below (arcs_of s) u) a)
        [ yes y ↦ omega arith | no y ↦ absurd (omega (arith, its_tail, (whole_cut s c.right u).low a (omega arith) (omega arith))) ]

  pub below_ends : count ≤ a → count ≡ tails_below (arcs_of s) u
  below_ends h = omega (arith, (whole_cut s c.right u).most, c.arcs)

-- a row of the table of first arcs is not above the next
pub tails_grow : (s : List ℕ) → ArcsRight s → (u : ℕ) → tails_below (arcs_of s) u ≤ tails_below (arcs_of s) (u + 1)
tails_grow s right u =
    elim (dec_le (tails_below (arcs_of s) u) (tails_below (arcs_of s) (u + 1))) [
      | yes y ↦ y
      | no y ↦
          absurd
          (omega (
            arith,
            (whole_cut s right u).low (tails_below (arcs_of s) (u + 1)) (omega arith) (omega arith),
            (whole_cut s right (u + 1)).high (tails_below (arcs_of s) (u + 1)) (omega arith) (omega (arith, (whole_cut s right u).most)),
          ))
    ]

pub tails_most : (s : List ℕ) → ArcsRight s → (u : ℕ) → tails_below (arcs_of s) u ≤ arc_count s
tails_most s right u = (whole_cut s right u).most

-- Finding the arc from u to v: what is found from arc a on.
module _ (s : List ℕ) (u v : ℕ) where
  unfoldable pub found_from : ℕ → Option ℕ
  found_from a = number_from (tabulate (arc_of s) (arc_count s - a) a) u v a

  pub next : (k a : ℕ) → joins (arc_of s a) u v ≡ false → number_from (tabulate (arc_of s) (suc k) a) u v a ≡ number_from (tabulate (arc_of s) k (suc a)) u v (suc a)
  unfolding number_from
  next k a e = simp e

  pub here : (k a : ℕ) → joins (arc_of s a) u v ≡ true → number_from (tabulate (arc_of s) (suc k) a) u v a ≡ Some a
  unfolding number_from
  here k a e = simp e

  skip : (a : ℕ) → a < arc_count s → joins (arc_of s a) u v ≡ false → found_from a ≡ found_from (a + 1)
  unfolding found_from
  skip a h e =
      let split : arc_count s - a ≡ suc (arc_count s - (a + 1)) = omega arith in
      rw (split, next (arc_count s - (a + 1)) a e, add-one)

  stop : (a : ℕ) → a < arc_count s → joins (arc_of s a) u v ≡ true → found_from a ≡ Some a
  unfolding found_from
  stop a h e =
      let split : arc_count s - a ≡ suc (arc_count s - (a + 1)) = omega arith in
      rw (split, here (arc_count s - (a + 1)) a e)

  none : (a : ℕ) → arc_count s ≤ a → found_from a ≡ None
  unfolding found_from number_from
  none a h =
      let empty : arc_count s - a ≡ 0 = omega arith in
      rw empty

  skip_many : (d a : ℕ) → a + d ≤ arc_count s → ((k : ℕ) → a ≤ k → k < a + d → tail_of s k ≡ u → ⊥) → found_from a ≡ found_from (a + d)
  skip_many zero a h other = rw add-zero
  skip_many (suc d) a h other =
      let one : joins (arc_of s a) u v ≡ false = simp (ne_eqb _ _ (other a (omega arith) (omega arith))) in
      let more : found_from (a + 1) ≡ found_from (a + 1 + d) = skip_many d (a + 1) (omega arith) (λ k b c. other k (omega arith) (omega arith)) in
      let same : a + 1 + d ≡ a + suc d = omega arith in
      skip a (omega arith) one ∙ more ∙ ap found_from same

  start : arc_number (arcs_of s) u v ≡ found_from 0
  unfolding found_from
  start = rw sub-zero

  -- where the table has u's first arc, and the first arc of the next vertex: between the two lie the arcs of tail u
  module _ {first : List ℕ} (t : ArcTable s first) (u_low : u < room_vertices) where
    from_at : get_or first u 0 ≡ tails_below (arcs_of s) u
    from_at = t.at u (omega arith)

    end_at : get_or first (u + 1) 0 ≡ tails_below (arcs_of s) (u + 1)
    end_at = t.at (u + 1) (omega arith)

    within : (a : ℕ) → a < get_or first (u + 1) 0 → a < arc_count s
    within a h = omega (arith, end_at, tails_most s t.arcs (u + 1))

    pub find_inside : (a : ℕ) → a < get_or first (u + 1) 0 → arc_at s a + arc_length ≤ length s
    find_inside a h = (t.arcs.each a (within a h)).whole

    pub find_begins : (a : ℕ) → a ≡ get_or first u 0 → (a ≤ arc_count s) × (arc_number (arcs_of s) u v ≡ found_from a)
    find_begins a e = (
      omega (arith, from_at, tails_most s t.arcs u),
      start ∙ skip_many a 0 (omega (arith, from_at, tails_most s t.arcs u))
          (λ k b c same. omega (arith, (whole_cut s t.arcs u).low k b (omega (arith, from_at)))) ∙ ap found_from (zero-add a),
    )

    tail_is : (a : ℕ) → get_or first u 0 ≤ a → a < get_or first (u + 1) 0 → tail_of s a ≡ u
    tail_is a l h =
        omega (
          arith,
          (whole_cut s t.arcs u).high a (omega (arith, from_at)) (omega (arith, within a h)),
          (whole_cut s t.arcs (u + 1)).low a (omega arith) (omega (arith, end_at)),
        )

    module _ (a : ℕ) (l : get_or first u 0 ≤ a) (h : a < get_or first (u + 1) 0) {head : ℕ} (its_head : head ≡ head_of s a) where
      pub find_turns : (head ≡ v → ⊥) → (a + 1 ≤ arc_count s) × (found_from a ≡ found_from (a + 1))
      find_turns other = (
        omega (arith, within a h),
        skip a (within a h) (simp (eq-eqb _ _ (tail_is a l h), ne_eqb _ _ (λ e. other (its_head ∙ e)))),
      )

      pub find_stops : head ≡ v → found_from a ≡ Some a
      find_stops e = stop a (within a h) (simp (eq-eqb _ _ (tail_is a l h), eq-eqb _ _ (sym its_head ∙ e)))

    pub find_ends : (a : ℕ) → a ≤ arc_count s → get_or first (u + 1) 0 ≤ a → found_from a ≡ None
    find_ends a few h =
        skip_many (arc_count s - a) a (omega arith)
        (λ k b c same. omega (arith, (whole_cut s t.arcs (u + 1)).high k (omega (arith, end_at)) (omega arith)))
        ∙ none (a + (arc_count s - a)) (omega arith)
