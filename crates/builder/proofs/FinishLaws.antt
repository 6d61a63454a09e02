-- Laws of the final marks and of the price: what is reckoned arc after arc comes to the price of the loads, and never passes it.
use Rattle.std.proofs.Common.{ℕ, zero, suc, ◌+◌, ◌*◌, ◌-◌, ◌≤◌, ◌<◌, ◌≡◌, refl, sym, ap, ap₂, ◌∙◌, List, length, take, drop, sum, Bool, cond, ◌&&◌, arith, add-one, length-drop}
use Rattle.std.proofs.lemmas.List.{get_or-drop}
use Rattle.std.proofs.lemmas.List.Sums.{sum_by_more}
use Rattle.mathematics.specs.Reach.{from_start, to_end}
use Rattle.forms.specs.GraphForm.{vertex_count, arc_count, opening_price, arc_at, arc_cost}
use Rattle.forms.specs.GraphOf.{graph_of}
use Rattle.network.specs.Network.{nth, sum_to, base, span, most_edges, most_moved, highest}
use Rattle.paths.specs.Slots.{across_slot, copies_of}
use Rattle.builder.specs.Finish.{held_mark, arc_worth, price_from, Priced, most_through, most_price}
use Rattle.wiring.proofs.SlotLaws.{sum_up}

-- a side's mark by the two flags of its vertex
pub held_is : (s mark : List ℕ) (side : ℕ → ℕ) (v : ℕ) (reached reaching : Bool) (x : ℕ) → reached ≡ from_start (graph_of s) v → reaching ≡ to_end (graph_of s) v →
    x ≡ cond (reached && reaching) (nth mark (side v)) (cond reached (base - span) highest) → x ≡ held_mark s side mark v
unfolding held_mark
held_is s mark side v reached reaching x e f q = q ∙ ap₂ (λ a b. cond (a && b) (nth mark (side v)) (cond a (base - span) highest)) e f

-- the sum of a part of the loads
sum_part : (xs : List ℕ) (first n : ℕ) → first + n ≤ length xs → sum (take n (drop first xs)) ≡ sum_to n (λ k. nth xs (first + k))
sum_part xs first zero h = refl
sum_part xs first (suc n) h =
    let room : n < length (drop first xs) = omega (arith, length-drop first xs) in
    ap (λ k. sum (take k (drop first xs))) (sym (add-one n)) ∙ sum_by_more (λ x. x) (drop first xs) n 0 room ∙
    ap₂ (λ (x y : ℕ). x + y) (sum_part xs first n (omega arith)) (get_or-drop first xs n 0)

-- the price of the loads, arc after arc
module _ (s full arc_reads : List ℕ) (P : Priced s full arc_reads) (n m : ℕ) (en : n ≡ vertex_count s) (em : m ≡ arc_count s) where
  abbrev before : ℕ → ℕ
  before a = copies_of s full * opening_price s + sum_to a (arc_worth s full)

  -- no more is reckoned than the price
  within : (a : ℕ) → a ≤ arc_count s → before a ≤ most_price
  unfolding price_from
  within a h = omega (arith, P.low, sum_up a (arc_count s) (arc_worth s full) h)

  -- what lies on the openings, which stand behind the vertices and the arcs
  abbrev on_openings : ℕ
  on_openings = sum (take (n + m + n - (n + m)) (drop (n + m) full))

  module _ (long : length full ≡ most_edges) where
    copies_same : on_openings ≡ copies_of s full
    copies_same =
        let h = P.reads.arcs.header in
        let e : n + m + n - (n + m) ≡ n = omega arith in
        ap (λ k. sum (take k (drop (n + m) full))) e ∙ sum_part full (n + m) n (omega (arith, h.vertices_room, h.arcs_room)) ∙
        ap₂ (λ x y. sum_to x (λ k. nth full (x + y + k))) en em

    pub copies_asked : on_openings ≤ most_moved
    copies_asked = omega (arith, copies_same, P.few)

    pub first_price : (r o : ℕ) → r ≡ on_openings → o ≡ opening_price s → r * o ≡ copies_of s full * opening_price s + sum_to 0 (arc_worth s full)
    first_price r o e q = ap₂ (λ (x y : ℕ). x * y) (e ∙ copies_same) q ∙ (let z : copies_of s full * opening_price s ≡ copies_of s full * opening_price s + 0 = omega arith in z)

    pub first_fits : (r o : ℕ) → r ≡ on_openings → o ≡ opening_price s → r * o ≤ most_price
    first_fits r o e q = omega (arith, first_price r o e q, within 0 (omega arith))

  module _ (a : ℕ) (h : a < m) where
    pub total_fits : nth full (n + (m - (a + 1))) + nth arc_reads a ≤ most_through
    total_fits =
        let slot : n + (m - (a + 1)) ≡ across_slot s a = omega arith in
        omega (arith, P.totals a (omega arith), P.counted a (omega arith), ap (nth full) slot)

    module _ (cost : ℕ) (ec : cost ≡ arc_cost s (arc_at s a)) where
      worth : (nth full (n + (m - (a + 1))) + nth arc_reads a) * cost ≡ arc_worth s full a
      worth =
          let slot : n + (m - (a + 1)) ≡ across_slot s a = omega arith in
          ap₂ (λ (x y : ℕ). x * y) (ap₂ (λ (x y : ℕ). x + y) (ap (nth full) slot) (P.counted a (omega arith))) ec

      pub next_price : (price : ℕ) → price ≡ copies_of s full * opening_price s + sum_to a (arc_worth s full) →
          price + (nth full (n + (m - (a + 1))) + nth arc_reads a) * cost ≡ copies_of s full * opening_price s + sum_to (a + 1) (arc_worth s full)
      next_price price e = omega (arith, worth, ap (λ k. sum_to k (arc_worth s full)) (add-one a))

      pub next_fits : (price : ℕ) → price ≡ copies_of s full * opening_price s + sum_to a (arc_worth s full) →
          price + (nth full (n + (m - (a + 1))) + nth arc_reads a) * cost ≤ most_price
      next_fits price e = omega (arith, next_price price e, within (a + 1) (omega arith))

  -- after the last arc it is the price
  pub price_done : (a price : ℕ) → a ≤ m → m ≤ a → price ≡ copies_of s full * opening_price s + sum_to a (arc_worth s full) → price ≡ price_from s full
  unfolding price_from
  price_done a price h k e = let q : a ≡ arc_count s = omega arith in omega (arith, ap (λ j. sum_to j (arc_worth s full)) q)
