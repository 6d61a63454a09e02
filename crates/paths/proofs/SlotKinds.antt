-- Which link stands at each slot of a graph form: the link at the slot of each vertex, arc, opening, closing and read, and of each slot the kind.
use Rattle.std.proofs.Common.{ℕ, ◌+◌, ◌*◌, ◌-◌, ◌≤◌, ◌<◌, arith, ◌≡◌, refl, ap, ◌∙◌, List, [], ◌⊎◌, inl, inr, lt-ltb, le-ltb, get_or}
use Rattle.mathematics.proofs.Links.{opening, closing, inside, across, reading}
use Rattle.forms.specs.GraphForm.{vertex_count, arc_count, arc_at, arc_tail, arc_head}
use Rattle.network.proofs.NetworkLaws.{below_or_not}
use Rattle.paths.specs.Slots.{prepared_of, plain_slots, inside_slot, across_slot, opening_slot, closing_slot, reading_slot, link_at}

-- the kind of slot e, with its place among its kind
pub data SlotKind (s : List ℕ) (e : ℕ) : Type 0 where
  is_inside : (v : ℕ) → v < vertex_count s → e ≡ inside_slot s v → link_at s e ≡ inside v → SlotKind s e
  is_across : (a : ℕ) → a < arc_count s → e ≡ across_slot s a → link_at s e ≡ across (arc_tail s (arc_at s a)) (arc_head s (arc_at s a)) → SlotKind s e
  is_opening : (v : ℕ) → v < vertex_count s → e ≡ opening_slot s v → link_at s e ≡ opening v → SlotKind s e
  is_closing : (v : ℕ) → v < vertex_count s → e ≡ closing_slot s v → link_at s e ≡ closing v → SlotKind s e

module _ (s : List ℕ) where
  abbrev n : ℕ
  n = vertex_count s

  abbrev m : ℕ
  m = arc_count s

  pub at_inside : (v : ℕ) → v < vertex_count s → link_at s (inside_slot s v) ≡ inside v
  unfolding link_at
  at_inside v h = rw (lt-ltb v n h)

  pub at_across : (a : ℕ) → a < arc_count s → link_at s (across_slot s a) ≡ across (arc_tail s (arc_at s a)) (arc_head s (arc_at s a))
  unfolding link_at
  at_across a h =
      let k : n + m - (across_slot s a + 1) ≡ a = omega arith in
      rw (le-ltb (across_slot s a) n (omega arith), lt-ltb (across_slot s a) (n + m) (omega arith), k)

  pub at_opening : (v : ℕ) → v < vertex_count s → link_at s (opening_slot s v) ≡ opening v
  unfolding link_at
  at_opening v h =
      let k : 2 * n + m - (opening_slot s v + 1) ≡ v = omega arith in
      rw (le-ltb (opening_slot s v) n (omega arith), le-ltb (opening_slot s v) (n + m) (omega arith), lt-ltb (opening_slot s v) (2 * n + m) (omega arith), k)

  pub at_closing : (v : ℕ) → v < vertex_count s → link_at s (closing_slot s v) ≡ closing v
  unfolding link_at
  at_closing v h =
      let k : closing_slot s v - (2 * n + m) ≡ v = omega arith in
      rw (
        le-ltb (closing_slot s v) n (omega arith),
        le-ltb (closing_slot s v) (n + m) (omega arith),
        le-ltb (closing_slot s v) (2 * n + m) (omega arith),
        lt-ltb (closing_slot s v) (plain_slots s) (omega arith),
        k,
      )

  pub at_reading : (r : ℕ) → link_at s (reading_slot s r) ≡ reading (get_or (prepared_of s) r [])
  unfolding link_at
  at_reading r =
      let k : reading_slot s r - plain_slots s ≡ r = omega arith in
      rw (
        le-ltb (reading_slot s r) n (omega arith),
        le-ltb (reading_slot s r) (n + m) (omega arith),
        le-ltb (reading_slot s r) (2 * n + m) (omega arith),
        le-ltb (reading_slot s r) (plain_slots s) (omega arith),
        k,
      )

  pub slot_kind : (e : ℕ) → e < plain_slots s → SlotKind s e
  slot_kind e h = one (below_or_not e n) (below_or_not e (n + m)) (below_or_not e (2 * n + m))
    where
      one : (e < n) ⊎ (n ≤ e) → (e < n + m) ⊎ (n + m ≤ e) → (e < 2 * n + m) ⊎ (2 * n + m ≤ e) → SlotKind s e
      one (inl l) y z = is_inside e l refl (at_inside e l)
      one (inr g) (inl l) z =
          let a : ℕ = n + m - (e + 1) in
          let k : e ≡ across_slot s a = omega arith in
          is_across a (omega arith) k (ap (link_at s) k ∙ at_across a (omega arith))
      one (inr g) (inr k) (inl l) =
          let v : ℕ = 2 * n + m - (e + 1) in
          let q : e ≡ opening_slot s v = omega arith in
          is_opening v (omega arith) q (ap (link_at s) q ∙ at_opening v (omega arith))
      one (inr g) (inr k) (inr j) =
          let v : ℕ = e - (2 * n + m) in
          let q : e ≡ closing_slot s v = omega arith in
          is_closing v (omega arith) q (ap (link_at s) q ∙ at_closing v (omega arith))

  -- a slot behind the plain ones is a read's
  pub any_slot : (e : ℕ) → ((e < plain_slots s) × SlotKind s e) ⊎ ((r : ℕ) × (e ≡ reading_slot s r) × (link_at s e ≡ reading (get_or (prepared_of s) r [])))
  any_slot e = one (below_or_not e (plain_slots s))
    where
      one : (e < plain_slots s) ⊎ (plain_slots s ≤ e) →
          ((e < plain_slots s) × SlotKind s e) ⊎ ((r : ℕ) × (e ≡ reading_slot s r) × (link_at s e ≡ reading (get_or (prepared_of s) r [])))
      one (inl l) = inl (l, slot_kind e l)
      one (inr g) =
          let r : ℕ = e - plain_slots s in
          let q : e ≡ reading_slot s r = omega arith in
          inr (r, q, ap (link_at s) q ∙ at_reading r)
