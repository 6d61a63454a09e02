-- The slots of a graph form, one by one: what lies on each at first; the slot of each vertex and arc that asks; and sums over all slots.
use Prim.Native.Nat.{ℕ, zero, suc, ◌+◌, ◌*◌, ◌-◌, ◌≤◌, ◌<◌}
use native.Mathlib.Omega.{arith}
use native.Mathlib.Nat.{mul-zero, mul-one, one-mul}
use mathlib.Core.Path.{◌≡◌, refl, sym, ap, ap₂, subst, ◌∙◌}
use mathlib.Core.List.{List, [], ◌∷◌, map}
use mathlib.Core.Bool.{Bool, true, false, cond}
use mathlib.Core.Logic.{◌⊎◌, inl, inr, ◌≢◌}
use borrow.Author.Tests.{lt-ltb, le-ltb, eq-eqb, ne_eqb}
use lib.Dec.{T, eqb, ltb, eqb_refl}
use lib.ListN.{length, get_or}
use Rattle.mathematics.specs.Lists.{All}
use Rattle.mathematics.specs.Cover.{Item, vert, arc, same_item, one_if, through, Ask, vertex_asks, arc_ask, asks}
use Rattle.mathematics.specs.Bound.{reads_through, rest}
use Rattle.mathematics.specs.Reach.{from_start, to_end, useful}
use Rattle.mathematics.proofs.Reach.{from_start_below}
use Rattle.mathematics.proofs.Basics.{and_l, and_in, is_true, is_false, all_append, all_map}
use Rattle.mathematics.proofs.Base.{same_item_lem}
use Rattle.mathematics.proofs.Links.{passes, opens}
use Rattle.forms.specs.Bytes.{tabulate}
use Rattle.forms.specs.GraphForm.{vertex_count, arc_count, opening_price, vertex_demand, arc_at, arc_cost, arc_demand}
use Rattle.forms.specs.GraphOf.{vertex_of, arc_of, graph_of, arc_item}
use Rattle.forms.specs.GraphReads.{ArcsRight, Reads}
use Rattle.forms.proofs.GraphFacts.{all_tabulate, ends_differ, graph_well_formed}
use Rattle.forms.proofs.GraphRange.{vertices_length}
use Rattle.network.specs.Network.{nth, sum_to}
use Rattle.paths.specs.Slots.{prepared_of, plain_slots, all_slots, inside_slot, across_slot, opening_slot, closing_slot, reading_slot, link_at, in_use, edge_cost, first_load, copies_of}
use Rattle.paths.proofs.SlotKinds.{SlotKind, is_inside, is_across, is_opening, is_closing, slot_kind, at_inside, at_across, at_opening, at_closing, at_reading}
use Rattle.network.proofs.NetworkLaws.{same_or_not, below_or_not, sum_same, sum_none}

-- ---- sums

-- a sum of which one term alone counts
pub sum_single : (n r : ℕ) (f : ℕ → ℕ) → r < n → ((v : ℕ) → v < n → v ≢ r → f v ≡ 0) → sum_to n f ≡ f r
sum_single zero r f l none = absurd (omega arith)
sum_single (suc n) r f l none = go (same_or_not r n) (λ l. sum_single n r f l (λ v b d. none v (omega arith) d))
  where
    go : (r ≡ n) ⊎ (r ≢ n) → (r < n → sum_to n f ≡ f r) → sum_to n f + f n ≡ f r
    go (inl e) more = omega (arith, ap f e, sum_none n f (λ v b. none v (omega arith) (λ q. omega arith)))
    go (inr d) more = omega (arith, more (omega arith), none n (omega arith) (λ q. d (sym q)))

pub sum_split : (a b : ℕ) (f : ℕ → ℕ) → sum_to (a + b) f ≡ sum_to a f + sum_to b (λ k. f (a + k))
sum_split a zero f = let e : a + 0 ≡ a = omega arith in omega (arith, ap (λ k. sum_to k f) e)
sum_split a (suc b) f = let e : a + suc b ≡ suc (a + b) = omega arith in omega (arith, ap (λ k. sum_to k f) e, sum_split a b f)

pub sum_front : (n : ℕ) (f : ℕ → ℕ) → sum_to (suc n) f ≡ f 0 + sum_to n (λ k. f (suc k))
sum_front zero f = omega arith
sum_front (suc n) f = omega (arith, sum_front n f)

pub sum_add : (n : ℕ) (f g : ℕ → ℕ) → sum_to n (λ k. f k + g k) ≡ sum_to n f + sum_to n g
sum_add zero f g = refl
sum_add (suc n) f g = omega (arith, sum_add n f g)

pub sum_most : (n : ℕ) (f g : ℕ → ℕ) → ((v : ℕ) → v < n → f v ≤ g v) → sum_to n f ≤ sum_to n g
sum_most zero f g h = omega arith
sum_most (suc n) f g h = omega (arith, sum_most n f g (λ v l. h v (omega arith)), h n (omega arith))

-- a sum of more terms is not less
pub sum_up : (k n : ℕ) (f : ℕ → ℕ) → k ≤ n → sum_to k f ≤ sum_to n f
sum_up k n f h = let e : k + (n - k) ≡ n = omega arith in omega (arith, sum_split k (n - k) f, ap (λ j. sum_to j f) e)

-- f of each list, in total
sum_reads : (i : Item) (rs : List (List ℕ)) → sum_to (length rs) (λ r. through i (get_or rs r [])) ≡ reads_through i rs
sum_reads i [] = refl
sum_reads i (r ∷ rs) = sum_front (length rs) (λ k. through i (get_or (r ∷ rs) k [])) ∙ ap (λ n. through i r + n) (sum_reads i rs)

pub first_or_later : (i j : ℕ) → i ≤ j → (i ≡ j) ⊎ (suc i ≤ j)
first_or_later i j h = pick (same_or_not i j)
  where
    pick : (i ≡ j) ⊎ (i ≢ j) → (i ≡ j) ⊎ (suc i ≤ j)
    pick (inl e) = inl e
    pick (inr ne) = inr (omega arith)

abbrev tail_of : Item → ℕ
tail_of (vert v) = v
tail_of (arc u v) = u

abbrev head_of : Item → ℕ
head_of (vert v) = v
head_of (arc u v) = v

own : (i : Item) → T (same_item i i)
own (vert v) = eqb_refl v
own (arc u v) = and_in (eqb u u) (eqb v v) (eqb_refl u) (eqb_refl v)

below : (a b : ℕ) → a ≢ b → b ≤ a → b < a
below a b ne h = omega arith

-- ---- what lies on a slot at first

module _ (s : List ℕ) where
  abbrev n : ℕ
  n = vertex_count s

  abbrev m : ℕ
  m = arc_count s

  pub first_inside : (v : ℕ) → v < vertex_count s → first_load s (inside_slot s v) ≡ rest (prepared_of s) (vert v) (vertex_demand s v)
  unfolding first_load
  first_inside v h = rw (lt-ltb v n h)

  pub first_across : (a : ℕ) → a < arc_count s → first_load s (across_slot s a) ≡ rest (prepared_of s) (arc_item s a) (arc_demand s (arc_at s a))
  unfolding first_load
  first_across a h =
      let k : n + m - (across_slot s a + 1) ≡ a = omega arith in
      rw (le-ltb (across_slot s a) n (omega arith), lt-ltb (across_slot s a) (n + m) (omega arith), k)

  pub first_end : (e : ℕ) → vertex_count s + arc_count s ≤ e → e < plain_slots s → first_load s e ≡ 0
  unfolding first_load
  first_end e g h = rw (le-ltb e n (omega arith), le-ltb e (n + m) g, lt-ltb e (plain_slots s) h)

  pub first_reading : (r : ℕ) → first_load s (reading_slot s r) ≡ 1
  unfolding first_load
  first_reading r = rw (le-ltb (reading_slot s r) n (omega arith), le-ltb (reading_slot s r) (n + m) (omega arith), le-ltb (reading_slot s r) (plain_slots s) (omega arith))

  -- ---- costs and useful vertices

  -- the cost of a link in use
  pub used_cost : (e : ℕ) → T (in_use s (link_at s e)) →
      edge_cost s e ≡
      cond (ltb e (vertex_count s)) 0
      (cond (ltb e (vertex_count s + arc_count s)) (arc_cost s (arc_at s (vertex_count s + arc_count s - (e + 1))))
      (cond (ltb e (2 * vertex_count s + arc_count s)) (opening_price s) 0))
  unfolding edge_cost
  used_cost e u = rw (is_true (in_use s (link_at s e)) u)

  -- a useful vertex is one of the form
  pub useful_below : Reads s → (v : ℕ) → T (useful (graph_of s) v) → v < vertex_count s
  useful_below right v u =
      subst (λ k. v < k) (vertices_length s)
      (from_start_below (graph_of s) (graph_well_formed s right) v (and_l (from_start (graph_of s) v) (to_end (graph_of s) v) u))

  -- ---- the slot of an item that asks

  -- slot e is the item's own: it alone but for the reads passes the item, and at first it carries the item's rest
  pub record OwnSlot (a : Ask) (e : ℕ) : Type 0 where
    pub below : e < plain_slots s
    pub once : passes a.item (link_at s e) ≡ 1
    pub alone : (d : ℕ) → d < plain_slots s → d ≢ e → passes a.item (link_at s d) ≡ 0
    pub at_first : first_load s e ≡ rest (prepared_of s) a.item a.demand

  one_more : (b : Bool) (k : ℕ) → b ≡ true → one_if b + k ≡ suc k
  one_more b k e = omega (arith, ap one_if e)

  no_more : (b : Bool) (k : ℕ) → b ≡ false → one_if b + k ≡ k
  no_more b k e = omega (arith, ap one_if e)

  pub vertex_slot : (v : ℕ) → v < vertex_count s → OwnSlot (record { item = vert v; demand = vertex_demand s v }) (inside_slot s v)
  vertex_slot v h =
      record {
        below = omega arith;
        once = ap (passes (vert v)) (at_inside s v h) ∙ one_more (same_item (vert v) (vert v)) 0 (eq-eqb v v refl);
        alone = λ d b ne. other d ne (slot_kind s d b);
        at_first = first_inside v h;
      }
    where
      other : (d : ℕ) → d ≢ v → SlotKind s d → passes (vert v) (link_at s d) ≡ 0
      other d ne (is_inside w b e l) = ap (passes (vert v)) l ∙ no_more (same_item (vert v) (vert w)) 0 (ne_eqb v w (λ q. ne (e ∙ sym q)))
      other d ne (is_across a b e l) = ap (passes (vert v)) l
      other d ne (is_opening w b e l) = ap (passes (vert v)) l
      other d ne (is_closing w b e l) = ap (passes (vert v)) l

  pub vertex_asks_lem : (P : Ask → Type 0) (k i : ℕ) → ((v : ℕ) → i ≤ v → v < i + k → P (record { item = vert v; demand = vertex_demand s v })) →
      All P (vertex_asks i (tabulate (vertex_of s) k i))
  vertex_asks_lem P zero i h = tt
  vertex_asks_lem P (suc k) i h = (h i (omega arith) (omega arith), vertex_asks_lem P k (suc i) (λ v a b. h v (omega arith) (omega arith)))

  -- what holds of each vertex and of each arc with its demand holds of all that asks
  pub all_asks : (P : Ask → Type 0) → ((v : ℕ) → v < vertex_count s → P (record { item = vert v; demand = vertex_demand s v })) →
      ((a : ℕ) → a < arc_count s → P (record { item = arc_item s a; demand = arc_demand s (arc_at s a) })) → All P (asks (graph_of s))
  unfolding graph_of
  all_asks P hv ha =
      all_append P (vertex_asks 0 (tabulate (vertex_of s) n 0)) (map arc_ask (tabulate (arc_of s) m 0)) (vertex_asks_lem P n 0 (λ v a b. hv v (omega arith)))
      (all_map P arc_ask (tabulate (arc_of s) m 0) (all_tabulate (arc_of s) (λ x. P (arc_ask x)) m 0 (λ k a b. ha k (omega arith))))

  module _ (right : ArcsRight s) where
    same_ends : (a b : ℕ) → a < arc_count s → b < arc_count s → a ≢ b → same_item (arc_item s a) (arc_item s b) ≡ false
    same_ends a b ha hb ne = is_false (same_item (arc_item s a) (arc_item s b)) (λ t. clash (same_item_lem (arc_item s a) (arc_item s b) t) (below_or_not a b))
      where
        clash : arc_item s a ≡ arc_item s b → (a < b) ⊎ (b ≤ a) → ⊥
        clash e (inl l) = ends_differ s right a b l hb (ap tail_of e) (ap head_of e)
        clash e (inr l) = ends_differ s right b a (below a b ne l) ha (sym (ap tail_of e)) (sym (ap head_of e))

    pub arc_slot : (a : ℕ) → a < arc_count s → OwnSlot (record { item = arc_item s a; demand = arc_demand s (arc_at s a) }) (across_slot s a)
    arc_slot a h =
        record {
          below = omega arith;
          once = ap (passes (arc_item s a)) (at_across s a h) ∙ one_more (same_item (arc_item s a) (arc_item s a)) 0 (is_true _ (own (arc_item s a)));
          alone = λ d b ne. other d ne (slot_kind s d b);
          at_first = first_across a h;
        }
      where
        other : (d : ℕ) → d ≢ across_slot s a → SlotKind s d → passes (arc_item s a) (link_at s d) ≡ 0
        other d ne (is_inside w b e l) = ap (passes (arc_item s a)) l
        other d ne (is_across c b e l) =
            ap (passes (arc_item s a)) l ∙ no_more (same_item (arc_item s a) (arc_item s c)) 0 (same_ends a c h b (λ q. ne (e ∙ ap (across_slot s) (sym q))))
        other d ne (is_opening w b e l) = ap (passes (arc_item s a)) l
        other d ne (is_closing w b e l) = ap (passes (arc_item s a)) l

    -- each item that asks has a slot of its own
    pub own_slots : All (λ a. (e : ℕ) × OwnSlot a e) (asks (graph_of s))
    own_slots = all_asks (λ a. (e : ℕ) × OwnSlot a e) (λ v h. (inside_slot s v, vertex_slot v h)) (λ a h. (across_slot s a, arc_slot a h))

  -- ---- sums over all slots

  -- what an item's own slot and the readings bring to it
  pub item_worth : (full : List ℕ) → ((r : ℕ) → r < length (prepared_of s) → nth full (reading_slot s r) ≡ 1) → (a : Ask) (e : ℕ) → OwnSlot a e →
      sum_to (all_slots s) (λ d. nth full d * passes a.item (link_at s d)) ≡ nth full e + reads_through a.item (prepared_of s)
  item_worth full ones a e own =
      sum_split (plain_slots s) (length (prepared_of s)) f ∙
      ap₂ (λ (x y : ℕ). x + y)
      (sum_single (plain_slots s) e f own.below (λ d b ne. times_nothing (nth full d) _ (own.alone d b ne)) ∙ times_once (nth full e) _ own.once)
      (sum_same (length (prepared_of s)) (λ r. f (reading_slot s r)) (λ r. through a.item (get_or (prepared_of s) r [])) each ∙
      sum_reads a.item (prepared_of s))
    where
      f : ℕ → ℕ
      f d = nth full d * passes a.item (link_at s d)

      times_nothing : (x y : ℕ) → y ≡ 0 → x * y ≡ 0
      times_nothing x y z = ap (λ k. x * k) z ∙ mul-zero x

      times_once : (x y : ℕ) → y ≡ 1 → x * y ≡ x
      times_once x y z = ap (λ k. x * k) z ∙ mul-one x

      each : (r : ℕ) → r < length (prepared_of s) → f (reading_slot s r) ≡ through a.item (get_or (prepared_of s) r [])
      each r h = ap₂ (λ x l. x * passes a.item l) (ones r h) (at_reading s r) ∙ one-mul (through a.item (get_or (prepared_of s) r []))

  -- the copies that the loads open are those on the openings
  pub opens_worth : (full : List ℕ) → sum_to (all_slots s) (λ d. nth full d * opens (link_at s d)) ≡ copies_of s full
  opens_worth full =
      ap (λ k. sum_to k f) (let e : all_slots s ≡ n + m + n + (n + length (prepared_of s)) = omega arith in e) ∙
      (sum_split (n + m + n) (n + length (prepared_of s)) f ∙
      omega (
        arith,
        sum_split (n + m) n f,
        sum_none (n + m) f (λ d h. nothing d (before d h (slot_kind s d (omega arith)))),
        sum_same n (λ k. f (n + m + k)) (λ k. nth full (n + m + k)) opened,
        sum_none (n + length (prepared_of s)) (λ k. f (n + m + n + k)) (λ k h. nothing (n + m + n + k) (behind k h)),
      ))
    where
      f : ℕ → ℕ
      f d = nth full d * opens (link_at s d)

      nothing : (d : ℕ) → opens (link_at s d) ≡ 0 → f d ≡ 0
      nothing d z = ap (λ k. nth full d * k) z ∙ mul-zero (nth full d)

      before : (d : ℕ) → d < n + m → SlotKind s d → opens (link_at s d) ≡ 0
      before d h (is_inside v b e l) = ap opens l
      before d h (is_across a b e l) = ap opens l
      before d h (is_opening v b e l) = absurd (omega arith)
      before d h (is_closing v b e l) = absurd (omega arith)

      opened : (k : ℕ) → k < n → f (n + m + k) ≡ nth full (n + m + k)
      opened k h =
          let v : ℕ = n - (k + 1) in
          let e : n + m + k ≡ opening_slot s v = omega arith in
          ap (λ l. nth full (n + m + k) * opens l) (ap (link_at s) e ∙ at_opening s v (omega arith)) ∙ mul-one (nth full (n + m + k))

      behind : (k : ℕ) → k < n + length (prepared_of s) → opens (link_at s (n + m + n + k)) ≡ 0
      behind k h = go (below_or_not k n)
        where
          go : (k < n) ⊎ (n ≤ k) → opens (link_at s (n + m + n + k)) ≡ 0
          go (inl l) = let e : n + m + n + k ≡ closing_slot s k = omega arith in ap opens (ap (link_at s) e ∙ at_closing s k l)
          go (inr l) = let e : n + m + n + k ≡ reading_slot s (k - n) = omega arith in ap opens (ap (link_at s) e ∙ at_reading s (k - n))
