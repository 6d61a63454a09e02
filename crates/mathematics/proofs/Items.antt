-- The items of a graph. Each vertex below n and each arc stands exactly once among the asks, so a sum over what a list passes through is a sum over
-- the asks; and a list of vertices linked by arcs passes only through items of the graph. Totals and the bound rest on this.
use Prim.Native.Nat.{ℕ, suc, ◌+◌, ◌*◌, ◌≤◌, ◌<◌}
use native.Mathlib.Omega.{arith}
use native.Mathlib.Nat.{mul-suc}
use mathlib.Core.Path.{◌≡◌, refl, sym, ap, ap₂, subst, ◌∙◌}
use mathlib.Core.List.{List, [], ◌∷◌, map}
use mathlib.Core.Bool.{Bool, true, false, cond}
use mathlib.Core.Logic.{◌⊎◌, inl, inr, ◌≢◌}
use lib.Dec.{T, eqb, eqb→eq, eqb_refl}
use lib.ListN.{length}
use Rattle.mathematics.specs.Price.{Prices, Ordered, times, sum_by}
use Rattle.mathematics.specs.Lists.{All, Distinct}
use Rattle.mathematics.specs.Graph.{Vertex, Arc, Graph, is_path, joins, has_arc, linked, Rises, WellFormed}
use Rattle.mathematics.specs.Cover.{Item, vert, arc, same_item, trail, one_if, count_of, Ask, vertex_asks, arc_ask, asks, cost_of}
use Rattle.mathematics.specs.Bound.{reads_through}
use Rattle.mathematics.specs.Range.{OneOf}
use Rattle.mathematics.proofs.Basics.{and_l, and_r, and_in, or_cases, test, is_true, is_false, all_among, all_append, all_map, all_from, all_weaken}
use Rattle.mathematics.proofs.Reach.{linked_first, linked_rest, arc_joins, arc_rises, start_below, path_start, path_linked}
use Rattle.mathematics.proofs.Algebra.{nil_add, times_one, times_sum, sum_append, sum_add, sum_nil, sum_equal}

-- i is a vertex or an arc of the graph
abbrev pub Known : {E : Type 0} → Graph E → Item → Type 0
Known G (vert v) = v < length G.vertices
Known G (arc u v) = T (has_arc G.arcs u v)

abbrev ends_of : {E : Type 0} → Arc E → ℕ × ℕ
ends_of a = (a.tail, a.head)

-- the number of the first vertex is below n
abbrev pub FirstBelow : ℕ → List ℕ → Type 0
FirstBelow n [] = Unit {0}
FirstBelow n (v ∷ p) = v < n

module _ {E : Type 0} where
  pub joins_ends : (a : Arc E) (u v : ℕ) → T (joins a u v) → (a.tail ≡ u) × (a.head ≡ v)
  joins_ends a u v t =
      (eqb→eq a.tail u (and_l (eqb a.tail u) (eqb a.head v) t), eqb→eq a.head v (and_r (eqb a.tail u) (eqb a.head v) t))

  pub joins_own : (a : Arc E) → T (joins a a.tail a.head)
  joins_own a = and_in (eqb a.tail a.tail) (eqb a.head a.head) (eqb_refl a.tail) (eqb_refl a.head)

  -- what a linked list passes through is of the graph
  pub known_trail : (G : Graph E) → All (Rises (length G.vertices)) G.arcs → (p : List ℕ) → FirstBelow (length G.vertices) p →
      T (linked G.arcs p) → All (Known G) (trail p)
  known_trail G r [] f t = tt
  known_trail G r (v ∷ []) f t = (f, tt)
  known_trail G r (u ∷ v ∷ p) f t =
      let step = linked_first G.arcs u v p t in
      (f, (step, known_trail G r (v ∷ p) (arc_rises (length G.vertices) G.arcs u v r step).1 (linked_rest G.arcs u v p t)))

  -- what a path passes through
  pub known_path : (G : Graph E) → All (Rises (length G.vertices)) G.arcs → (p : List ℕ) → T (is_path G p) → All (Known G) (trail p)
  known_path G r [] t = absurd t
  known_path G r (v ∷ p) t = known_trail G r (v ∷ p) (start_below G v (path_start G v p t)) (path_linked G v p t)

  -- what a read of two vertices or more passes through
  pub known_read : (G : Graph E) → All (Rises (length G.vertices)) G.arcs → (r : List ℕ) → 2 ≤ length r → T (linked G.arcs r) →
      All (Known G) (trail r)
  known_read G r [] f t = absurd (omega arith)
  known_read G r (v ∷ []) f t = absurd (omega arith)
  known_read G r (u ∷ v ∷ p) f t =
      let rise = arc_rises (length G.vertices) G.arcs u v r (linked_first G.arcs u v p t) in
      let low = rise.0 in
      let high = rise.1 in
      known_trail G r (u ∷ v ∷ p) (omega arith) t

  -- where the first arc goes from u to v and has other ends than each later one, no later one does
  others_differ : (a : Arc E) (arcs : List (Arc E)) (u v : ℕ) → All (λ y. ends_of a ≢ y) (map ends_of arcs) → T (joins a u v) →
      All (λ b. T (joins b u v) → ⊥) arcs
  others_differ a [] u v h t = tt
  others_differ a (b ∷ arcs) u v h t = (
    λ s.
        let d = joins_ends a u v t in
        let e = joins_ends b u v s in
        h.0 (λ i. ((d.0 ∙ sym e.0) i, (d.1 ∙ sym e.1) i)),
    others_differ a arcs u v h.1 t,
  )

-- where no arc stands twice, the cost looked up is the arc's own
pub cost_own : (P : Prices) (arcs : List (Arc P.El)) (a : Arc P.El) (u v : ℕ) → Distinct (map ends_of arcs) → OneOf arcs a →
    T (joins a u v) → cost_of P arcs u v ≡ a.cost
cost_own P [] a u v d m t = absurd m
cost_own P (b ∷ arcs) a u v d (inl e) t =
    ap (λ x. cond x b.cost (cost_of P arcs u v)) (is_true (joins b u v) (subst (λ (x : Arc P.El). T (joins x u v)) e t)) ∙
    ap (λ (x : Arc P.El). x.cost) (sym e)
cost_own P (b ∷ arcs) a u v d (inr m) t =
    ap (λ x. cond x b.cost (cost_of P arcs u v))
    (is_false (joins b u v)
    (λ s. all_among (λ (x : Arc P.El). T (joins x u v) → ⊥) arcs a (others_differ b arcs u v d.0 s) m t))
    ∙ cost_own P arcs a u v d.1 m t

vertex_asks_known : {E : Type 0} (G : Graph E) (k : ℕ) (xs : List Vertex) → k + length xs ≤ length G.vertices →
    All (λ a. Known G a.item) (vertex_asks k xs)
vertex_asks_known G k [] h = tt
vertex_asks_known G k (x ∷ xs) h = (omega arith, vertex_asks_known G (suc k) xs (omega arith))

-- what asks is of the graph
pub asks_known : {E : Type 0} (G : Graph E) → All (λ a. Known G a.item) (asks G)
asks_known {E} G =
    all_append (λ a. Known G a.item) (vertex_asks 0 G.vertices) (map arc_ask G.arcs) (vertex_asks_known G 0 G.vertices (omega arith))
    (all_map (λ a. Known G a.item) arc_ask G.arcs (all_from (λ (a : Arc E). Known G (arc_ask a).item) G.arcs (arc_joins G.arcs)))

-- what an ask contributes at the item j: f of its item if that is j, nothing otherwise
abbrev hit : (P : Prices) → (Item → P.El) → Item → Ask → P.El
hit P f j a = times P (one_if (same_item a.item j)) (f a.item)

vertices_differ : (v k : ℕ) (xs : List Vertex) → v < k → All (λ a. same_item a.item (vert v) ≡ false) (vertex_asks k xs)
vertices_differ v k [] h = tt
vertices_differ v k (x ∷ xs) h =
    (is_false (eqb k v) (λ t. let e = eqb→eq k v t in omega arith), vertices_differ v (suc k) xs (omega arith))

vertices_no_arc : (u v k : ℕ) (xs : List Vertex) → All (λ a. same_item a.item (arc u v) ≡ false) (vertex_asks k xs)
vertices_no_arc u v k [] = tt
vertices_no_arc u v k (x ∷ xs) = (refl, vertices_no_arc u v (suc k) xs)

arcs_no_vertex : {E : Type 0} (v : ℕ) (arcs : List (Arc E)) → All (λ a. same_item a.item (vert v) ≡ false) (map arc_ask arcs)
arcs_no_vertex v [] = tt
arcs_no_vertex v (a ∷ arcs) = (refl, arcs_no_vertex v arcs)

module _ (P : Prices) (L : Ordered P) (f : Item → P.El) where
  miss : (b : Bool) (x : P.El) → b ≡ false → times P (one_if b) x ≡ P.nil
  miss b x e = ap (λ t. times P (one_if t) x) e

  meet : (b : Bool) (x : P.El) → b ≡ true → times P (one_if b) x ≡ x
  meet b x e = ap (λ t. times P (one_if t) x) e ∙ times_one P L x

  none_hit : (j : Item) (more : List Ask) → All (λ a. same_item a.item j ≡ false) more → sum_by P (hit P f j) more ≡ P.nil
  none_hit j [] h = refl
  none_hit j (a ∷ more) h =
      ap₂ P.add (miss (same_item a.item j) (f a.item) h.0) (none_hit j more h.1) ∙ L.add_nil P.nil

  -- the first is hit and no later one; the first is missed
  hit_first : (j : Item) (a : Ask) (more : List Ask) → T (same_item a.item j) → All (λ b. same_item b.item j ≡ false) more →
      sum_by P (hit P f j) (a ∷ more) ≡ f a.item
  hit_first j a more t h =
      ap₂ P.add (meet (same_item a.item j) (f a.item) (is_true (same_item a.item j) t)) (none_hit j more h) ∙ L.add_nil (f a.item)

  hit_later : (j : Item) (a : Ask) (more : List Ask) → (T (same_item a.item j) → ⊥) → sum_by P (hit P f j) (a ∷ more) ≡ sum_by P (hit P f j) more
  hit_later j a more n =
      ap (λ x. P.add x (sum_by P (hit P f j) more)) (miss (same_item a.item j) (f a.item) (is_false (same_item a.item j) n)) ∙
      nil_add P L (sum_by P (hit P f j) more)

  vertex_hit : (v k : ℕ) (xs : List Vertex) → k ≤ v → v < k + length xs → sum_by P (hit P f (vert v)) (vertex_asks k xs) ≡ f (vert v)
  vertex_hit v k [] h l = absurd (omega arith)
  vertex_hit v k (x ∷ xs) h l = at (test (eqb k v)) (vertex_hit v (suc k) xs)
    where
      first : Ask
      first = record { item = vert k; demand = x.demand }

      at : T (eqb k v) ⊎ (T (eqb k v) → ⊥) → (suc k ≤ v → v < suc k + length xs → sum_by P (hit P f (vert v)) (vertex_asks (suc k) xs) ≡ f (vert v)) →
          sum_by P (hit P f (vert v)) (vertex_asks k (x ∷ xs)) ≡ f (vert v)
      at (inl t) more =
          let e = eqb→eq k v t in
          hit_first (vert v) first (vertex_asks (suc k) xs) t (vertices_differ v (suc k) xs (omega arith)) ∙ ap (λ n. f (vert n)) e
      at (inr n) more =
          let away : k ≢ v = λ e. n (subst (λ y. T (eqb k y)) e (eqb_refl k)) in
          hit_later (vert v) first (vertex_asks (suc k) xs) n ∙ more (omega arith) (omega arith)

  arc_hit : {E : Type 0} (arcs : List (Arc E)) (u v : ℕ) → Distinct (map ends_of arcs) → T (has_arc arcs u v) →
      sum_by P (hit P f (arc u v)) (map arc_ask arcs) ≡ f (arc u v)
  arc_hit [] u v d t = absurd t
  arc_hit {E} (a ∷ arcs) u v d t = at (test (joins a u v)) (arc_hit arcs u v d.1)
    where
      at : T (joins a u v) ⊎ (T (joins a u v) → ⊥) → (T (has_arc arcs u v) → sum_by P (hit P f (arc u v)) (map arc_ask arcs) ≡ f (arc u v)) →
          sum_by P (hit P f (arc u v)) (map arc_ask (a ∷ arcs)) ≡ f (arc u v)
      at (inl s) more =
          let e = joins_ends a u v s in
          hit_first (arc u v) (arc_ask a) (map arc_ask arcs) s
          (all_map (λ b. same_item b.item (arc u v) ≡ false) arc_ask arcs
          (all_weaken (λ (b : Arc E). T (joins b u v) → ⊥) (λ (b : Arc E). joins b u v ≡ false) arcs (λ b n. is_false (joins b u v) n)
          (others_differ a arcs u v d.0 s)))
          ∙ ap₂ (λ x y. f (arc x y)) e.0 e.1
      at (inr n) more =
          hit_later (arc u v) (arc_ask a) (map arc_ask arcs) n ∙ more (elim (or_cases (joins a u v) (has_arc arcs u v) t) [ inl s ↦ absurd (n s) | inr h ↦ h ])

  -- an item of the graph is hit once among the asks
  hit_once : {E : Type 0} (G : Graph E) → WellFormed G → (j : Item) → Known G j → sum_by P (hit P f j) (asks G) ≡ f j
  hit_once G g (vert v) k =
      sum_append P L (hit P f (vert v)) (vertex_asks 0 G.vertices) (map arc_ask G.arcs) ∙
      (ap₂ P.add (vertex_hit v 0 G.vertices (omega arith) (omega arith))
      (none_hit (vert v) (map arc_ask G.arcs) (arcs_no_vertex v G.arcs)) ∙ L.add_nil (f (vert v)))
  hit_once G g (arc u v) k =
      sum_append P L (hit P f (arc u v)) (vertex_asks 0 G.vertices) (map arc_ask G.arcs) ∙
      (ap₂ P.add (none_hit (arc u v) (vertex_asks 0 G.vertices) (vertices_no_arc u v 0 G.vertices)) (arc_hit G.arcs u v g.once k) ∙
      nil_add P L (f (arc u v)))

  -- a sum over items of the graph, counted ask by ask
  pub sum_by_count : {E : Type 0} (G : Graph E) → WellFormed G → (js : List Item) → All (Known G) js →
      sum_by P f js ≡ sum_by P (λ a. times P (count_of a.item js) (f a.item)) (asks G)
  sum_by_count G g [] h = sym (sum_nil P L (asks G))
  sum_by_count G g (j ∷ js) h =
      ap₂ P.add (sym (hit_once G g j h.0)) (sum_by_count G g js h.1) ∙
      (sym (sum_add P L (hit P f j) (λ a. times P (count_of a.item js) (f a.item)) (asks G)) ∙
      sum_equal P L _ _ (asks G)
      (all_from _ (asks G) (λ a m. sym (times_sum P L (one_if (same_item a.item j)) (count_of a.item js) (f a.item)))))

-- ---- how often lists pass an item at the most

-- an item is among the items at most as often as there are items
pub count_few : (i : Item) (js : List Item) → count_of i js ≤ length js
count_few i [] = omega arith
count_few i (j ∷ js) = omega (arith, count_few i js, one (same_item i j))
  where
    one : (b : Bool) → one_if b ≤ 1
    one true = omega arith
    one false = omega arith

trail_few : (p : List ℕ) → length (trail p) ≤ 2 * length p
trail_few [] = omega arith
trail_few (v ∷ []) = omega arith
trail_few (u ∷ v ∷ p) = omega (arith, trail_few (v ∷ p))

-- a list passes an item at most twice for each of its vertices, so reads of up to k vertices pass it at most 2k times each
pub reads_few : (k : ℕ) (i : Item) (rs : List (List ℕ)) → All (λ r. length r ≤ k) rs → reads_through i rs ≤ 2 * k * length rs
reads_few k i [] h = omega arith
reads_few k i (r ∷ rs) h =
    omega (arith, mul-suc (2 * k) (length rs), count_few i (trail r), trail_few r, h.0, reads_few k i rs h.1)
