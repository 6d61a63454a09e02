-- The links that a lowest-price cover may use, with what they must carry, from which strong duality sets out: an opening link for each useful start, a
-- closing link for each useful end, and a link for each ask between useful vertices, which must carry its rest. Transport.antt gets them as edges and jobs.
use Prim.Native.Nat.{ℕ, suc, ◌+◌, ◌*◌, ◌≤◌, ◌<◌}
use native.Mathlib.Omega.{arith}
use native.Mathlib.Nat.{mul-zero, zero-mul, zero-add, add-zero}
use mathlib.Core.Path.{◌≡◌, refl, sym, ap, ap₂, subst, ◌∙◌}
use mathlib.Core.List.{List, [], ◌∷◌, ◌++◌, map}
use mathlib.Core.Bool.{Bool, true, false, cond, ◌&&◌}
use mathlib.Core.Logic.{◌⊎◌, inl, inr, ◌≢◌}
use lib.Dec.{T, eqb, eqb→eq, eqb_refl}
use lib.ListN.{length, get_or, length-append, length-map}
use Rattle.mathematics.specs.Lists.{All, Distinct, last_of, sum_over}
use Rattle.mathematics.specs.Graph.{Vertex, Arc, Graph, no_vertex, is_start, is_end, WellFormed}
use Rattle.mathematics.specs.Cover.{Item, vert, arc, same_item, one_if, Ask, vertex_asks, arc_ask, asks}
use Rattle.mathematics.specs.Bound.{rest}
use Rattle.mathematics.specs.Range.{OneOf, start_count, end_count, sum_of_demands}
use Rattle.mathematics.specs.Reach.{useful}
use Rattle.mathematics.specs.Links.{Link, opening, closing, inside, across, reading, passes, opens}
use Rattle.mathematics.proofs.Basics.{and_l, and_r, and_in, all_among, all_append, all_map, all_weaken, among_map, among_left, among_right, is_true, is_false, test}
use Rattle.mathematics.proofs.Reach.{joining_arc, start_below, end_below}
use Rattle.mathematics.proofs.Items.{Known, asks_known}
use Rattle.mathematics.proofs.Loads.{unequal, Load, worth, one, passing, worth_append, length_parts, all_passing, all_pass}
use Rattle.mathematics.proofs.Links.{OfGraph}

-- the link of an item
abbrev pub link_of : Item → Link
link_of (vert v) = inside v
link_of (arc u v) = across u v

-- the numbers of the vertices xs, from k on
abbrev places : ℕ → List Vertex → List ℕ
places k [] = []
places k (x ∷ xs) = k ∷ places (suc k) xs

place_among : (v k : ℕ) (xs : List Vertex) → k ≤ v → v < k + length xs → OneOf (places k xs) v
place_among v k [] l h = absurd (omega arith)
place_among v k (x ∷ xs) l h = go (test (eqb v k)) (place_among v (suc k) xs)
  where
    go : T (eqb v k) ⊎ (T (eqb v k) → ⊥) → (suc k ≤ v → v < suc k + length xs → OneOf (places (suc k) xs) v) → OneOf (places k (x ∷ xs)) v
    go (inl t) more = inl (eqb→eq v k t)
    go (inr t) more =
        let n : v ≢ k = unequal v k t in
        inr (more (omega arith) (omega arith))

-- no more numbers pass a test than vertices have the flag that it looks for
few_places : (flag : Vertex → Bool) (t : ℕ → Bool) (k : ℕ) (xs : List Vertex) → ((j : ℕ) → T (t (k + j)) → T (flag (get_or xs j no_vertex))) →
    length (passing t (places k xs)) ≤ sum_over (λ x. one_if (flag x)) xs
few_places flag t k [] h = omega arith
few_places flag t k (x ∷ xs) h = go (t k) refl (few_places flag t (suc k) xs (λ j u. h (suc j) (subst (λ (n : ℕ). T (t n)) (omega arith) u)))
  where
    counted : (b : Bool) → T b → one_if b ≡ 1
    counted true u = refl
    counted false u = absurd u

    go : (b : Bool) → t k ≡ b → length (passing t (places (suc k) xs)) ≤ sum_over (λ x. one_if (flag x)) xs →
        length (cond b (k ∷ passing t (places (suc k) xs)) (passing t (places (suc k) xs))) ≤ one_if (flag x) + sum_over (λ x. one_if (flag x)) xs
    go true e more =
        let here : T (t k) = rw e tt in
        let same : k ≡ k + 0 = omega arith in
        omega (arith, counted (flag x) (h 0 (subst (λ (n : ℕ). T (t n)) same here)))
    go false e more = omega arith

start_count_lem : (xs : List Vertex) → start_count xs ≡ sum_over (λ (x : Vertex). one_if x.start) xs
start_count_lem [] = refl
start_count_lem (x ∷ xs) = ap (λ (n : ℕ). one_if x.start + n) (start_count_lem xs)

end_count_lem : (xs : List Vertex) → end_count xs ≡ sum_over (λ (x : Vertex). one_if x.end) xs
end_count_lem [] = refl
end_count_lem (x ∷ xs) = ap (λ (n : ℕ). one_if x.end + n) (end_count_lem xs)

-- what passes a test is among what passes
pub among_passing : {A : Type 0} (t : A → Bool) (xs : List A) (x : A) → OneOf xs x → T (t x) → OneOf (passing t xs) x
among_passing t [] x m h = absurd m
among_passing {A} t (y ∷ ys) x m h = go (t y) refl m (λ n. among_passing t ys x n h)
  where
    go : (b : Bool) → t y ≡ b → (x ≡ y) ⊎ OneOf ys x → (OneOf ys x → OneOf (passing t ys) x) → OneOf (cond b (y ∷ passing t ys) (passing t ys)) x
    go true e (inl q) more = inl q
    go true e (inr n) more = inr (more n)
    go false e (inl q) more = absurd (subst T e (subst (λ (z : A). T (t z)) q h))
    go false e (inr n) more = more n

-- a sum over those that pass is the sum over all, where the others add nothing
sum_passing : {A : Type 0} (t : A → Bool) (f : A → ℕ) (xs : List A) → All (λ x. (T (t x) → ⊥) → f x ≡ 0) xs → sum_over f (passing t xs) ≡ sum_over f xs
sum_passing t f [] h = refl
sum_passing t f (x ∷ xs) h = go (t x) refl (sum_passing t f xs h.1)
  where
    go : (b : Bool) → t x ≡ b → sum_over f (passing t xs) ≡ sum_over f xs → sum_over f (cond b (x ∷ passing t xs) (passing t xs)) ≡ f x + sum_over f xs
    go true e more = omega arith
    go false e more = omega (arith, h.0 (λ u. subst T e u))

-- ---- no two asks are for one item

pub same_item_lem : (i j : Item) → T (same_item i j) → i ≡ j
same_item_lem (vert a) (vert b) t = ap vert (eqb→eq a b t)
same_item_lem (vert a) (arc b c) t = absurd t
same_item_lem (arc a b) (vert c) t = absurd t
same_item_lem (arc a b) (arc c d) t = ap₂ arc (eqb→eq a c (and_l (eqb a c) (eqb b d) t)) (eqb→eq b d (and_r (eqb a c) (eqb b d) t))

same_item_self : (i : Item) → T (same_item i i)
same_item_self (vert a) = eqb_refl a
same_item_self (arc a b) = and_in (eqb a a) (eqb b b) (eqb_refl a) (eqb_refl b)

distinct_append : {A : Type 0} (xs ys : List A) → Distinct xs → Distinct ys → All (λ x. All (λ y. x ≢ y) ys) xs → Distinct (xs ++ ys)
distinct_append [] ys d e h = e
distinct_append (x ∷ xs) ys d e h = (all_append (λ y. x ≢ y) xs ys d.0 h.0, distinct_append xs ys d.1 e h.1)

abbrev items_of : List Ask → List Item
items_of bs = map (λ (b : Ask). b.item) bs

vertices_later : (v k : ℕ) (xs : List Vertex) → v < k → All (λ j. vert v ≢ j) (items_of (vertex_asks k xs))
vertices_later v k [] h = tt
vertices_later v k (x ∷ xs) h = (λ e. let q : v ≡ k = cc in omega arith, vertices_later v (suc k) xs (omega arith))

vertices_distinct : (k : ℕ) (xs : List Vertex) → Distinct (items_of (vertex_asks k xs))
vertices_distinct k [] = tt
vertices_distinct k (x ∷ xs) = (vertices_later k (suc k) xs (omega arith), vertices_distinct (suc k) xs)

arcs_later : {E : Type 0} (a : Arc E) (arcs : List (Arc E)) → All (λ (y : ℕ × ℕ). (a.tail, a.head) ≢ y) (map (λ (b : Arc E). (b.tail, b.head)) arcs) →
    All (λ j. arc a.tail a.head ≢ j) (items_of (map arc_ask arcs))
arcs_later a [] h = tt
arcs_later a (b ∷ arcs) h = (
  λ e.
      let p : a.tail ≡ b.tail = cc in
      let q : a.head ≡ b.head = cc in
      h.0 (λ i. (p i, q i)),
  arcs_later a arcs h.1,
)

arcs_distinct : {E : Type 0} (arcs : List (Arc E)) → Distinct {A = ℕ × ℕ} (map (λ (a : Arc E). (a.tail, a.head)) arcs) → Distinct (items_of (map arc_ask arcs))
arcs_distinct [] d = tt
arcs_distinct (a ∷ arcs) d = (arcs_later a arcs d.0, arcs_distinct arcs d.1)

vertex_no_arc : {E : Type 0} (k : ℕ) (arcs : List (Arc E)) → All (λ j. vert k ≢ j) (items_of (map arc_ask arcs))
vertex_no_arc k [] = tt
vertex_no_arc k (a ∷ arcs) = (λ e. let z : ◌≡◌ {A = ℕ} 0 1 = cc in omega arith, vertex_no_arc k arcs)

vertices_no_arcs : {E : Type 0} (k : ℕ) (xs : List Vertex) (arcs : List (Arc E)) →
    All (λ i. All (λ j. i ≢ j) (items_of (map arc_ask arcs))) (items_of (vertex_asks k xs))
vertices_no_arcs k [] arcs = tt
vertices_no_arcs k (x ∷ xs) arcs = (vertex_no_arc k arcs, vertices_no_arcs (suc k) xs arcs)

items_append : (xs ys : List Ask) → items_of (xs ++ ys) ≡ items_of xs ++ items_of ys
items_append [] ys = refl
items_append (x ∷ xs) ys = ap (λ is. x.item ∷ is) (items_append xs ys)

asks_distinct : {E : Type 0} (G : Graph E) → WellFormed G → Distinct (items_of (asks G))
asks_distinct G g =
    rw (items_append (vertex_asks 0 G.vertices) (map arc_ask G.arcs))
    (distinct_append (items_of (vertex_asks 0 G.vertices)) (items_of (map arc_ask G.arcs)) (vertices_distinct 0 G.vertices)
    (arcs_distinct G.arcs g.once)
    (vertices_no_arcs 0 G.vertices G.arcs))

-- c of an ask, times whether it asks for i
abbrev counting : (Ask → ℕ) → Item → Ask → ℕ
counting c i b = c b * one_if (same_item i b.item)

none_counted : (c : Ask → ℕ) (i : Item) (bs : List Ask) → All (λ j. i ≢ j) (items_of bs) → sum_over (counting c i) bs ≡ 0
none_counted c i [] h = refl
none_counted c i (b ∷ bs) h =
    rw (is_false (same_item i b.item) (λ t. h.0 (same_item_lem i b.item t)), mul-zero) (omega (arith, none_counted c i bs h.1))

one_counted : (c : Ask → ℕ) (a : Ask) (bs : List Ask) → Distinct (items_of bs) → OneOf bs a → sum_over (counting c a.item) bs ≡ c a
one_counted c a [] d m = absurd m
one_counted c a (b ∷ bs) d (inl e) =
    subst (λ (x : Ask). sum_over (counting c x.item) (b ∷ bs) ≡ c x) (sym e)
    (rw (is_true (same_item b.item b.item) (same_item_self b.item)) (omega (arith, none_counted c b.item bs d.0)))
one_counted c a (b ∷ bs) d (inr m) =
    rw (
      is_false (same_item a.item b.item)
          (λ t. all_among (λ j. b.item ≢ j) (items_of bs) a.item d.0 (among_map (λ (x : Ask). x.item) a bs m) (sym (same_item_lem a.item b.item t))),
      mul-zero,
    )
    (omega (arith, one_counted c a bs d.1 m))

-- ---- the links and what they must carry

-- no link of a read, and nothing that an opening or closing link must carry
abbrev pub Unasked : Link → ℕ → Type 0
Unasked (opening v) k = k ≡ 0
Unasked (closing v) k = k ≡ 0
Unasked (inside v) k = Unit {0}
Unasked (across u v) k = Unit {0}
Unasked (reading r) k = ⊥

module _ {E : Type 0} (G : Graph E) where
  abbrev pub useful_item : Item → Bool
  useful_item (vert v) = useful G v
  useful_item (arc u v) = useful G u && useful G v

  abbrev useful_ask : Ask → Bool
  useful_ask a = useful_item a.item

  abbrev useful_start : ℕ → Bool
  useful_start v = is_start G v && useful G v

  abbrev useful_end : ℕ → Bool
  useful_end v = is_end G v && useful G v

  abbrev empty_opening : ℕ → Load Link
  empty_opening v = record { amount = 0; what = opening v }

  abbrev empty_closing : ℕ → Load Link
  empty_closing v = record { amount = 0; what = closing v }

  -- an ask's link must carry its rest
  abbrev ask_load : List (List ℕ) → Ask → Load Link
  ask_load rs a = record { amount = rest rs a.item a.demand; what = link_of a.item }

  abbrev open_loads : List (Load Link)
  open_loads = map empty_opening (passing useful_start (places 0 G.vertices))

  abbrev close_loads : List (Load Link)
  close_loads = map empty_closing (passing useful_end (places 0 G.vertices))

  abbrev ask_loads : List (List ℕ) → List (Load Link)
  ask_loads rs = map (ask_load rs) (passing useful_ask (asks G))

  unfoldable pub base : List (List ℕ) → List (Load Link)
  base rs = open_loads ++ (close_loads ++ ask_loads rs)

  pub base_short : (rs : List (List ℕ)) → length (base rs) ≤ length G.vertices + length G.arcs + start_count G.vertices + end_count G.vertices
  unfolding base
  base_short rs =
      omega (
        arith,
        length-append open_loads (close_loads ++ ask_loads rs),
        length-append close_loads (ask_loads rs),
        length-map (passing useful_start (places 0 G.vertices)) empty_opening,
        length-map (passing useful_end (places 0 G.vertices)) empty_closing,
        length-map (passing useful_ask (asks G)) (ask_load rs),
        length_parts useful_ask (asks G),
        asks_length,
        start_count_lem G.vertices,
        end_count_lem G.vertices,
        few_places (λ x. x.start) useful_start 0 G.vertices
            (λ j t. subst (λ (n : ℕ). T (is_start G n)) (zero-add j) (and_l (is_start G (0 + j)) (useful G (0 + j)) t)),
        few_places (λ x. x.end) useful_end 0 G.vertices
            (λ j t. subst (λ (n : ℕ). T (is_end G n)) (zero-add j) (and_l (is_end G (0 + j)) (useful G (0 + j)) t)),
      )
    where
      vertices_length : (k : ℕ) (xs : List Vertex) → length (vertex_asks k xs) ≡ length xs
      vertices_length k [] = refl
      vertices_length k (x ∷ xs) = ap suc (vertices_length (suc k) xs)

      asks_length : length (asks G) ≡ length G.vertices + length G.arcs
      asks_length =
          omega (
            arith,
            length-append (vertex_asks 0 G.vertices) (map arc_ask G.arcs),
            vertices_length 0 G.vertices,
            length-map G.arcs (arc_ask {E = E}),
          )

  -- ---- what it is worth

  ask_worth : (rs : List (List ℕ)) (g : Link → ℕ) (bs : List Ask) →
      worth g (map (ask_load rs) bs) ≡ sum_over (λ b. rest rs b.item b.demand * g (link_of b.item)) bs
  ask_worth rs g [] = refl
  ask_worth rs g (b ∷ bs) = ap (λ (n : ℕ). rest rs b.item b.demand * g (link_of b.item) + n) (ask_worth rs g bs)

  empty_worth : {A : Type 0} (mk : A → Link) (g : Link → ℕ) (vs : List A) → worth g (map (λ v. record { amount = 0; what = mk v }) vs) ≡ 0
  empty_worth mk g [] = refl
  empty_worth mk g (v ∷ vs) = rw zero-mul (omega (arith, empty_worth mk g vs))

  base_worth : (rs : List (List ℕ)) (g : Link → ℕ) →
      worth g (base rs) ≡ sum_over (λ b. rest rs b.item b.demand * g (link_of b.item)) (passing useful_ask (asks G))
  unfolding base
  base_worth rs g =
      omega (
        arith,
        worth_append g open_loads (close_loads ++ ask_loads rs),
        worth_append g close_loads (ask_loads rs),
        ask_worth rs g (passing useful_ask (asks G)),
        empty_worth opening g (passing useful_start (places 0 G.vertices)),
        empty_worth closing g (passing useful_end (places 0 G.vertices)),
      )

  -- nothing must be opened
  pub base_opens : (rs : List (List ℕ)) → worth opens (base rs) ≡ 0
  base_opens rs = base_worth rs opens ∙ none_open (passing useful_ask (asks G))
    where
      not_open : (i : Item) → opens (link_of i) ≡ 0
      not_open (vert v) = refl
      not_open (arc u v) = refl

      none_open : (bs : List Ask) → sum_over (λ b. rest rs b.item b.demand * opens (link_of b.item)) bs ≡ 0
      none_open [] = refl
      none_open (b ∷ bs) = rw (not_open b.item, mul-zero) (omega (arith, none_open bs))

  -- no more must be carried than is asked for
  pub base_amount : (rs : List (List ℕ)) → worth one (base rs) ≤ sum_of_demands (asks G)
  base_amount rs = rw (base_worth rs one) (at_most (asks G))
    where
      at_most : (bs : List Ask) → sum_over (λ b. rest rs b.item b.demand * 1) (passing useful_ask bs) ≤ sum_of_demands bs
      at_most [] = omega arith
      at_most (b ∷ bs) = go (useful_ask b) (at_most bs)
        where
          go : (t : Bool) → sum_over (λ b. rest rs b.item b.demand * 1) (passing useful_ask bs) ≤ sum_of_demands bs →
              sum_over (λ b. rest rs b.item b.demand * 1) (cond t (b ∷ passing useful_ask bs) (passing useful_ask bs)) ≤ b.demand + sum_of_demands bs
          go true h = omega arith
          go false h = omega arith

  -- each ask's item must be passed as often as its rest says, where nothing is asked of what lies on no path
  pub base_passes : (rs : List (List ℕ)) → WellFormed G → All (λ a. (T (useful_item a.item) → ⊥) → a.demand ≡ 0) (asks G) →
      (a : Ask) → OneOf (asks G) a → worth (passes a.item) (base rs) ≡ rest rs a.item a.demand
  base_passes rs g idle a m =
      base_worth rs (passes a.item) ∙
      (same_sum (passing useful_ask (asks G)) ∙
      (sum_passing useful_ask (counting (λ b. rest rs b.item b.demand) a.item) (asks G)
      (all_weaken (λ b. (T (useful_item b.item) → ⊥) → b.demand ≡ 0) _ (asks G) (λ b h u. nothing b (h u)) idle) ∙
      one_counted (λ b. rest rs b.item b.demand) a (asks G) (asks_distinct G g) m))
    where
      on_link : (i j : Item) → passes i (link_of j) ≡ one_if (same_item i j)
      on_link i (vert v) = add-zero (one_if (same_item i (vert v)))
      on_link i (arc u v) = add-zero (one_if (same_item i (arc u v)))

      same_sum : (bs : List Ask) →
          sum_over (λ b. rest rs b.item b.demand * passes a.item (link_of b.item)) bs ≡
          sum_over (counting (λ b. rest rs b.item b.demand) a.item) bs
      same_sum [] = refl
      same_sum (b ∷ bs) = ap₂ (λ (x y : ℕ). rest rs b.item b.demand * x + y) (on_link a.item b.item) (same_sum bs)

      nothing : (b : Ask) → b.demand ≡ 0 → counting (λ b. rest rs b.item b.demand) a.item b ≡ 0
      nothing b e =
          let z : rest rs b.item b.demand ≡ 0 = omega arith in
          rw (z, zero-mul) refl

  -- ---- which links there are

  -- both ends of the link are useful
  abbrev pub Useful : Link → Type 0
  Useful (opening v) = T (useful G v)
  Useful (closing v) = T (useful G v)
  Useful (inside v) = T (useful G v)
  Useful (across u v) = T (useful G u) × T (useful G v)
  Useful (reading r) = T (useful G (get_or r 0 0)) × T (useful G (last_of 0 r))

  -- a link of the graph between useful vertices; an opening or closing link need carry nothing
  abbrev pub OfBase : Load Link → Type 0
  OfBase l = OfGraph G l.what × Useful l.what × Unasked l.what l.amount

  pub base_of_graph : (rs : List (List ℕ)) → All OfBase (base rs)
  unfolding base
  base_of_graph rs =
      all_append OfBase open_loads (close_loads ++ ask_loads rs)
      (all_map OfBase empty_opening (passing useful_start (places 0 G.vertices))
      (all_weaken (λ v. T (useful_start v)) (λ v. T (is_start G v) × T (useful G v) × (0 ≡ 0)) (passing useful_start (places 0 G.vertices))
      (λ v h. (and_l (is_start G v) (useful G v) h, and_r (is_start G v) (useful G v) h, refl)) (all_pass useful_start (places 0 G.vertices))))
      (all_append OfBase close_loads (ask_loads rs)
      (all_map OfBase empty_closing (passing useful_end (places 0 G.vertices))
      (all_weaken (λ v. T (useful_end v)) (λ v. T (is_end G v) × T (useful G v) × (0 ≡ 0)) (passing useful_end (places 0 G.vertices))
      (λ v h. (and_l (is_end G v) (useful G v) h, and_r (is_end G v) (useful G v) h, refl)) (all_pass useful_end (places 0 G.vertices))))
      (all_map OfBase (ask_load rs) (passing useful_ask (asks G))
      (all_weaken (λ a. Known G a.item × T (useful_ask a)) (λ a. OfBase (ask_load rs a)) (passing useful_ask (asks G))
      (λ a h. fine a.item (rest rs a.item a.demand) h.0 h.1)
      (all_passing useful_ask (λ a. Known G a.item) (asks G) (asks_known G)))))
    where
      fine : (i : Item) (k : ℕ) → Known G i → T (useful_item i) → OfGraph G (link_of i) × Useful (link_of i) × Unasked (link_of i) k
      fine (vert v) n k u = (k, u, tt)
      fine (arc u v) n k h = (k, (and_l (useful G u) (useful G v) h, and_r (useful G u) (useful G v) h), tt)

  vertex_ask_lem : (v k : ℕ) (xs : List Vertex) → k ≤ v → v < k + length xs → (a : Ask) × OneOf (vertex_asks k xs) a × (a.item ≡ vert v)
  vertex_ask_lem v k [] l h = absurd (omega arith)
  vertex_ask_lem v k (x ∷ xs) l h = go (test (eqb k v)) (vertex_ask_lem v (suc k) xs)
    where
      go : T (eqb k v) ⊎ (T (eqb k v) → ⊥) → (suc k ≤ v → v < suc k + length xs → (a : Ask) × OneOf (vertex_asks (suc k) xs) a × (a.item ≡ vert v)) →
          (a : Ask) × OneOf (vertex_asks k (x ∷ xs)) a × (a.item ≡ vert v)
      go (inl t) more = (record { item = vert k; demand = x.demand }, inl refl, ap vert (eqb→eq k v t))
      go (inr t) more =
          let n : k ≢ v = unequal k v t in
          let (a, m, e) = more (omega arith) (omega arith) in
          (a, inr m, e)

  -- there is an ask for each item of the graph
  item_asked : (i : Item) → Known G i → (a : Ask) × OneOf (asks G) a × (a.item ≡ i)
  item_asked (vert v) k =
      let (a, m, e) = vertex_ask_lem v 0 G.vertices (omega arith) (omega arith) in
      (a, among_left a (vertex_asks 0 G.vertices) (map arc_ask G.arcs) m, e)
  item_asked (arc u v) k =
      let (b, m, e, f) = joining_arc G.arcs u v k in
      (arc_ask b, among_right (arc_ask b) (vertex_asks 0 G.vertices) (map arc_ask G.arcs) (among_map arc_ask b G.arcs m), ap₂ arc e f)

  pub has_opening : (rs : List (List ℕ)) (v : ℕ) → T (is_start G v) → T (useful G v) → (k : ℕ) × OneOf (base rs) (record { amount = k; what = opening v })
  unfolding base
  has_opening rs v s u = (
    0,
    among_left (empty_opening v) open_loads (close_loads ++ ask_loads rs)
        (among_map empty_opening v (passing useful_start (places 0 G.vertices))
        (among_passing useful_start (places 0 G.vertices) v (place_among v 0 G.vertices (omega arith) (omega (arith, start_below G v s)))
        (and_in (is_start G v) (useful G v) s u))),
  )

  pub has_closing : (rs : List (List ℕ)) (v : ℕ) → T (is_end G v) → T (useful G v) → (k : ℕ) × OneOf (base rs) (record { amount = k; what = closing v })
  unfolding base
  has_closing rs v s u = (
    0,
    among_right (empty_closing v) open_loads (close_loads ++ ask_loads rs)
        (among_left (empty_closing v) close_loads (ask_loads rs)
        (among_map empty_closing v (passing useful_end (places 0 G.vertices))
        (among_passing useful_end (places 0 G.vertices) v (place_among v 0 G.vertices (omega arith) (omega (arith, end_below G v s)))
        (and_in (is_end G v) (useful G v) s u)))),
  )

  pub has_link : (rs : List (List ℕ)) (i : Item) → Known G i → T (useful_item i) → (k : ℕ) × OneOf (base rs) (record { amount = k; what = link_of i })
  unfolding base
  has_link rs i k u =
      let (a, m, e) = item_asked i k in
      let l : OneOf (open_loads ++ (close_loads ++ ask_loads rs)) (ask_load rs a) =
      among_right (ask_load rs a) open_loads (close_loads ++ ask_loads rs)
      (among_right (ask_load rs a) close_loads (ask_loads rs)
      (among_map (ask_load rs) a (passing useful_ask (asks G)) (among_passing useful_ask (asks G) a m (subst (λ (j : Item). T (useful_item j)) (sym e) u)))) in (
        rest rs a.item a.demand,
        subst (λ (j : Item). OneOf (open_loads ++ (close_loads ++ ask_loads rs))
            (record { amount = rest rs a.item a.demand; what = link_of j })) e l,
      )
