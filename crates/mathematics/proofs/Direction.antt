-- #113: what asks more is never cheaper. A cover of the graph that asks more is a cover of the one that asks less, and costs no less there; so no marks, no
-- preparation and no limit is needed, and the argument is one for every kind of price.
use Prim.Native.Nat.{ℕ, zero, suc, ◌≤◌}
use native.Mathlib.Omega.{arith}
use mathlib.Core.Path.{◌≡◌, refl, sym, ap₂, subst, ◌∙◌}
use mathlib.Core.List.{List, [], ◌∷◌, ◌++◌, map}
use mathlib.Core.Bool.{Bool, true, false, cond, ◌&&◌, ◌||◌}
use mathlib.Core.Logic.{◌⊎◌, inl, inr, ◌↔◌}
use lib.Dec.{T, eqb}
use lib.ListN.{get_or, take, drop}
use Rattle.mathematics.specs.Price.{Prices, Le, times, Ordered}
use Rattle.mathematics.specs.Lists.{All, last_of, some_holds}
use Rattle.mathematics.specs.Graph.{Vertex, Arc, Graph, WellFormed, no_vertex, joins, has_arc, linked, is_path, with_reads}
use Rattle.mathematics.specs.Cover.{Ask, vertex_asks, arc_ask, total, Weighted, paths, IsCover, cost_of, arc_costs, copy_price, price}
use Rattle.mathematics.specs.Range.{OneOf, CostsHold}
use Rattle.mathematics.specs.Direction.{LowestPrice, Each, VertexRaised, ArcRaised, AsksMore, change_at, vertex_demand_raised, arc_demand_raised, read_added, arc_cost_raised, opening_raised, Reordered}
use Rattle.mathematics.proofs.Basics.{all_among, all_from, all_weaken, all_append, all_left, all_right, among_left, among_right, among_cases}
use Rattle.mathematics.proofs.Algebra
use Rattle.mathematics.proofs.Lowest.{some_marks_show, shown_is_lowest}

-- ---- the same list, and one with a change at one place

module _ {A : Type 0} (R : A → A → Type 0) (self : (x : A) → R x x) where
  each_self : (xs : List A) → Each R xs xs
  each_self [] = tt
  each_self (x ∷ xs) = (self x, each_self xs)

  each_changed : (f : A → A) → ((x : A) → R x (f x)) → (k : ℕ) (xs : List A) → Each R xs (change_at f k xs)
  each_changed f h k [] = tt
  each_changed f h zero (x ∷ xs) = (h x, each_self xs)
  each_changed f h (suc k) (x ∷ xs) = (self x, each_changed f h k xs)

all_reads : {A : Type 0} (xs : List A) → All (OneOf xs) xs
all_reads xs = all_from (OneOf xs) xs (λ x m. m)

-- a read stays one of the reads when another is put in at place k
still_there : {A : Type 0} (k : ℕ) (r : A) (rs : List A) → All (OneOf (take k rs ++ (r ∷ drop k rs))) rs
still_there k r [] = tt
still_there zero r (s ∷ rs) = (inr (inl refl), all_from _ rs (λ q m. inr (inr m)))
still_there (suc k) r (s ∷ rs) = (inl refl, all_weaken _ _ rs (λ q m. inr m) (still_there k r rs))

-- one of the reads is one of them in another order, and the other way round
reordered_kept : {A : Type 0} (xs ys : List A) → Reordered xs ys → (z : A) → OneOf xs z → OneOf ys z
reordered_kept [] ys h z m = absurd m
reordered_kept (x ∷ xs) ys (before, after, e, h) z (inl d) =
    subst (λ l. OneOf l z) (sym e) (among_right z before (x ∷ after) (inl d))
reordered_kept (x ∷ xs) ys (before, after, e, h) z (inr m) =
    subst (λ l. OneOf l z) (sym e)
    (elim (among_cases z before after (reordered_kept xs (before ++ after) h z m))
    [ inl k ↦ among_left z before (x ∷ after) k | inr k ↦ among_right z before (x ∷ after) (inr k) ])

reordered_back : {A : Type 0} (xs ys : List A) → Reordered xs ys → (z : A) → OneOf ys z → OneOf xs z
reordered_back [] ys h z m = subst (λ l. OneOf l z) h m
reordered_back (x ∷ xs) ys (before, after, e, h) z m = go (among_cases z before (x ∷ after) (subst (λ l. OneOf l z) e m)) (reordered_back xs (before ++ after) h z)
  where
    go : OneOf before z ⊎ OneOf (x ∷ after) z → (OneOf (before ++ after) z → OneOf xs z) → OneOf (x ∷ xs) z
    go (inl k) back = inr (back (among_left z before after k))
    go (inr (inl d)) back = inl d
    go (inr (inr k)) back = inr (back (among_right z before after k))

vertex_kept : (x : Vertex) → VertexRaised x x
vertex_kept x = record { start_kept = refl; end_kept = refl; demand_raised = omega arith }

-- ---- starts and ends, which are kept

same_starts : (xs ys : List Vertex) → Each VertexRaised xs ys → (v : ℕ) → (get_or xs v no_vertex).start ≡ (get_or ys v no_vertex).start
same_starts [] [] h v = refl
same_starts [] (y ∷ ys) h v = absurd h
same_starts (x ∷ xs) [] h v = absurd h
same_starts (x ∷ xs) (y ∷ ys) h zero = h.0.start_kept
same_starts (x ∷ xs) (y ∷ ys) h (suc v) = same_starts xs ys h.1 v

same_ends : (xs ys : List Vertex) → Each VertexRaised xs ys → (v : ℕ) → (get_or xs v no_vertex).end ≡ (get_or ys v no_vertex).end
same_ends [] [] h v = refl
same_ends [] (y ∷ ys) h v = absurd h
same_ends (x ∷ xs) [] h v = absurd h
same_ends (x ∷ xs) (y ∷ ys) h zero = h.0.end_kept
same_ends (x ∷ xs) (y ∷ ys) h (suc v) = same_ends xs ys h.1 v

-- the demand of each ask of xs is that of the ask at its place or less, and the items are the same: what meets ys meets xs
vertices_asked : (k : ℕ) (xs ys : List Vertex) (W : List Weighted) → Each VertexRaised xs ys →
    All (λ a. a.demand ≤ total a.item W) (vertex_asks k ys) → All (λ a. a.demand ≤ total a.item W) (vertex_asks k xs)
vertices_asked k [] [] W h m = tt
vertices_asked k [] (y ∷ ys) W h m = absurd h
vertices_asked k (x ∷ xs) [] W h m = absurd h
vertices_asked k (x ∷ xs) (y ∷ ys) W h m =
    let d = h.0.demand_raised in
    let t = m.0 in
    (omega arith, vertices_asked (suc k) xs ys W h.1 m.1)

module _ (P : Prices) (L : Ordered P) where
  arc_kept : (a : Arc P.El) → ArcRaised P a a
  arc_kept a = record { tail_kept = refl; head_kept = refl; cost_raised = L.le_refl a.cost; demand_raised = omega arith }

  arcs_asked : (xs ys : List (Arc P.El)) (W : List Weighted) → Each (ArcRaised P) xs ys →
      All (λ a. a.demand ≤ total a.item W) (map arc_ask ys) → All (λ a. a.demand ≤ total a.item W) (map arc_ask xs)
  arcs_asked [] [] W h m = tt
  arcs_asked [] (b ∷ ys) W h m = absurd h
  arcs_asked (a ∷ xs) [] W h m = absurd h
  arcs_asked (a ∷ xs) (b ∷ ys) W h m = (met h.0 m.0, arcs_asked xs ys W h.1 m.1)
    where
      met : ArcRaised P a b → b.demand ≤ total (arc_ask b).item W → a.demand ≤ total (arc_ask a).item W
      met r t =
          let same : (arc_ask a).item ≡ (arc_ask b).item = cc in
          let d = r.demand_raised in
          subst (λ i. a.demand ≤ total i W) (sym same) (omega arith)

  -- ---- arcs: the same ones, at no lower cost

  same_joins : (a b : Arc P.El) → ArcRaised P a b → (u v : ℕ) → joins a u v ≡ joins b u v
  same_joins a b r u v = ap₂ (λ (s t : ℕ). eqb s u && eqb t v) r.tail_kept r.head_kept

  same_arcs : (xs ys : List (Arc P.El)) → Each (ArcRaised P) xs ys → (u v : ℕ) → has_arc xs u v ≡ has_arc ys u v
  same_arcs [] [] h u v = refl
  same_arcs [] (b ∷ ys) h u v = absurd h
  same_arcs (a ∷ xs) [] h u v = absurd h
  same_arcs (a ∷ xs) (b ∷ ys) h u v = ap₂ (λ (s t : Bool). s || t) (same_joins a b h.0 u v) (same_arcs xs ys h.1 u v)

  same_linked : (xs ys : List (Arc P.El)) → Each (ArcRaised P) xs ys → (p : List ℕ) → linked xs p ≡ linked ys p
  same_linked xs ys h [] = refl
  same_linked xs ys h (v ∷ []) = refl
  same_linked xs ys h (u ∷ v ∷ p) = ap₂ (λ (s t : Bool). s && t) (same_arcs xs ys h u v) (same_linked xs ys h (v ∷ p))

  cond_raises : (t : Bool) (a b c d : P.El) → Le P a b → Le P c d → Le P (cond t a c) (cond t b d)
  cond_raises true a b c d h k = h
  cond_raises false a b c d h k = k

  cost_raises : (xs ys : List (Arc P.El)) → Each (ArcRaised P) xs ys → (u v : ℕ) → Le P (cost_of P xs u v) (cost_of P ys u v)
  cost_raises [] [] h u v = L.le_refl P.nil
  cost_raises [] (b ∷ ys) h u v = absurd h
  cost_raises (a ∷ xs) [] h u v = absurd h
  cost_raises (a ∷ xs) (b ∷ ys) h u v =
      subst (λ t. Le P (cond (joins a u v) a.cost (cost_of P xs u v)) (cond t b.cost (cost_of P ys u v))) (same_joins a b h.0 u v)
      (cond_raises (joins a u v) a.cost b.cost (cost_of P xs u v) (cost_of P ys u v) h.0.cost_raised (cost_raises xs ys h.1 u v))

  costs_raise : (xs ys : List (Arc P.El)) → Each (ArcRaised P) xs ys → (p : List ℕ) → Le P (arc_costs P xs p) (arc_costs P ys p)
  costs_raise xs ys h [] = L.le_refl P.nil
  costs_raise xs ys h (v ∷ []) = L.le_refl P.nil
  costs_raise xs ys h (u ∷ v ∷ p) =
      Algebra.le_add_both P L (cost_of P xs u v) (cost_of P ys u v) (arc_costs P xs (v ∷ p)) (arc_costs P ys (v ∷ p)) (cost_raises xs ys h u v)
      (costs_raise xs ys h (v ∷ p))

  times_raise : (k : ℕ) (a b : P.El) → Le P a b → Le P (times P k a) (times P k b)
  times_raise zero a b h = L.le_refl P.nil
  times_raise (suc k) a b h = Algebra.le_add_both P L a b (times P k a) (times P k b) h (times_raise k a b h)

  -- ---- any number of changes at once

  module _ (G H : Graph P.El) (more : AsksMore P G H) where
    path_of_less : (p : List ℕ) → is_path H p ≡ is_path G p
    path_of_less [] = refl
    path_of_less (v ∷ p) =
        ap₂ (λ (s t : Bool). s && t) (sym (same_starts G.vertices H.vertices more.vertices_raised v))
        (ap₂ (λ (s t : Bool). s && t) (sym (same_linked G.arcs H.arcs more.arcs_raised (v ∷ p)))
        (sym (same_ends G.vertices H.vertices more.vertices_raised (last_of v p))))

    -- a cover of the graph that asks more is a cover of the one that asks less,
    pub cover_of_less : (W : List Weighted) → IsCover H W → IsCover G W
    cover_of_less W c =
        record {
          are_paths = all_weaken (λ w. T (is_path H w.path)) (λ w. T (is_path G w.path)) W
              (λ (w : Weighted) t. subst T (path_of_less w.path) t) c.are_paths;
          weights = c.weights;
          distinct = c.distinct;
          demands_met =
              all_append met (vertex_asks 0 G.vertices) (map arc_ask G.arcs)
              (vertices_asked 0 G.vertices H.vertices W more.vertices_raised
              (all_left met (vertex_asks 0 H.vertices) (map arc_ask H.arcs) c.demands_met))
              (arcs_asked G.arcs H.arcs W more.arcs_raised
              (all_right met (vertex_asks 0 H.vertices) (map arc_ask H.arcs) c.demands_met));
          reads_met =
              all_weaken (OneOf H.reads) (λ r. T (some_holds (paths W) r)) G.reads
              (λ r m. all_among (λ r. T (some_holds (paths W) r)) H.reads r c.reads_met m) more.reads_kept;
        }
      where
        met : Ask → Type 0
        met a = a.demand ≤ total a.item W

    -- and costs no less there
    pub price_of_less : (W : List Weighted) → Le P (price P G W) (price P H W)
    price_of_less [] = L.le_refl P.nil
    price_of_less (w ∷ W) =
        Algebra.le_add_both P L (times P w.weight (copy_price P G w.path)) (times P w.weight (copy_price P H w.path)) (price P G W) (price P H W)
        (times_raise w.weight (copy_price P G w.path) (copy_price P H w.path)
        (Algebra.le_add_both P L G.opening H.opening (arc_costs P G.arcs w.path) (arc_costs P H.arcs w.path) more.opening_no_less
        (costs_raise G.arcs H.arcs more.arcs_raised w.path)))
        (price_of_less W)

    -- "and both graphs have covers, then the lowest price doesn't fall"
    pub never_cheaper : (x y : P.El) → LowestPrice P G x → LowestPrice P H y → Le P x y
    never_cheaper x y (U, u, e) (W, w, d) =
        subst (λ (z : P.El). Le P z y) e
        (subst (Le P (price P G U)) d
        (L.le_trans (price P G U) (price P G W) (price P H W) (u.lowest W (cover_of_less W w.cover)) (price_of_less W)))

  -- ---- the lowest price: there is one where there is a cover, and only one

  pub lowest_price_there : (G : Graph P.El) → WellFormed G → CostsHold P G → (W : List Weighted) → IsCover G W → (x : P.El) × LowestPrice P G x
  lowest_price_there G g costs W c =
      let (U, m, u, s) = some_marks_show P L G g costs W c in
      (price P G U, (U, shown_is_lowest P L G g m U u s, refl))

  asks_itself : (G : Graph P.El) → AsksMore P G G
  asks_itself G =
      record {
        opening_no_less = L.le_refl G.opening;
        vertices_raised = each_self VertexRaised vertex_kept G.vertices;
        arcs_raised = each_self (ArcRaised P) arc_kept G.arcs;
        reads_kept = all_reads G.reads;
      }

  pub one_lowest_price : (G : Graph P.El) (x y : P.El) → LowestPrice P G x → LowestPrice P G y → x ≡ y
  one_lowest_price G x y h k = L.le_antisym x y (never_cheaper G G (asks_itself G) x y h k) (never_cheaper G G (asks_itself G) y x k h)

  -- the request's sentence for graphs as forms give them: both have covers, so both have a lowest price, and that of the one that asks more is no lower
  pub more_asked_never_cheaper : (G H : Graph P.El) → WellFormed G → CostsHold P G → WellFormed H → CostsHold P H → AsksMore P G H →
      (U W : List Weighted) → IsCover G U → IsCover H W → (x : P.El) × (y : P.El) × LowestPrice P G x × LowestPrice P H y × Le P x y
  more_asked_never_cheaper G H g gc h hc more U W u w =
      let (x, l) = lowest_price_there G g gc U u in
      let (y, k) = lowest_price_there H h hc W w in
      (x, y, l, k, never_cheaper G H more x y l k)

  -- ---- the changes that the request names, one at a time

  module _ (G : Graph P.El) where
    pub vertex_demand_raised_lem : (v more : ℕ) → AsksMore P G (vertex_demand_raised v more G)
    vertex_demand_raised_lem v more =
        record {
          opening_no_less = L.le_refl G.opening;
          vertices_raised = each_changed VertexRaised vertex_kept _ (λ x. record { start_kept = refl; end_kept = refl; demand_raised = omega arith }) v G.vertices;
          arcs_raised = each_self (ArcRaised P) arc_kept G.arcs;
          reads_kept = all_reads G.reads;
        }

    pub arc_demand_raised_lem : (a more : ℕ) → AsksMore P G (arc_demand_raised a more G)
    arc_demand_raised_lem a more =
        record {
          opening_no_less = L.le_refl G.opening;
          vertices_raised = each_self VertexRaised vertex_kept G.vertices;
          arcs_raised = each_changed (ArcRaised P) arc_kept _
              (λ x. record { tail_kept = refl; head_kept = refl; cost_raised = L.le_refl x.cost; demand_raised = omega arith }) a G.arcs;
          reads_kept = all_reads G.reads;
        }

    pub arc_cost_raised_lem : (a : ℕ) (more : P.El) → Le P P.nil more → AsksMore P G (arc_cost_raised P a more G)
    arc_cost_raised_lem a more h =
        record {
          opening_no_less = L.le_refl G.opening;
          vertices_raised = each_self VertexRaised vertex_kept G.vertices;
          arcs_raised = each_changed (ArcRaised P) arc_kept _
              (λ x. record { tail_kept = refl; head_kept = refl; cost_raised = Algebra.le_add_more P L x.cost more h; demand_raised = omega arith }) a G.arcs;
          reads_kept = all_reads G.reads;
        }

    pub opening_raised_lem : (more : P.El) → Le P P.nil more → AsksMore P G (opening_raised P more G)
    opening_raised_lem more h =
        record {
          opening_no_less = Algebra.le_add_more P L G.opening more h;
          vertices_raised = each_self VertexRaised vertex_kept G.vertices;
          arcs_raised = each_self (ArcRaised P) arc_kept G.arcs;
          reads_kept = all_reads G.reads;
        }

    -- other reads, each read that was there among them
    other_reads : (rs : List (List ℕ)) → All (OneOf rs) G.reads → AsksMore P G (with_reads G rs)
    other_reads rs h =
        record {
          opening_no_less = L.le_refl G.opening;
          vertices_raised = each_self VertexRaised vertex_kept G.vertices;
          arcs_raised = each_self (ArcRaised P) arc_kept G.arcs;
          reads_kept = h;
        }

    pub read_added_lem : (k : ℕ) (r : List ℕ) → AsksMore P G (read_added k r G)
    read_added_lem k r = other_reads (take k G.reads ++ (r ∷ drop k G.reads)) (still_there k r G.reads)

    -- in the request's words: none of the five changes lets the lowest price fall
    pub raised_vertex_demand : (v more : ℕ) (x y : P.El) → LowestPrice P G x → LowestPrice P (vertex_demand_raised v more G) y → Le P x y
    raised_vertex_demand v more = never_cheaper G (vertex_demand_raised v more G) (vertex_demand_raised_lem v more)

    pub raised_arc_demand : (a more : ℕ) (x y : P.El) → LowestPrice P G x → LowestPrice P (arc_demand_raised a more G) y → Le P x y
    raised_arc_demand a more = never_cheaper G (arc_demand_raised a more G) (arc_demand_raised_lem a more)

    pub raised_arc_cost : (a : ℕ) (more : P.El) → Le P P.nil more → (x y : P.El) → LowestPrice P G x → LowestPrice P (arc_cost_raised P a more G) y → Le P x y
    raised_arc_cost a more h = never_cheaper G (arc_cost_raised P a more G) (arc_cost_raised_lem a more h)

    pub raised_opening : (more : P.El) → Le P P.nil more → (x y : P.El) → LowestPrice P G x → LowestPrice P (opening_raised P more G) y → Le P x y
    raised_opening more h = never_cheaper G (opening_raised P more G) (opening_raised_lem more h)

    pub added_read : (k : ℕ) (r : List ℕ) (x y : P.El) → LowestPrice P G x → LowestPrice P (read_added k r G) y → Le P x y
    added_read k r = never_cheaper G (read_added k r G) (read_added_lem k r)

  -- ---- two graphs that ask for the same

  -- what has the lowest price in one has it in the other, and it is the same price
  pub equally_asked : (G H : Graph P.El) → AsksMore P G H → AsksMore P H G → (x : P.El) → LowestPrice P G x → LowestPrice P H x
  equally_asked G H there back x (W, w, e) = (
    W,
    record {
      cover = cover_of_less H G back W w.cover;
      lowest =
          λ U u. subst (λ y. Le P y (price P H U)) (same W)
          (subst (Le P (price P G W)) (same U) (w.lowest U (cover_of_less G H there U u)));
    },
    sym (same W) ∙ e,
  )
    where
      same : (U : List Weighted) → price P G U ≡ price P H U
      same U = L.le_antisym (price P G U) (price P H U) (price_of_less G H there U) (price_of_less H G back U)

  -- "reordering the reads doesn't change it"
  pub reads_reordered : (G : Graph P.El) (rs : List (List ℕ)) → Reordered G.reads rs → (x : P.El) → LowestPrice P G x ↔ LowestPrice P (with_reads G rs) x
  reads_reordered G rs h x =
      let there = other_reads G rs (all_from (OneOf rs) G.reads (λ r m. reordered_kept G.reads rs h r m)) in
      let back = other_reads (with_reads G rs) G.reads (all_from (OneOf G.reads) rs (λ r m. reordered_back G.reads rs h r m)) in
      (equally_asked G (with_reads G rs) there back x, equally_asked (with_reads G rs) G back there x)
