-- #112: the least number of paths that touch every vertex is the lowest price of the counting graph. So what decides a cover's price decides that too.
use Prim.Native.Nat.{ℕ, zero, suc, ◌+◌, ◌*◌, ◌≤◌, ◌<◌}
use native.Mathlib.Omega.{arith}
use mathlib.Core.Path.{◌≡◌, refl, sym, ap, ap₂, subst, ◌∙◌}
use mathlib.Core.List.{List, [], ◌∷◌, map}
use mathlib.Core.Bool.{Bool, true, false, cond, ◌&&◌, ◌||◌}
use mathlib.Core.Logic.{◌⊎◌, inl, inr, ◌↔◌}
use lib.Dec.{T, eqb, eqb→eq, leb→le, le→leb}
use lib.ListN.{length, length-map, get_or}
use lib.IntN.{ℤ, pos, ◌+ℤ◌}
use Rattle.mathematics.specs.Price.{times, whole}
use Rattle.mathematics.specs.Lists.{All, Distinct, holds, some_holds, last_of}
use Rattle.mathematics.specs.Graph.{Vertex, Arc, Graph, no_vertex, is_start, is_end, joins, has_arc, linked, is_path}
use Rattle.mathematics.specs.Cover.{Item, vert, through, Ask, vertex_asks, arc_ask, Weighted, total, total_weight, paths, IsCover, cost_of, arc_costs, price}
use Rattle.mathematics.specs.Reach.{item_list}
use Rattle.mathematics.specs.Range.{OneOf}
use Rattle.mathematics.specs.Direction.{LowestPrice}
use Rattle.mathematics.specs.Safe.{PathCover, Safe}
use Rattle.mathematics.specs.Counting.{LeastPaths, Counting, counted_vertex, counted_arc, counting}
use Rattle.mathematics.proofs.Basics.{or_cases, all_among, all_from, all_append, all_left, all_map, all_weaken, among_map, test}
use Rattle.mathematics.proofs.Loads.{unequal}
use Rattle.mathematics.proofs.Merge.{merge, merge_total, merge_weight, merge_length, merge_weights, merge_all, merge_distinct, merge_holds, some_holds_lem}
use Rattle.mathematics.proofs.Parts.{within_holds, some_held, held_some}
use Rattle.mathematics.proofs.Reach.{through_iff_holds}
use Rattle.mathematics.proofs.Existence.{passed_by_some}

-- ---- each path once

abbrev one_copy : List ℕ → Weighted
one_copy p = record { weight = 1; path = p }

copies_of : (Q : List (List ℕ)) → total_weight (map one_copy Q) ≡ length Q
copies_of [] = refl
copies_of (q ∷ Q) = let e = copies_of Q in omega arith

-- an item that one of the paths passes is passed once or more in total
total_some : (i : Item) (Q : List (List ℕ)) → T (some_holds Q (item_list i)) → 1 ≤ total i (map one_copy Q)
total_some i [] h = absurd h
total_some i (q ∷ Q) h = go (or_cases (holds q (item_list i)) (some_holds Q (item_list i)) h) (total_some i Q)
  where
    go : T (holds q (item_list i)) ⊎ T (some_holds Q (item_list i)) → (T (some_holds Q (item_list i)) → 1 ≤ total i (map one_copy Q)) →
        1 ≤ 1 * through i q + total i (map one_copy Q)
    go (inl t) more = let k = (through_iff_holds i q).1 t in omega arith
    go (inr t) more = let k = more t in omega arith

-- no path is without a copy
length_copies : (W : List Weighted) → All (λ w. 1 ≤ w.weight) W → length (paths W) ≤ total_weight W
length_copies [] h = omega arith
length_copies (w ∷ W) h = let k = length_copies W h.1 in let l = h.0 in omega arith

-- ---- each vertex asked for once

asked_once : (k : ℕ) (xs : List Vertex) (W : List Weighted) → All (λ x. x.demand ≡ 1) xs →
    All (λ a. a.demand ≤ total a.item W) (vertex_asks k xs) → (v : ℕ) → k ≤ v → v < k + length xs → 1 ≤ total (vert v) W
asked_once k [] W h m v l b = absurd (omega arith)
asked_once k (x ∷ xs) W h m v l b = go (test (eqb k v)) (asked_once (suc k) xs W h.1 m.1 v)
  where
    go : T (eqb k v) ⊎ (T (eqb k v) → ⊥) → (suc k ≤ v → v < suc k + length xs → 1 ≤ total (vert v) W) → 1 ≤ total (vert v) W
    go (inl t) more =
        let one = h.0 in
        let here = m.0 in
        subst (λ (j : ℕ). 1 ≤ total (vert j) W) (eqb→eq k v t) (omega arith)
    go (inr f) more =
        let n = unequal k v f in
        let apart : k ≡ v → ⊥ = n in
        more (omega arith) (omega arith)

once_asked : (k : ℕ) (xs : List Vertex) (W : List Weighted) → All (λ x. x.demand ≤ 1) xs →
    ((v : ℕ) → k ≤ v → v < k + length xs → 1 ≤ total (vert v) W) → All (λ a. a.demand ≤ total a.item W) (vertex_asks k xs)
once_asked k [] W h t = tt
once_asked k (x ∷ xs) W h t =
    let one = h.0 in
    let here = t k (omega arith) (omega arith) in
    (omega arith, once_asked (suc k) xs W h.1 (λ v l b. t v (omega arith) (omega arith)))

-- ---- only copies cost

free_arcs : (arcs : List (Arc ℤ)) → All (λ a. (a.cost ≡ pos 0) × (a.demand ≡ 0)) arcs → (u v : ℕ) → cost_of whole arcs u v ≡ pos 0
free_arcs [] h u v = refl
free_arcs (a ∷ arcs) h u v = either (joins a u v) (free_arcs arcs h.1 u v)
  where
    either : (t : Bool) → cost_of whole arcs u v ≡ pos 0 → cond t a.cost (cost_of whole arcs u v) ≡ pos 0
    either true e = h.0.0
    either false e = e

free_path : (arcs : List (Arc ℤ)) → All (λ a. (a.cost ≡ pos 0) × (a.demand ≡ 0)) arcs → (p : List ℕ) → arc_costs whole arcs p ≡ pos 0
free_path arcs h [] = refl
free_path arcs h (v ∷ []) = refl
free_path arcs h (u ∷ v ∷ p) = ap₂ ◌+ℤ◌ (free_arcs arcs h u v) (free_path arcs h (v ∷ p))

times_ones : (k : ℕ) → times whole k (pos 1) ≡ pos k
times_ones zero = refl
times_ones (suc k) =
    let e : 1 + k ≡ suc k = omega arith in
    ap (λ x. pos 1 +ℤ x) (times_ones k) ∙ ap pos e

module _ (H : Graph ℤ) (c : Counting H) where
  -- the price of a cover is its number of copies
  pub price_counts : (W : List Weighted) → price whole H W ≡ pos (total_weight W)
  price_counts [] = refl
  price_counts (w ∷ W) =
      ap₂ ◌+ℤ◌ (ap (times whole w.weight) (ap₂ ◌+ℤ◌ c.opening_one (free_path H.arcs c.arcs_free w.path)) ∙ times_ones w.weight) (price_counts W)

  -- so many paths that touch every vertex give a cover of so many copies or fewer,
  pub cover_of_paths : (most : ℕ) (Q : List (List ℕ)) → PathCover H most Q → (W : List Weighted) × IsCover H W × (total_weight W ≤ most)
  cover_of_paths most Q p = (
    merge (map one_copy Q),
    record {
      are_paths =
          merge_all (λ q. T (is_path H q)) (map one_copy Q)
          (all_map (λ w. 1 ≤ w.weight → T (is_path H w.path)) one_copy Q (all_weaken (λ q. T (is_path H q)) _ Q (λ q t l. t) p.are_paths));
      weights = merge_weights (map one_copy Q);
      distinct = merge_distinct (map one_copy Q);
      demands_met =
          all_append met (vertex_asks 0 H.vertices) (map arc_ask H.arcs)
          (once_asked 0 H.vertices (merge (map one_copy Q)) (all_weaken _ _ H.vertices (λ (x : Vertex) e. omega arith) c.vertices_once)
          (λ v l b. rw (merge_total (vert v) (map one_copy Q)) (total_some (vert v) Q (p.touched v (omega arith)))))
          (all_map met arc_ask H.arcs
          (all_weaken (λ a. (a.cost ≡ pos 0) × (a.demand ≡ 0)) (λ a. met (arc_ask a)) H.arcs (λ a h. let z = h.1 in omega arith) c.arcs_free));
      reads_met = subst (All (λ r. T (some_holds (paths (merge (map one_copy Q))) r))) (sym c.no_reads) tt;
    },
    omega (arith, merge_weight (map one_copy Q), copies_of Q, p.few),
  )
    where
      met : Ask → Type 0
      met a = a.demand ≤ total a.item (merge (map one_copy Q))

  -- and a cover of so many copies gives so many paths or fewer
  pub paths_of_cover : (W : List Weighted) → IsCover H W → PathCover H (total_weight W) (paths W)
  paths_of_cover W w =
      record {
        are_paths = all_map (λ p. T (is_path H p)) (λ (x : Weighted). x.path) W w.are_paths;
        few = length_copies W w.weights;
        touched =
            λ v l.
            let some =
            asked_once 0 H.vertices W c.vertices_once (all_left (λ a. a.demand ≤ total a.item W) (vertex_asks 0 H.vertices) (map arc_ask H.arcs) w.demands_met) v
            (omega arith) (omega arith) in
            let (x, m, t) = passed_by_some (vert v) W some in
            some_holds_lem x.path (paths W) (v ∷ []) (among_map (λ (x : Weighted). x.path) x W m) ((through_iff_holds (vert v) x.path).0 t);
      }

  -- there are such paths, of whatever number, exactly where there is a cover
  pub some_paths_iff_cover : ((most : ℕ) × (Q : List (List ℕ)) × PathCover H most Q) ↔ ((W : List Weighted) × IsCover H W)
  some_paths_iff_cover = (
    λ h. let (W, w, l) = cover_of_paths h.0 h.1 h.2 in (W, w),
    λ h. (total_weight h.0, paths h.0, paths_of_cover h.0 h.1),
  )

  -- the least number of paths is the lowest price
  pub least_paths_is_lowest_price : (k : ℕ) → LowestPrice whole H (pos k) ↔ LeastPaths H k
  least_paths_is_lowest_price k = (there, back)
    where
      there : LowestPrice whole H (pos k) → LeastPaths H k
      there (W, w, e) most = (
        λ h.
            let (U, u, l) = cover_of_paths most h.0 h.1 in
            let at_most : T (whole.leb (pos k) (pos (total_weight U))) =
            subst (λ x. T (whole.leb x (pos (total_weight U)))) e (subst (λ x. T (whole.leb (price whole H W) x)) (price_counts U) (w.lowest U u)) in
            omega (arith, leb→le k (total_weight U) at_most),
        λ h.
            let p = paths_of_cover W w.cover in
            let both : pos (total_weight W) ≡ pos k = sym (price_counts W) ∙ e in
            let copies : total_weight W ≡ k = cc in
            (paths W, record { are_paths = p.are_paths; few = omega (arith, p.few); touched = p.touched }),
      )

      back : LeastPaths H k → LowestPrice whole H (pos k)
      back least =
          let (Q, q) = (least k).1 (omega arith) in
          let (W, w, l) = cover_of_paths k Q q in
          let copies : total_weight W ≡ k = omega (arith, (least (total_weight W)).0 (paths W, paths_of_cover W w)) in (
            W,
            record {
              cover = w;
              lowest =
                  λ U u. subst (λ x. T (whole.leb x (price whole H U))) (sym (price_counts W ∙ ap pos copies))
                  (subst (λ x. T (whole.leb (pos k) x)) (sym (price_counts U))
                  (le→leb k (total_weight U) ((least (total_weight U)).0 (paths U, paths_of_cover U u))));
            },
            price_counts W ∙ ap pos copies,
          )

-- ---- graphs with the same vertices, starts, ends and arcs have the same such covers, whatever they ask for and cost

module _ {E F : Type 0} (G : Graph E) (H : Graph F) (count : length H.vertices ≡ length G.vertices) (starts : (v : ℕ) → is_start H v ≡ is_start G v)
    (ends : (v : ℕ) → is_end H v ≡ is_end G v) (arcs : (u v : ℕ) → has_arc H.arcs u v ≡ has_arc G.arcs u v) where
  same_linked : (p : List ℕ) → linked H.arcs p ≡ linked G.arcs p
  same_linked [] = refl
  same_linked (v ∷ []) = refl
  same_linked (u ∷ v ∷ p) = ap₂ (λ (s t : Bool). s && t) (arcs u v) (same_linked (v ∷ p))

  same_path_lem : (p : List ℕ) → is_path H p ≡ is_path G p
  same_path_lem [] = refl
  same_path_lem (v ∷ p) = ap₂ (λ (s t : Bool). s && t) (starts v) (ap₂ (λ (s t : Bool). s && t) (same_linked (v ∷ p)) (ends (last_of v p)))

  pub same_shape : (most : ℕ) (Q : List (List ℕ)) → PathCover H most Q ↔ PathCover G most Q
  same_shape most Q = (
    λ c. record {
      are_paths = all_weaken _ _ Q (λ p t. subst T (same_path_lem p) t) c.are_paths;
      few = c.few;
      touched = λ v l. c.touched v (subst (λ (n : ℕ). v < n) (sym count) l);
    },
    λ c. record {
      are_paths = all_weaken _ _ Q (λ p t. subst T (sym (same_path_lem p)) t) c.are_paths;
      few = c.few;
      touched = λ v l. c.touched v (subst (λ (n : ℕ). v < n) count l);
    },
  )

-- ---- the counting graph of a graph

module _ {E : Type 0} (G : Graph E) where
  pub counting_counts : Counting (counting G)
  counting_counts =
      record {
        opening_one = refl;
        vertices_once = once G.vertices;
        arcs_free = free G.arcs;
        no_reads = refl;
      }
    where
      once : (xs : List Vertex) → All (λ (x : Vertex). x.demand ≡ 1) (map counted_vertex xs)
      once [] = tt
      once (x ∷ xs) = (refl, once xs)

      free : (xs : List (Arc E)) →
          All (λ (a : Arc ℤ). (a.cost ≡ pos 0) × (a.demand ≡ 0)) (map counted_arc xs)
      free [] = tt
      free (x ∷ xs) = ((refl, refl), free xs)

  counting_covers : (most : ℕ) (Q : List (List ℕ)) → PathCover (counting G) most Q ↔ PathCover G most Q
  counting_covers =
      same_shape G (counting G) (length-map G.vertices counted_vertex) (starts G.vertices)
      (ends G.vertices) (arcs G.arcs)
    where
      starts : (xs : List Vertex) (v : ℕ) →
          (get_or (map counted_vertex xs) v no_vertex).start ≡ (get_or xs v no_vertex).start
      starts [] v = refl
      starts (x ∷ xs) zero = refl
      starts (x ∷ xs) (suc v) = starts xs v

      ends : (xs : List Vertex) (v : ℕ) →
          (get_or (map counted_vertex xs) v no_vertex).end ≡ (get_or xs v no_vertex).end
      ends [] v = refl
      ends (x ∷ xs) zero = refl
      ends (x ∷ xs) (suc v) = ends xs v

      arcs : (xs : List (Arc E)) (u v : ℕ) →
          has_arc (map counted_arc xs) u v ≡ has_arc xs u v
      arcs [] u v = refl
      arcs (x ∷ xs) u v = ap (λ t. joins x u v || t) (arcs xs u v)

  -- the least number of paths of a graph is the lowest price of its counting graph
  pub least_paths_of_graph : (k : ℕ) → LowestPrice whole (counting G) (pos k) ↔ LeastPaths G k
  least_paths_of_graph k = (
    λ h most.
        let l = (least_paths_is_lowest_price (counting G) counting_counts k).0 h most in
        (λ q. l.0 (q.0, (counting_covers most q.0).1 q.1), λ n. let (Q, c) = l.1 n in (Q, (counting_covers most Q).0 c)),
    λ h.
        (least_paths_is_lowest_price (counting G) counting_counts k).1
        (λ most. (λ q. (h most).0 (q.0, (counting_covers most q.0).0 q.1), λ n. let (Q, c) = (h most).1 n in (Q, (counting_covers most Q).1 c))),
  )

-- ---- document 01's covers are sets of distinct paths: lists with repeats make no stretch unsafe

module _ {E : Type 0} (G : Graph E) (most : ℕ) where
  pub distinct_covers_suffice : (p : List ℕ) → ((Q : List (List ℕ)) → PathCover G most Q → Distinct Q → T (some_holds Q p)) → Safe G most p
  distinct_covers_suffice p h Q c =
      let (q, m, w) = some_held once p (h once cover (merge_distinct (map one_copy Q))) in
      held_some Q p q (all_among (OneOf Q) once q members m) w
    where
      once : List (List ℕ)
      once = paths (merge (map one_copy Q))

      members : All (OneOf Q) once
      members =
          all_map (OneOf Q) (λ (w : Weighted). w.path) (merge (map one_copy Q))
          (merge_all (OneOf Q) (map one_copy Q)
          (all_map (λ w. 1 ≤ w.weight → OneOf Q w.path) one_copy Q (all_from (λ q. 1 ≤ 1 → OneOf Q q) Q (λ q m l. m))))

      cover : PathCover G most once
      cover =
          record {
            are_paths = all_weaken (OneOf Q) (λ q. T (is_path G q)) once (λ q m. all_among (λ q. T (is_path G q)) Q q c.are_paths m) members;
            few =
                let l = c.few in
                omega (arith, length-map (merge (map one_copy Q)) (λ (w : Weighted). w.path), merge_length (map one_copy Q), length-map Q one_copy);
            touched =
                λ v l.
                let (q, m, w) = some_held Q (v ∷ []) (c.touched v l) in
                merge_holds (v ∷ []) (one_copy q) (map one_copy Q) (among_map one_copy q Q m) (omega arith) (within_holds q (v ∷ []) w);
          }
