-- Document 01: "A cover exists exactly when each vertex and arc of positive demand, and each read, lies on some path from a start to an end."
-- Both directions, and that this is decided by a test that computes.
use Prim.Native.Nat.{ℕ, zero, suc, ◌+◌, ◌*◌, ◌≤◌}
use native.Mathlib.Omega.{arith}
use native.Mathlib.Nat.{mul-zero, le-mul_of_pos_right}
use mathlib.Core.Path.{◌≡◌, refl, sym, subst}
use mathlib.Core.List.{List, [], ◌∷◌, ◌++◌, map}
use mathlib.Core.Bool.{Bool, true, ◌||◌}
use mathlib.Core.Logic.{inl, inr, ◌↔◌}
use lib.Dec.{T, eqb, eqb→eq}
use lib.ListN.{length}
use Rattle.mathematics.specs.Price.{Prices}
use Rattle.mathematics.specs.Lists.{All, holds, some_holds, last_of}
use Rattle.mathematics.specs.Range.{OneOf}
use Rattle.mathematics.specs.Graph.{Vertex, Graph, WellFormed, has_arc, linked, is_path}
use Rattle.mathematics.specs.Cover.{Item, vert, arc, Ask, Weighted, through, total, paths, vertex_asks, arc_ask, asks, IsCover, price}
use Rattle.mathematics.specs.Exists.{ItemOnPath, ReadOnPath, Coverable}
use Rattle.mathematics.specs.Reach.{item_list, from_start, to_end, read_lies, item_lies, every, ask_lies, coverable_test}
use Rattle.mathematics.proofs.Basics.{and_l, and_r, and_in, or_cases, or_r, all_among, all_from, all_weaken, all_append, all_map, among_right}
use Rattle.mathematics.proofs.Merge.{merge, merge_total, merge_weights, merge_distinct, merge_all, merge_holds}
use Rattle.mathematics.proofs.Reach.{arc_joins, item_as_read, read_on_path}

-- ---- a cover shows that everything lies on a path

-- if the weights through an item come to something, one of the paths passes it
pub passed_by_some : (i : Item) (W : List Weighted) → 1 ≤ total i W → (w : Weighted) × OneOf W w × (1 ≤ through i w.path)
passed_by_some i [] h = absurd (omega arith)
passed_by_some i (w ∷ W) h = pick (through i w.path) refl h (passed_by_some i W)
  where
    pick : (t : ℕ) → through i w.path ≡ t → 1 ≤ w.weight * t + total i W →
        (1 ≤ total i W → (x : Weighted) × OneOf W x × (1 ≤ through i x.path)) →
        (x : Weighted) × OneOf (w ∷ W) x × (1 ≤ through i x.path)
    pick zero e h ih =
        let r = ih (omega (arith, mul-zero w.weight)) in
        (r.0, inr r.1, r.2)
    pick (suc t) e h ih = (w, inl refl, omega arith)

-- if one of the paths holds r, here it is
pub held_by_some : (r : List ℕ) (W : List Weighted) → T (some_holds (paths W) r) → (w : Weighted) × OneOf W w × T (holds w.path r)
held_by_some r [] h = absurd h
held_by_some r (w ∷ W) h =
    elim (or_cases (holds w.path r) (some_holds (paths W) r) h) [
      | inl k ↦ (w, inl refl, k)
      | inr k ↦ let x = held_by_some r W k in (x.0, inr x.1, x.2)
    ]

weight_through : (d t : ℕ) → (1 ≤ d → 1 ≤ t) → d ≤ d * t
weight_through zero t f = omega arith
weight_through (suc d) t f = le-mul_of_pos_right (suc d) (f (omega arith))

module _ {E : Type 0} (G : Graph E) where
  -- "each vertex and arc of positive demand, and each read, lies on some path": the cover's own paths show it.
  pub cover_shows_coverable : (W : List Weighted) → IsCover G W → Coverable G
  cover_shows_coverable W c =
      record {
        items_lie = all_weaken (λ a. a.demand ≤ total a.item W) (λ a. 1 ≤ a.demand → ItemOnPath G a.item) (asks G) item c.demands_met;
        reads_lie = all_weaken (λ r. T (some_holds (paths W) r)) (ReadOnPath G) G.reads read c.reads_met;
      }
    where
      is_a_path : (w : Weighted) → OneOf W w → T (is_path G w.path)
      is_a_path w m = all_among (λ (x : Weighted). T (is_path G x.path)) W w c.are_paths m

      item : (a : Ask) → a.demand ≤ total a.item W → 1 ≤ a.demand → ItemOnPath G a.item
      item a met asked =
          let r = passed_by_some a.item W (omega arith) in
          (r.0.path, is_a_path r.0 r.1, r.2)

      read : (r : List ℕ) → T (some_holds (paths W) r) → ReadOnPath G r
      read r h =
          let x = held_by_some r W h in
          (x.0.path, is_a_path x.0 x.1, x.2)

  -- ---- one path for each asking item, one for each read, merged

  item_path : (d : ℕ) (i : Item) → (1 ≤ d → ItemOnPath G i) → (p : List ℕ) × (1 ≤ d → T (is_path G p) × (1 ≤ through i p))
  item_path zero i f = ([], λ h. absurd (omega arith))
  item_path (suc d) i f =
      let r = f (omega arith) in
      (r.0, λ h. (r.1, r.2))

  -- a path for each asking item, with its demand as the weight
  item_paths : (needs : List Ask) → All (λ a. 1 ≤ a.demand → ItemOnPath G a.item) needs → List Weighted
  item_paths [] h = []
  item_paths (a ∷ needs) h = record { weight = a.demand; path = (item_path a.demand a.item h.0).0 } ∷ item_paths needs h.1

  read_paths : (rs : List (List ℕ)) → All (ReadOnPath G) rs → List Weighted
  read_paths [] h = []
  read_paths (r ∷ rs) h = record { weight = 1; path = h.0.0 } ∷ read_paths rs h.1

  item_paths_are : (needs : List Ask) (h : All (λ a. 1 ≤ a.demand → ItemOnPath G a.item) needs) →
      All (λ w. 1 ≤ w.weight → T (is_path G w.path)) (item_paths needs h)
  unfolding item_paths
  item_paths_are [] h = tt
  item_paths_are (a ∷ needs) h = (λ one. ((item_path a.demand a.item h.0).1 one).0, item_paths_are needs h.1)

  read_paths_are : (rs : List (List ℕ)) (h : All (ReadOnPath G) rs) → All (λ w. 1 ≤ w.weight → T (is_path G w.path)) (read_paths rs h)
  unfolding read_paths
  read_paths_are [] h = tt
  read_paths_are (r ∷ rs) h = (λ one. h.0.1, read_paths_are rs h.1)

  -- each item's demand is met by its own path
  item_paths_meet : (needs : List Ask) (h : All (λ a. 1 ≤ a.demand → ItemOnPath G a.item) needs) (more : List Weighted) →
      All (λ a. a.demand ≤ total a.item (item_paths needs h ++ more)) needs
  unfolding item_paths
  item_paths_meet [] h more = tt
  item_paths_meet (a ∷ needs) h more =
      let own = item_path a.demand a.item h.0 in (
        omega (arith, weight_through a.demand (through a.item own.0) (λ one. (own.1 one).1)),
        all_weaken (λ b. b.demand ≤ total b.item (item_paths needs h.1 ++ more))
            (λ b. b.demand ≤ a.demand * through b.item own.0 + total b.item (item_paths needs h.1 ++ more)) needs
            (λ b met. omega arith) (item_paths_meet needs h.1 more),
      )

  -- each read is held by its own path
  read_paths_hold : (rs : List (List ℕ)) (h : All (ReadOnPath G) rs) →
      All (λ r. (w : Weighted) × OneOf (read_paths rs h) w × (1 ≤ w.weight) × T (holds w.path r)) rs
  unfolding read_paths
  read_paths_hold [] h = tt
  read_paths_hold (r ∷ rs) h = (
    (record { weight = 1; path = h.0.0 }, inl refl, omega arith, h.0.2),
    all_weaken (λ q. (w : Weighted) × OneOf (read_paths rs h.1) w × (1 ≤ w.weight) × T (holds w.path q))
        (λ q. (w : Weighted) × OneOf (read_paths (r ∷ rs) h) w × (1 ≤ w.weight) × T (holds w.path q)) rs
        (λ q x. (x.0, inr x.1, x.2, x.3)) (read_paths_hold rs h.1),
  )

  -- "A cover exists" where each vertex and arc of positive demand, and each read, lies on some path from a start to an end.
  pub cover_exists : Coverable G → (W : List Weighted) × IsCover G W
  cover_exists c =
      let own = item_paths (asks G) c.items_lie in
      let held = read_paths G.reads c.reads_lie in
      let all = own ++ held in (
        merge all,
        record {
          are_paths =
              merge_all (λ p. T (is_path G p)) all
              (all_append (λ w. 1 ≤ w.weight → T (is_path G w.path)) own held
              (item_paths_are (asks G) c.items_lie) (read_paths_are G.reads c.reads_lie));
          weights = merge_weights all;
          distinct = merge_distinct all;
          demands_met =
              all_weaken (λ a. a.demand ≤ total a.item all) (λ a. a.demand ≤ total a.item (merge all)) (asks G)
              (λ a met. omega (arith, merge_total a.item all)) (item_paths_meet (asks G) c.items_lie held);
          reads_met =
              all_weaken (λ r. (w : Weighted) × OneOf held w × (1 ≤ w.weight) × T (holds w.path r)) (λ r. T (some_holds (paths (merge all)) r))
              G.reads (λ r x. merge_holds r x.0 all (among_right x.0 own held x.1) x.2 x.3)
              (read_paths_hold G.reads c.reads_lie);
        },
      )

-- "If nothing is asked for, the empty set is a cover of price 0." Nothing: "Demand 0 asks for nothing", and there is no read.
pub nothing_asked : (P : Prices) (G : Graph P.El) → All (λ a. a.demand ≡ 0) (asks G) → G.reads ≡ [] → IsCover G [] × (price P G [] ≡ P.nil)
nothing_asked P G idle none = (
  record {
    are_paths = tt;
    weights = tt;
    distinct = tt;
    demands_met = all_weaken (λ a. a.demand ≡ 0) (λ a. a.demand ≤ 0) (asks G) (λ a e. omega arith) idle;
    reads_met = subst (All (λ r. T (some_holds [] r))) (sym none) tt;
  },
  refl,
)

-- ---- the test decides it

every_iff : {A : Type 0} (f : A → Bool) (Q : A → Type 0) (xs : List A) → All (λ x. T (f x) ↔ Q x) xs → T (every f xs) ↔ All Q xs
every_iff f Q [] h = (λ t. tt, λ q. tt)
every_iff f Q (x ∷ xs) h =
    let rest = every_iff f Q xs h.1 in (
      λ t. (h.0.0 (and_l (f x) (every f xs) t), rest.0 (and_r (f x) (every f xs) t)),
      λ q. and_in (f x) (every f xs) (h.0.1 q.0) (rest.1 q.1),
    )

module _ {E : Type 0} (G : Graph E) where
  vertices_linked : (k : ℕ) (xs : List Vertex) → All (λ a. T (linked G.arcs (item_list a.item))) (vertex_asks k xs)
  vertices_linked k [] = tt
  vertices_linked k (x ∷ xs) = (tt, vertices_linked (suc k) xs)

  -- the vertices of each item of the graph are linked
  pub asks_linked : All (λ a. T (linked G.arcs (item_list a.item))) (asks G)
  asks_linked =
      all_append (λ a. T (linked G.arcs (item_list a.item))) (vertex_asks 0 G.vertices) (map arc_ask G.arcs)
      (vertices_linked 0 G.vertices)
      (all_map (λ a. T (linked G.arcs (item_list a.item))) arc_ask G.arcs
      (all_from (λ a. T (linked G.arcs (a.tail ∷ a.head ∷ []))) G.arcs
      (λ a m. and_in (has_arc G.arcs a.tail a.head) true (arc_joins G.arcs a m) tt)))

module _ {E : Type 0} (G : Graph E) (wf : WellFormed G) where
  -- the test of a read says whether it lies on a path,
  pub read_lies_lem : (r : List ℕ) → 1 ≤ length r → T (linked G.arcs r) → T (read_lies G r) ↔ ReadOnPath G r
  read_lies_lem [] few l = absurd (omega arith)
  read_lies_lem (v ∷ r) few l =
      let on = read_on_path G wf v r l in (
        λ t. on.1 (and_l (from_start G v) (to_end G (last_of v r)) t, and_r (from_start G v) (to_end G (last_of v r)) t),
        λ h. and_in (from_start G v) (to_end G (last_of v r)) (on.0 h).0 (on.0 h).1,
      )

  -- that of an item whether the item does,
  pub item_lies_lem : (i : Item) → T (linked G.arcs (item_list i)) → T (item_lies G i) ↔ ItemOnPath G i
  item_lies_lem i l =
      let as_read = item_as_read G i in
      let lies = read_lies_lem (item_list i) (long i) l in
      (λ t. as_read.1 (lies.0 t), λ h. lies.1 (as_read.0 h))
    where
      long : (j : Item) → 1 ≤ length (item_list j)
      long (vert v) = omega arith
      long (arc u v) = omega arith

  -- and that of an ask says whether it asks for nothing or lies on a path.
  pub ask_lies_lem : (a : Ask) → T (linked G.arcs (item_list a.item)) → T (ask_lies G a) ↔ (1 ≤ a.demand → ItemOnPath G a.item)
  ask_lies_lem a l = (there, back)
    where
      there : T (ask_lies G a) → 1 ≤ a.demand → ItemOnPath G a.item
      there t asked =
          elim (or_cases (eqb a.demand 0) (item_lies G a.item) t) [
            | inl z ↦ absurd (omega (arith, eqb→eq a.demand 0 z))
            | inr k ↦ (item_lies_lem a.item l).0 k
          ]

      pick : (d : ℕ) → (1 ≤ d → ItemOnPath G a.item) → T (eqb d 0 || item_lies G a.item)
      pick zero f = tt
      pick (suc d) f = or_r (eqb (suc d) 0) (item_lies G a.item) ((item_lies_lem a.item l).1 (f (omega arith)))

      back : (1 ≤ a.demand → ItemOnPath G a.item) → T (ask_lies G a)
      back f = pick a.demand f

  -- Whether a cover exists is decided by a test.
  pub coverable_decided : T (coverable_test G) ↔ Coverable G
  unfolding coverable_test
  coverable_decided =
      let items =
      every_iff (ask_lies G) (λ a. 1 ≤ a.demand → ItemOnPath G a.item) (asks G)
      (all_weaken (λ a. T (linked G.arcs (item_list a.item))) (λ a. T (ask_lies G a) ↔ (1 ≤ a.demand → ItemOnPath G a.item))
      (asks G) ask_lies_lem (asks_linked G)) in
      let reads =
      every_iff (read_lies G) (ReadOnPath G) G.reads
      (all_weaken (λ r. (2 ≤ length r) × T (linked G.arcs r)) (λ r. T (read_lies G r) ↔ ReadOnPath G r) G.reads
      (λ r h. read_lies_lem r (omega (arith, h.0)) h.1) wf.reads_linked) in (
        λ t. record {
          items_lie = items.0 (and_l (every (ask_lies G) (asks G)) (every (read_lies G) G.reads) t);
          reads_lie = reads.0 (and_r (every (ask_lies G) (asks G)) (every (read_lies G) G.reads) t);
        },
        λ c. and_in (every (ask_lies G) (asks G)) (every (read_lies G) G.reads) (items.1 c.items_lie) (reads.1 c.reads_lie),
      )
