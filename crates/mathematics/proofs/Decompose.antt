-- From a flow to weighted paths, the last step of strong duality: loads on the links of a graph that balance, together with one unit for each read, are
-- the sum of weighted paths from starts to ends, no more of them than there are loads and reads, which hold every read.
use Prim.Native.Nat.{ℕ, zero, suc, ◌+◌, ◌*◌, ◌≤◌}
use native.Mathlib.Omega.{arith}
use native.Mathlib.Nat.{one-mul, mul-zero, zero-mul, zero-add}
use mathlib.Core.Path.{◌≡◌, refl, sym, ap, subst, ◌∙◌}
use mathlib.Core.List.{List, [], ◌∷◌, ◌++◌, map}
use mathlib.Core.Bool.{Bool, true, false}
use mathlib.Core.Logic.{inl, inr}
use lib.Dec.{T}
use lib.ListN.{length, length-append, length-map}
use Rattle.mathematics.specs.Lists.{All, some_holds, sum_over}
use Rattle.mathematics.specs.Graph.{Graph, is_path, Rises}
use Rattle.mathematics.specs.Cover.{Item, one_if, through, Weighted, total, total_weight, paths}
use Rattle.mathematics.specs.Bound.{reads_through}
use Rattle.mathematics.specs.Range.{OneOf}
use Rattle.mathematics.specs.Links.{Link, opening, closing, inside, across, reading, in_node, link_from, link_to, passes, opens, path_of, AtEnds}
use Rattle.mathematics.proofs.Basics.{all_from, all_append, all_map, all_weaken, is_true, among_map, among_right}
use Rattle.mathematics.proofs.Merge.{same_path, same_path_equal, same_path_self}
use Rattle.mathematics.proofs.Parts.{held_some}
use Rattle.mathematics.proofs.Loads.{Load, worth, one, worth_append, worth_same}
use Rattle.mathematics.proofs.Sweep.{Rising, Balanced, Split, split}
use Rattle.mathematics.proofs.Links.{reading_within, OfGraph, Used, Leads, IsWhole, whole_walk, link_rises}

-- one unit of a read, of each read
abbrev pub read_load : List ℕ → Load Link
read_load r = record { amount = 1; what = reading r }

abbrev pub read_loads : List (List ℕ) → List (Load Link)
read_loads rs = map read_load rs

-- a walk as a weighted path
abbrev as_weighted : Load (List Link) → Weighted
as_weighted w = record { weight = w.amount; path = path_of w.what }

-- a sum that is not 0 has a part that is not
sum_some : {A : Type 0} (g : A → ℕ) (xs : List A) → 1 ≤ sum_over g xs → (x : A) × OneOf xs x × (1 ≤ g x)
sum_some g [] h = absurd (omega arith)
sum_some {A} g (x ∷ xs) h = go (g x) refl (sum_some g xs)
  where
    go : (n : ℕ) → g x ≡ n → (1 ≤ sum_over g xs → (y : A) × OneOf xs y × (1 ≤ g y)) → (y : A) × OneOf (x ∷ xs) y × (1 ≤ g y)
    go zero e more = let (y, m, k) = more (omega arith) in (y, inr m, k)
    go (suc n) e more = (x, inl refl, omega arith)

pub worth_some : {A : Type 0} (g : A → ℕ) (xs : List (Load A)) → 1 ≤ worth g xs → (x : Load A) × OneOf xs x × (1 ≤ x.amount) × (1 ≤ g x.what)
worth_some g [] h = absurd (omega arith)
worth_some {A} g (x ∷ xs) h = go x.amount (g x.what) refl refl (worth_some g xs)
  where
    Some : List (Load A) → Type 0
    Some ys = (y : Load A) × OneOf ys y × (1 ≤ y.amount) × (1 ≤ g y.what)

    later : worth g (x ∷ xs) ≡ worth g xs → (1 ≤ worth g xs → Some xs) → Some (x ∷ xs)
    later e more = let (y, m, j, k) = more (subst (λ (n : ℕ). 1 ≤ n) e h) in (y, inr m, j, k)

    go : (m n : ℕ) → x.amount ≡ m → g x.what ≡ n → (1 ≤ worth g xs → Some xs) → Some (x ∷ xs)
    go zero n d e more = later (rw (d, zero-mul, zero-add) refl) more
    go (suc m) zero d e more = later (rw (e, mul-zero, zero-add) refl) more
    go (suc m) (suc n) d e more = (x, inl refl, omega arith, omega arith)

one_among : {A : Type 0} (g : A → ℕ) (xs : List (Load A)) (x : Load A) → OneOf xs x → x.amount * g x.what ≤ worth g xs
one_among g [] x m = absurd m
one_among g (y ∷ ys) x (inl e) = rw e (omega arith)
one_among g (y ∷ ys) x (inr m) = let h = one_among g ys x m in omega arith

-- the link is the read r
is_reading : List ℕ → Link → ℕ
is_reading r (opening v) = 0
is_reading r (closing v) = 0
is_reading r (inside v) = 0
is_reading r (across u v) = 0
is_reading r (reading s) = one_if (same_path r s)

is_reading_lem : (r : List ℕ) (l : Link) → 1 ≤ is_reading r l → reading r ≡ l
unfolding is_reading
is_reading_lem r (opening v) h = absurd (omega arith)
is_reading_lem r (closing v) h = absurd (omega arith)
is_reading_lem r (inside v) h = absurd (omega arith)
is_reading_lem r (across u v) h = absurd (omega arith)
is_reading_lem r (reading s) h = ap reading (same_path_equal r s (counted (same_path r s) h))
  where
    counted : (b : Bool) → 1 ≤ one_if b → T b
    counted true k = tt
    counted false k = absurd (omega arith)

reading_is : (r : List ℕ) → is_reading r (reading r) ≡ 1
unfolding is_reading
reading_is r = ap one_if (is_true (same_path r r) (same_path_self r))

worth_reads : (i : Item) (rs : List (List ℕ)) → worth (passes i) (read_loads rs) ≡ reads_through i rs
worth_reads i [] = refl
worth_reads i (r ∷ rs) = rw one-mul (omega (arith, worth_reads i rs))

opens_reads : (rs : List (List ℕ)) → worth opens (read_loads rs) ≡ 0
opens_reads [] = refl
opens_reads (r ∷ rs) = omega (arith, opens_reads rs)

total_worth : (i : Item) (ws : List (Load (List Link))) → total i (map as_weighted ws) ≡ worth (λ ls. through i (path_of ls)) ws
total_worth i [] = refl
total_worth i (w ∷ ws) = ap (λ (n : ℕ). w.amount * through i (path_of w.what) + n) (total_worth i ws)

weight_worth : (ws : List (Load (List Link))) → total_weight (map as_weighted ws) ≡ worth one ws
weight_worth [] = refl
weight_worth (w ∷ ws) = omega (arith, weight_worth ws)

-- as much goes into each side of each vertex as goes out
abbrev pub AllBalanced : {E : Type 0} → Graph E → List (Load Link) → Type 0
AllBalanced G loads = Balanced link_from (link_to (in_node (length G.vertices))) (in_node (length G.vertices)) loads

module _ {E : Type 0} (G : Graph E) (Opens Closes : ℕ → Type 0) where
  -- a load on a link of the graph; of the opening and closing links that carry something more is known
  abbrev pub Sound : Load Link → Type 0
  Sound l = OfGraph G l.what × (1 ≤ l.amount → Used Opens Closes l.what)

  -- Weighted paths that carry the loads and hold the reads.
  pub record Decomposed (loads : List (Load Link)) (rs : List (List ℕ)) : Type 0 where
    pub cover : List Weighted
    pub are_paths : All (λ w. T (is_path G w.path)) cover
    pub weights : All (λ w. 1 ≤ w.weight) cover
    pub at_ends : All (λ w. AtEnds Opens Closes w.path) cover
    pub totals : (i : Item) → total i cover ≡ worth (passes i) loads + reads_through i rs
    pub held : All (λ r. T (some_holds (paths cover) r)) rs
    pub few : length cover ≤ length loads + length rs
    pub copies : total_weight cover ≡ worth opens loads

  module _ (rises : All (Rises (length G.vertices)) G.arcs) (loads : List (Load Link)) (rs : List (List ℕ)) where
    all_sound : All Sound loads → All (λ r. OfGraph G (reading r)) rs → All Sound (loads ++ read_loads rs)
    all_sound s t =
        all_append Sound loads (read_loads rs) s
        (all_map Sound read_load rs
        (all_weaken (λ r. OfGraph G (reading r)) (λ r. OfGraph G (reading r) × (1 ≤ 1 → Unit {0})) rs (λ r h. (h, λ u. tt)) t))

    abbrev Walks : Type 0
    Walks =
        Split link_from (link_to (in_node (length G.vertices))) (λ l. OfGraph G l × Used Opens Closes l) (in_node (length G.vertices)) (loads ++ read_loads rs)

    walks_of : All Sound (loads ++ read_loads rs) → AllBalanced G (loads ++ read_loads rs) → Walks
    walks_of s b =
        split link_from (link_to (in_node (length G.vertices))) (λ l. OfGraph G l × Used Opens Closes l) (in_node (length G.vertices)) (omega arith)
        (loads ++ read_loads rs)
        (all_weaken Sound
        (Rising link_from (link_to (in_node (length G.vertices))) (λ l. OfGraph G l × Used Opens Closes l) (in_node (length G.vertices)))
        (loads ++ read_loads rs)
        (λ l h. let r = link_rises G Opens Closes rises l.what h.0 in (r.0, r.1, λ k. (h.0, h.1 k))) s) b

    -- each read is on one of the walks
    walk_reads : (w : Walks) (r : List ℕ) → OneOf rs r → T (some_holds (paths (map as_weighted w.walks)) r)
    walk_reads w r m =
        let some : 1 ≤ worth (is_reading r) (loads ++ read_loads rs) =
        omega (
          arith,
          reading_is r,
          one_among (is_reading r) (loads ++ read_loads rs) (read_load r) (among_right _ loads (read_loads rs) (among_map read_load r rs m)),
        ) in
        let (x, n, _, k) = worth_some (sum_over (is_reading r)) w.walks (rw (w.same (is_reading r)) some) in
        let (l, o, j) = sum_some (is_reading r) x.what k in
        held_some (paths (map as_weighted w.walks)) r (path_of x.what)
        (among_map (λ (w : Weighted). w.path) (as_weighted x) (map as_weighted w.walks) (among_map as_weighted x w.walks n))
        (reading_within r x.what (subst (OneOf x.what) (sym (is_reading_lem r l j)) o))

    from_walks : (w : Walks) → All (λ x. IsWhole G Opens Closes rises x.what) w.walks → Decomposed loads rs
    from_walks w whole =
        record {
          cover = map as_weighted w.walks;
          are_paths =
              all_map (λ u. T (is_path G u.path)) as_weighted w.walks
              (all_weaken Whole (λ x. T (is_path G (path_of x.what))) w.walks (λ x h. h.is_a_path) whole);
          weights = all_map (λ u. 1 ≤ u.weight) as_weighted w.walks w.amounts;
          at_ends =
              all_map (λ u. AtEnds Opens Closes u.path) as_weighted w.walks
              (all_weaken Whole (λ x. AtEnds Opens Closes (path_of x.what)) w.walks (λ x h. h.at_ends) whole);
          totals = λ i.
              total_worth i w.walks ∙
              (sym (worth_same Whole (sum_over (passes i)) (λ ls. through i (path_of ls)) w.walks whole (λ x h. h.items i)) ∙
              (w.same (passes i) ∙ (worth_append (passes i) loads (read_loads rs) ∙ ap (λ (n : ℕ). worth (passes i) loads + n) (worth_reads i rs))));
          held = all_from _ rs (walk_reads w);
          few = omega (arith, w.few, length-map w.walks as_weighted, length-append loads (read_loads rs), length-map rs read_load);
          copies =
              omega (
                arith,
                weight_worth w.walks,
                worth_same Whole (sum_over opens) one w.walks whole (λ x h. h.opened),
                w.same opens,
                worth_append opens loads (read_loads rs),
                opens_reads rs,
              );
        }
      where
        Whole : Load (List Link) → Type 0
        Whole x = IsWhole G Opens Closes rises x.what

    -- Loads that balance with the reads are the sum of weighted paths that hold the reads.
    pub decompose : All Sound loads → All (λ r. OfGraph G (reading r)) rs → AllBalanced G (loads ++ read_loads rs) → Decomposed loads rs
    decompose s t b =
        let w : Walks = walks_of (all_sound s t) b in
        from_walks w
        (all_weaken (λ x. Leads G Opens Closes 0 x.what) (λ x. IsWhole G Opens Closes rises x.what) w.walks
        (λ x c. whole_walk G Opens Closes rises x.what c) w.lead)
