-- How large the numbers become: a mark that is the opening price or nothing with k arc costs added or taken away lies in a range, for both kinds of
-- price; and at the limits of document 01 the paths, the copies and the marks are within the numbers that its forms hold.
use Prim.Native.Nat.{ℕ, zero, suc, ◌+◌, ◌*◌, ◌≤◌}
use native.Mathlib.Nat.{zero-add, zero-mul, mul-zero, suc-mul}
use native.Mathlib.Omega.{arith}
use mathlib.Core.Path.{◌≡◌, refl, sym, ap, subst, ◌∙◌}
use mathlib.Core.List.{List, [], ◌∷◌, map}
use mathlib.Core.Bool.{Bool, true, false, cond}
use lib.Dec.{T, le→leb}
use lib.ListN.{length, length-append, length-map}
use lib.IntN.{ℤ, pos, neg_ℤ, ◌+ℤ◌}
use lib.Signed.{le_z}
use Rattle.mathematics.specs.Price.{Prices, Le, sub, times, Ordered, whole, Pair, pairs}
use Rattle.mathematics.specs.Lists.{All}
use Rattle.mathematics.specs.Graph.{Vertex, Arc, Graph}
use Rattle.mathematics.specs.Cover.{one_if, Ask, vertex_asks, arc_ask, asks}
use Rattle.mathematics.specs.Range.{start_count, end_count, sum_of_demands, path_limit, weight_limit, Step, OneOf, climb, MarkWithin}
use Rattle.mathematics.proofs.Basics.{all_among, all_map, all_weaken}
use Rattle.mathematics.proofs.Algebra
use Rattle.mathematics.proofs.PriceKinds.{whole_ordered}

-- each cost of the steps is one of the list, so what holds of those holds of the steps
steps_all : {E : Type 0} (Q : E → Type 0) (costs : List E) (steps : List (Step E)) → All Q costs → All (λ s. OneOf costs s.cost) steps →
    All (λ s. Q s.cost) steps
steps_all Q costs steps h k = all_weaken _ _ steps (λ s m. all_among Q costs s.cost h m) k

module _ (P : Prices) (L : Ordered P) (c : P.El) where
  neg_below : (a : P.El) → Le P P.nil a → Le P (P.neg a) P.nil
  neg_below a h = subst (Le P (P.neg a)) (Algebra.neg_nil P L) (Algebra.le_neg P L P.nil a h)

  -- one cost s of at most c added to or taken from x
  one_step : (b : Bool) (x s : P.El) → Le P P.nil s → Le P s c →
      Le P (sub P x c) (cond b (P.add x s) (sub P x s)) × Le P (cond b (P.add x s) (sub P x s)) (P.add x c)
  one_step true x s h k =
      let n = neg_below c (L.le_trans P.nil s c h k) in
      (Algebra.le_add_left P L (P.neg c) s x (L.le_trans (P.neg c) P.nil s n h), Algebra.le_add_left P L s c x k)
  one_step false x s h k =
      let n = L.le_trans P.nil s c h k in (
        Algebra.le_add_left P L (P.neg c) (P.neg s) x (Algebra.le_neg P L s c k),
        Algebra.le_add_left P L (P.neg s) c x (L.le_trans (P.neg s) P.nil c (neg_below s h) n),
      )

  -- y is x with at most k times c added or taken away
  abbrev Within : ℕ → P.El → P.El → Type 0
  Within k x y = Le P (sub P x (times P k c)) y × Le P y (P.add x (times P k c))

  within_step : (k : ℕ) (x y z : P.El) → Le P (sub P x c) y × Le P y (P.add x c) → Within k y z → Within (suc k) x z
  within_step k x y z h w = (
    L.le_trans (sub P x (times P (suc k) c)) (sub P y (times P k c)) z
        (subst (λ u. Le P u (sub P y (times P k c))) lower (L.le_add (sub P x c) y (P.neg (times P k c)) h.0)) w.0,
    L.le_trans z (P.add y (times P k c)) (P.add x (times P (suc k) c)) w.1
        (subst (Le P (P.add y (times P k c))) (L.add_assoc x c (times P k c)) (L.le_add y (P.add x c) (times P k c) h.1)),
  )
    where
      lower : sub P (sub P x c) (times P k c) ≡ sub P x (times P (suc k) c)
      lower = L.add_assoc x (P.neg c) (P.neg (times P k c)) ∙ ap (P.add x) (sym (Algebra.neg_add P L c (times P k c)))

  climb_within : (x : P.El) (steps : List (Step P.El)) → All (λ s. Le P P.nil s.cost × Le P s.cost c) steps →
      Within (length steps) x (climb P x steps)
  climb_within x [] h =
      (Algebra.le_of_eq P L (sub P x P.nil) x (Algebra.sub_nil P L x), Algebra.le_of_eq P L x (P.add x P.nil) (sym (L.add_nil x)))
  climb_within x (s ∷ steps) h =
      let y = cond s.up (P.add x s.cost) (sub P x s.cost) in
      within_step (length steps) x y (climb P y steps) (one_step s.up x s.cost h.0.0 h.0.1) (climb_within y steps h.1)

  within_more : (j k : ℕ) (x y : P.El) → Le P P.nil c → j ≤ k → Within j x y → Within k x y
  within_more j k x y n l w =
      let m = Algebra.times_mono P L j k c l n in (
        L.le_trans (sub P x (times P k c)) (sub P x (times P j c)) y
            (Algebra.le_add_left P L (P.neg (times P k c)) (P.neg (times P j c)) x (Algebra.le_neg P L (times P j c) (times P k c) m)) w.0,
        L.le_trans y (P.add x (times P j c)) (P.add x (times P k c)) w.1 (Algebra.le_add_left P L (times P j c) (times P k c) x m),
      )

times_pos : (k n : ℕ) → times whole k (pos n) ≡ pos (k * n)
times_pos zero n = ap pos (sym (zero-mul n))
times_pos (suc k) n =
    let e : n + k * n ≡ suc k * n = omega (arith, suc-mul k n) in
    ap (λ x. pos n +ℤ x) (times_pos k n) ∙ ap pos e

pos_le : (a b : ℕ) → a ≤ b → T (le_z (pos a) (pos b))
pos_le a b h = le→leb a b h

-- costs of 0 to C, added or taken away k times at most, from the number s
whole_within : (C k : ℕ) (s : ℕ) (steps : List (Step ℤ)) → length steps ≤ k → All (λ d. (c : ℕ) × (c ≤ C) × (d.cost ≡ pos c)) steps →
    T (le_z (neg_ℤ (pos (k * C))) (climb whole (pos s) steps)) × T (le_z (climb whole (pos s) steps) (pos (s + k * C)))
whole_within C k s steps few h =
    let w =
    within_more whole whole_ordered (pos C) (length steps) k (pos s) (climb whole (pos s) steps) (pos_le 0 C (omega arith)) few
    (climb_within whole whole_ordered (pos C) (pos s) steps (all_weaken _ _ steps costs h)) in (
      whole_ordered.le_trans (neg_ℤ (pos (k * C))) (pos s +ℤ neg_ℤ (pos (k * C))) (climb whole (pos s) steps) low
          (subst (λ x. T (le_z (pos s +ℤ neg_ℤ x) (climb whole (pos s) steps))) (times_pos k C) w.0),
      subst (λ x. T (le_z (climb whole (pos s) steps) (pos s +ℤ x))) (times_pos k C) w.1,
    )
  where
    low : T (le_z (neg_ℤ (pos (k * C))) (pos s +ℤ neg_ℤ (pos (k * C))))
    low =
        subst (λ x. T (le_z x (pos s +ℤ neg_ℤ (pos (k * C))))) (Algebra.nil_add whole whole_ordered (neg_ℤ (pos (k * C))))
        (whole_ordered.le_add (pos 0) (pos s) (neg_ℤ (pos (k * C))) (pos_le 0 s (omega arith)))

    costs : (d : Step ℤ) → (c : ℕ) × (c ≤ C) × (d.cost ≡ pos c) → T (le_z (pos 0) d.cost) × T (le_z d.cost (pos C))
    costs d q =
        (subst (λ x. T (le_z (pos 0) x)) (sym q.2) (pos_le 0 q.0 (omega arith)), subst (λ x. T (le_z x (pos C))) (sym q.2) (pos_le q.0 C q.1))

opened_number : (b : Bool) (o : ℕ) → (s : ℕ) × (s ≤ o) × (cond b (pos o) (pos 0) ≡ pos s)
opened_number true o = (o, omega arith, refl)
opened_number false o = (0, omega arith, refl)

-- plain numbers: a mark lies between -(k·C) and the opening price plus k·C, where no cost is above C
pub whole_mark_limits : (G : Graph ℤ) (o C k : ℕ) (x : ℤ) → G.opening ≡ pos o → All (λ a. (c : ℕ) × (c ≤ C) × (a.cost ≡ pos c)) G.arcs →
    MarkWithin whole G k x → T (le_z (neg_ℤ (pos (k * C))) x) × T (le_z x (pos (o + k * C)))
whole_mark_limits G o C k x opens costs m =
    let (s, l, e) = opened_number m.opened o in
    let reached : x ≡ climb whole (pos s) m.steps = m.reaches ∙ ap (λ y. climb whole y m.steps) (ap (λ y. cond m.opened y (pos 0)) opens ∙ e) in
    let w =
    whole_within C k s m.steps m.few
    (steps_all (λ d. (c : ℕ) × (c ≤ C) × (d ≡ pos c)) (map (λ (a : Arc ℤ). a.cost) G.arcs) m.steps
    (all_map _ (λ (a : Arc ℤ). a.cost) G.arcs costs) m.of_arcs) in
    subst (λ y. T (le_z (neg_ℤ (pos (k * C))) y) × T (le_z y (pos (o + k * C)))) (sym reached)
    (w.0, whole_ordered.le_trans (climb whole (pos s) m.steps) (pos (s + k * C)) (pos (o + k * C)) w.1 (pos_le (s + k * C) (o + k * C) (omega arith)))

-- one part of a pair, as a plain number: sums and opposites are kept
record Part : Type 0 where
  part : Pair → ℤ
  part_add : (a b : Pair) → part (pairs.add a b) ≡ part a +ℤ part b
  part_sub : (a b : Pair) → part (sub pairs a b) ≡ part a +ℤ neg_ℤ (part b)

first_part : Part
first_part = record { part = λ a. a.first; part_add = λ a b. refl; part_sub = λ a b. refl }

second_part : Part
second_part = record { part = λ a. a.second; part_add = λ a b. refl; part_sub = λ a b. refl }

abbrev part_steps : Part → List (Step Pair) → List (Step ℤ)
part_steps q steps = map (λ (s : Step Pair). record { up = s.up; cost = q.part s.cost }) steps

part_step : (q : Part) (b : Bool) (x c : Pair) →
    q.part (cond b (pairs.add x c) (sub pairs x c)) ≡ cond b (q.part x +ℤ q.part c) (q.part x +ℤ neg_ℤ (q.part c))
part_step q true x c = q.part_add x c
part_step q false x c = q.part_sub x c

climb_part : (q : Part) (x : Pair) (steps : List (Step Pair)) → q.part (climb pairs x steps) ≡ climb whole (q.part x) (part_steps q steps)
climb_part q x [] = refl
climb_part q x (s ∷ steps) =
    climb_part q (cond s.up (pairs.add x s.cost) (sub pairs x s.cost)) steps ∙
    ap (λ y. climb whole y (part_steps q steps)) (part_step q s.up x s.cost)

-- k costs of 0 to C for that part, from the number s
part_within : (q : Part) (C k s : ℕ) (x : Pair) (steps : List (Step Pair)) → q.part x ≡ pos s → length steps ≤ k →
    All (λ d. (c : ℕ) × (c ≤ C) × (q.part d.cost ≡ pos c)) steps →
    T (le_z (neg_ℤ (pos (k * C))) (q.part (climb pairs x steps))) × T (le_z (q.part (climb pairs x steps)) (pos (s + k * C)))
part_within q C k s x steps e few h =
    subst (λ y. T (le_z (neg_ℤ (pos (k * C))) y) × T (le_z y (pos (s + k * C))))
    (sym (climb_part q x steps ∙ ap (λ y. climb whole y (part_steps q steps)) e))
    (whole_within C k s (part_steps q steps) (subst (λ n. n ≤ k) (sym (length-map steps _)) few)
    (all_map _ (λ (d : Step Pair). record { up = d.up; cost = q.part d.cost }) steps h))

opened_first : (b : Bool) → (s : ℕ) × (s ≤ 1) × ((cond b (record { first = pos 1; second = pos 0 }) pairs.nil).first ≡ pos s)
opened_first true = (1, omega arith, refl)
opened_first false = (0, omega arith, refl)

opened_second : (b : Bool) → (cond b (record { first = pos 1; second = pos 0 }) pairs.nil).second ≡ pos 0
opened_second true = refl
opened_second false = refl

-- pairs: a copy costs (1, 0) and an arc (0, c). A mark's first part is 0 to 1 and its second part -(k·C) to k·C, where no c is above C
pub pair_mark_limits : (G : Graph Pair) (C k : ℕ) (x : Pair) → G.opening ≡ record { first = pos 1; second = pos 0 } →
    All (λ a. (c : ℕ) × (c ≤ C) × (a.cost ≡ record { first = pos 0; second = pos c })) G.arcs → MarkWithin pairs G k x →
    (T (le_z (pos 0) x.first) × T (le_z x.first (pos 1))) × (T (le_z (neg_ℤ (pos (k * C))) x.second) × T (le_z x.second (pos (k * C))))
unfolding first_part second_part
pair_mark_limits G C k x opens costs m =
    let start : Pair = cond m.opened (record { first = pos 1; second = pos 0 }) pairs.nil in
    let reached : x ≡ climb pairs start m.steps = m.reaches ∙ ap (λ y. climb pairs (cond m.opened y pairs.nil) m.steps) opens in
    let each =
    steps_all (λ d. (c : ℕ) × (c ≤ C) × (d ≡ record { first = pos 0; second = pos c })) (map (λ (a : Arc Pair). a.cost) G.arcs) m.steps
    (all_map _ (λ (a : Arc Pair). a.cost) G.arcs costs) m.of_arcs in
    let (s, l, e) = opened_first m.opened in
    let one = part_within first_part 0 k s start m.steps e m.few (all_weaken _ _ m.steps firsts each) in
    let two = part_within second_part C k 0 start m.steps (opened_second m.opened) m.few (all_weaken _ _ m.steps seconds each) in
    subst (λ y. (T (le_z (pos 0) y.first) × T (le_z y.first (pos 1))) × (T (le_z (neg_ℤ (pos (k * C))) y.second) × T (le_z y.second (pos (k * C)))))
    (sym reached) (
      (
        subst (λ n. T (le_z (neg_ℤ (pos n)) (climb pairs start m.steps).first)) (mul-zero k) one.0,
        whole_ordered.le_trans (climb pairs start m.steps).first (pos (s + k * 0)) (pos 1) one.1 (pos_le (s + k * 0) 1 (omega (arith, mul-zero k))),
      ),
      (two.0, subst (λ n. T (le_z (climb pairs start m.steps).second (pos n))) (zero-add (k * C)) two.1),
    )
  where
    firsts : (d : Step Pair) → (c : ℕ) × (c ≤ C) × (d.cost ≡ record { first = pos 0; second = pos c }) → (c : ℕ) × (c ≤ 0) × (d.cost.first ≡ pos c)
    firsts d q = (0, omega arith, ap (λ (y : Pair). y.first) q.2)

    seconds : (d : Step Pair) → (c : ℕ) × (c ≤ C) × (d.cost ≡ record { first = pos 0; second = pos c }) → (c : ℕ) × (c ≤ C) × (d.cost.second ≡ pos c)
    seconds d q = (q.0, q.1, ap (λ (y : Pair). y.second) q.2)

-- the numbers of documents 01 and 02, over any limits N, A, R and D of vertices, arcs, reads and demands

few_flags : (b : Bool) → one_if b ≤ 1
few_flags true = omega arith
few_flags false = omega arith

few_starts : (xs : List Vertex) → start_count xs ≤ length xs
few_starts [] = omega arith
few_starts (x ∷ xs) = let h = few_starts xs in let b = few_flags x.start in omega arith

few_ends : (xs : List Vertex) → end_count xs ≤ length xs
few_ends [] = omega arith
few_ends (x ∷ xs) = let h = few_ends xs in let b = few_flags x.end in omega arith

-- "paths 0..464 (64+256+64+64+16)": at 64, 256, 16 the right side computes to 464, at 256, 1024, 64 to 1,856
pub path_limit_within : {E : Type 0} (G : Graph E) (N A R : ℕ) → length G.vertices ≤ N → length G.arcs ≤ A → length G.reads ≤ R →
    path_limit G ≤ 3 * N + A + R
path_limit_within G N A R n a r = let s = few_starts G.vertices in let e = few_ends G.vertices in omega arith

demands_within : (D n : ℕ) (more : List Ask) → length more ≤ n → All (λ a. a.demand ≤ D) more → sum_of_demands more ≤ n * D
demands_within D n [] l h = omega arith
demands_within D zero (a ∷ more) l h = absurd (omega arith)
demands_within D (suc n) (a ∷ more) l h =
    let k : a.demand ≤ D = h.0 in
    let t = demands_within D n more (omega arith) h.1 in
    omega (arith, suc-mul n D)

vertex_asks_length : (k : ℕ) (xs : List Vertex) → length (vertex_asks k xs) ≡ length xs
vertex_asks_length k [] = refl
vertex_asks_length k (x ∷ xs) = ap suc (vertex_asks_length (suc k) xs)

asks_length : {E : Type 0} (G : Graph E) → length (asks G) ≡ length G.vertices + length G.arcs
asks_length G =
    length-append (vertex_asks 0 G.vertices) (map arc_ask G.arcs) ∙
    (λ i. vertex_asks_length 0 G.vertices i + length-map G.arcs arc_ask i)

-- "weights totalling at most 320,000,016": at 64, 256, 16 and 1,000,000 the right side computes to that, at 256, 1024, 64 and 1,000,000 to 1,280,000,064
pub weight_limit_within : {E : Type 0} (G : Graph E) (N A R D : ℕ) → length G.vertices ≤ N → length G.arcs ≤ A → length G.reads ≤ R →
    All (λ a. a.demand ≤ D) (asks G) → weight_limit G ≤ (N + A) * D + R
weight_limit_within G N A R D n a r d =
    let e = asks_length G in
    let s = demands_within D (N + A) (asks G) (omega arith) d in
    omega arith

-- a number between -j and k lies within 2,000,000,000 of 0 where j and k do
fits : (j k : ℕ) (x : ℤ) → j ≤ 2000000000 → k ≤ 2000000000 → T (le_z (neg_ℤ (pos j)) x) → T (le_z x (pos k)) →
    T (le_z (neg_ℤ (pos 2000000000)) x) × T (le_z x (pos 2000000000))
fits j k x hj hk low high = (
  whole_ordered.le_trans (neg_ℤ (pos 2000000000)) (neg_ℤ (pos j)) x (Algebra.le_neg whole whole_ordered (pos j) (pos 2000000000) (pos_le j 2000000000 hj)) low,
  whole_ordered.le_trans x (pos k) (pos 2000000000) high (pos_le k 2000000000 hk),
)

-- "marks -2,000,000,000..2,000,000,000": opening price at most 1,000,000,000, costs at most 1,000,000, at most 256 vertices
pub whole_marks_fit : (G : Graph ℤ) (o : ℕ) (x : ℤ) → length G.vertices ≤ 256 → o ≤ 1000000000 → G.opening ≡ pos o →
    All (λ a. (c : ℕ) × (c ≤ 1000000) × (a.cost ≡ pos c)) G.arcs → MarkWithin whole G (2 * length G.vertices) x →
    T (le_z (neg_ℤ (pos 2000000000)) x) × T (le_z x (pos 2000000000))
whole_marks_fit G o x n l opens costs m =
    let k = 2 * length G.vertices in
    let w = whole_mark_limits G o 1000000 k x opens costs m in
    fits (k * 1000000) (o + k * 1000000) x (omega arith) (omega arith) w.0 w.1

-- both parts of a pair's mark
pub pair_marks_fit : (G : Graph Pair) (x : Pair) → length G.vertices ≤ 256 → G.opening ≡ record { first = pos 1; second = pos 0 } →
    All (λ a. (c : ℕ) × (c ≤ 1000000) × (a.cost ≡ record { first = pos 0; second = pos c })) G.arcs → MarkWithin pairs G (2 * length G.vertices) x →
    (T (le_z (neg_ℤ (pos 2000000000)) x.first) × T (le_z x.first (pos 2000000000))) ×
    (T (le_z (neg_ℤ (pos 2000000000)) x.second) × T (le_z x.second (pos 2000000000)))
pair_marks_fit G x n opens costs m =
    let k = 2 * length G.vertices in
    let w = pair_mark_limits G 1000000 k x opens costs m in (
      fits 0 1 x.first (omega arith) (omega arith) w.0.0 w.0.1,
      fits (k * 1000000) (k * 1000000) x.second (omega arith) (omega arith) w.1.0 w.1.1,
    )

-- document 01's two numbers
pub path_limit_464 : {E : Type 0} (G : Graph E) → length G.vertices ≤ 64 → length G.arcs ≤ 256 → length G.reads ≤ 16 → path_limit G ≤ 464
path_limit_464 G n a r = path_limit_within G 64 256 16 n a r

pub weight_limit_320000016 : {E : Type 0} (G : Graph E) → length G.vertices ≤ 64 → length G.arcs ≤ 256 → length G.reads ≤ 16 →
    All (λ a. a.demand ≤ 1000000) (asks G) → weight_limit G ≤ 320000016
weight_limit_320000016 G n a r d = weight_limit_within G 64 256 16 1000000 n a r d
