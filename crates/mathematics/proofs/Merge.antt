-- Merging: from any list of weighted paths, zero weights and equal paths allowed, one whose paths are distinct and whose weights are at least 1,
-- with the same total for every item. It is what turns a list of copies back into "a set of distinct weighted paths".
use Prim.Native.Nat.{ℕ, zero, suc, ◌+◌, ◌*◌, ◌≤◌}
use native.Mathlib.Omega.{arith}
use native.Mathlib.Nat.{add-mul, zero-mul}
use mathlib.Core.Path.{◌≡◌, refl, sym, ap, ap₂, subst}
use mathlib.Core.List.{List, [], ◌∷◌}
use mathlib.Core.Bool.{Bool, true, false, cond, ◌&&◌}
use mathlib.Core.Logic.{inl, inr, ◌≢◌}
use lib.Dec.{T, eqb, eqb→eq, eqb_refl}
use lib.ListN.{length}
use Rattle.mathematics.specs.Lists.{All, Distinct, holds, some_holds}
use Rattle.mathematics.specs.Range.{OneOf}
use Rattle.mathematics.specs.Cover.{Item, Weighted, through, total, total_weight, paths}
use Rattle.mathematics.proofs.Basics.{and_l, and_r, and_in, or_l, or_r, all_map, all_unmap}

-- the two lists of numbers are equal
abbrev pub same_path : List ℕ → List ℕ → Bool
same_path [] [] = true
same_path [] (y ∷ q) = false
same_path (x ∷ p) [] = false
same_path (x ∷ p) (y ∷ q) = eqb x y && same_path p q

pub same_path_equal : (p q : List ℕ) → T (same_path p q) → p ≡ q
same_path_equal [] [] h = refl
same_path_equal [] (y ∷ q) h = absurd h
same_path_equal (x ∷ p) [] h = absurd h
same_path_equal (x ∷ p) (y ∷ q) h =
    ap₂ ◌∷◌ (eqb→eq x y (and_l (eqb x y) (same_path p q) h)) (same_path_equal p q (and_r (eqb x y) (same_path p q) h))

pub same_path_self : (p : List ℕ) → T (same_path p p)
same_path_self [] = tt
same_path_self (x ∷ p) = and_in (eqb x x) (same_path p p) (eqb_refl x) (same_path_self p)

-- k more copies of p
abbrev add : ℕ → List ℕ → List Weighted → List Weighted
add k p [] = record { weight = k; path = p } ∷ []
add k p (u ∷ U) = cond (same_path p u.path) (record { weight = k + u.weight; path = u.path } ∷ U) (u ∷ add k p U)

-- the same, and nothing where there are none
abbrev keep : ℕ → List ℕ → List Weighted → List Weighted
keep zero p U = U
keep (suc k) p U = add (suc k) p U

-- Equal paths' weights are added, and zero weights are dropped.
unfoldable pub merge : List Weighted → List Weighted
merge [] = []
merge (w ∷ W) = keep w.weight w.path (merge W)

-- ---- totals

add_total : (i : Item) (k : ℕ) (p : List ℕ) (U : List Weighted) → total i (add k p U) ≡ k * through i p + total i U
add_total i k p [] = refl
add_total i k p (u ∷ U) = pick (same_path p u.path) (same_path_equal p u.path) (add_total i k p U)
  where
    pick : (b : Bool) → (T b → p ≡ u.path) → total i (add k p U) ≡ k * through i p + total i U →
        total i (cond b (record { weight = k + u.weight; path = u.path } ∷ U) (u ∷ add k p U)) ≡
        k * through i p + (u.weight * through i u.path + total i U)
    pick true same ih =
        rw (same tt) (rw (add-mul k u.weight (through i u.path)) (omega arith))
    pick false same ih = rw ih (omega arith)

keep_total : (i : Item) (k : ℕ) (p : List ℕ) (U : List Weighted) → total i (keep k p U) ≡ k * through i p + total i U
keep_total i zero p U = rw zero-mul (omega arith)
keep_total i (suc k) p U = add_total i (suc k) p U

-- Merging keeps the total of every item,
pub merge_total : (i : Item) (W : List Weighted) → total i (merge W) ≡ total i W
unfolding merge
merge_total i [] = refl
merge_total i (w ∷ W) =
    rw (keep_total i w.weight w.path (merge W)) (ap (λ t. w.weight * through i w.path + t) (merge_total i W))

add_weight : (k : ℕ) (p : List ℕ) (U : List Weighted) → total_weight (add k p U) ≡ k + total_weight U
add_weight k p [] = refl
add_weight k p (u ∷ U) = pick (same_path p u.path) (add_weight k p U)
  where
    pick : (b : Bool) → total_weight (add k p U) ≡ k + total_weight U →
        total_weight (cond b (record { weight = k + u.weight; path = u.path } ∷ U) (u ∷ add k p U)) ≡ k + (u.weight + total_weight U)
    pick true ih = omega arith
    pick false ih = omega arith

keep_weight : (k : ℕ) (p : List ℕ) (U : List Weighted) → total_weight (keep k p U) ≡ k + total_weight U
keep_weight zero p U = omega arith
keep_weight (suc k) p U = add_weight (suc k) p U

-- and the number of copies,
pub merge_weight : (W : List Weighted) → total_weight (merge W) ≡ total_weight W
unfolding merge
merge_weight [] = refl
merge_weight (w ∷ W) = rw (keep_weight w.weight w.path (merge W)) (ap (λ t. w.weight + t) (merge_weight W))

add_length : (k : ℕ) (p : List ℕ) (U : List Weighted) → length (add k p U) ≤ suc (length U)
add_length k p [] = omega arith
add_length k p (u ∷ U) = pick (same_path p u.path) (add_length k p U)
  where
    pick : (b : Bool) → length (add k p U) ≤ suc (length U) →
        length (cond b (record { weight = k + u.weight; path = u.path } ∷ U) (u ∷ add k p U)) ≤ suc (suc (length U))
    pick true ih = omega arith
    pick false ih = omega arith

keep_length : (k : ℕ) (p : List ℕ) (U : List Weighted) → length (keep k p U) ≤ suc (length U)
keep_length zero p U = omega arith
keep_length (suc k) p U = add_length (suc k) p U

-- it makes no list longer,
pub merge_length : (W : List Weighted) → length (merge W) ≤ length W
unfolding merge
merge_length [] = omega arith
merge_length (w ∷ W) = omega (arith, keep_length w.weight w.path (merge W), merge_length W)

-- ---- the paths

-- a statement of weight and path that more copies do not spoil
add_all : (Q : Weighted → Type 0) (more : (k j : ℕ) (p : List ℕ) → Q (record { weight = j; path = p }) → Q (record { weight = k + j; path = p }))
    (k : ℕ) (p : List ℕ) (U : List Weighted) → Q (record { weight = k; path = p }) → All Q U → All Q (add k p U)
add_all Q more k p [] q h = (q, tt)
add_all Q more k p (u ∷ U) q h = pick (same_path p u.path) (add_all Q more k p U q h.1)
  where
    pick : (b : Bool) → All Q (add k p U) → All Q (cond b (record { weight = k + u.weight; path = u.path } ∷ U) (u ∷ add k p U))
    pick true ih = (more k u.weight u.path h.0, h.1)
    pick false ih = (h.0, ih)

keep_all : (Q : Weighted → Type 0) (more : (k j : ℕ) (p : List ℕ) → Q (record { weight = j; path = p }) → Q (record { weight = k + j; path = p }))
    (k : ℕ) (p : List ℕ) (U : List Weighted) → (1 ≤ k → Q (record { weight = k; path = p })) → All Q U → All Q (keep k p U)
keep_all Q more zero p U q h = h
keep_all Q more (suc k) p U q h = add_all Q more (suc k) p U (q (omega arith)) h

-- its weights are at least 1,
pub merge_weights : (W : List Weighted) → All (λ w. 1 ≤ w.weight) (merge W)
unfolding merge
merge_weights [] = tt
merge_weights (w ∷ W) =
    keep_all (λ u. 1 ≤ u.weight) (λ k j p h. omega arith) w.weight w.path (merge W) (λ h. h) (merge_weights W)

-- what holds of each path that has a copy holds of each path of it,
pub merge_all : (Q : List ℕ → Type 0) (W : List Weighted) → All (λ w. 1 ≤ w.weight → Q w.path) W → All (λ w. Q w.path) (merge W)
unfolding merge
merge_all Q [] h = tt
merge_all Q (w ∷ W) h =
    keep_all (λ u. Q u.path) (λ k j p q. q) w.weight w.path (merge W) h.0 (merge_all Q W h.1)

add_distinct : (k : ℕ) (p : List ℕ) (U : List Weighted) → Distinct (paths U) → Distinct (paths (add k p U))
add_distinct k p [] h = (tt, tt)
add_distinct k p (u ∷ U) h = pick (same_path p u.path) differ (add_distinct k p U h.1)
  where
    differ : u.path ≡ p → T (same_path p u.path)
    differ e = subst (λ q. T (same_path p q)) (sym e) (same_path_self p)

    pick : (b : Bool) → (u.path ≡ p → T b) → Distinct (paths (add k p U)) →
        Distinct (paths (cond b (record { weight = k + u.weight; path = u.path } ∷ U) (u ∷ add k p U)))
    pick true same ih = h
    pick false same ih = (
      all_map (λ q. u.path ≢ q) (λ (w : Weighted). w.path) (add k p U)
          (add_all (λ w. u.path ≢ w.path) (λ a b q n. n) k p U same (all_unmap (λ q. u.path ≢ q) (λ (w : Weighted). w.path) U h.0)),
      ih,
    )

keep_distinct : (k : ℕ) (p : List ℕ) (U : List Weighted) → Distinct (paths U) → Distinct (paths (keep k p U))
keep_distinct zero p U h = h
keep_distinct (suc k) p U h = add_distinct (suc k) p U h

-- its paths are distinct,
pub merge_distinct : (W : List Weighted) → Distinct (paths (merge W))
unfolding merge
merge_distinct [] = tt
merge_distinct (w ∷ W) = keep_distinct w.weight w.path (merge W) (merge_distinct W)

add_has : (k : ℕ) (p : List ℕ) (U : List Weighted) → OneOf (paths (add k p U)) p
add_has k p [] = inl refl
add_has k p (u ∷ U) = pick (same_path p u.path) (same_path_equal p u.path) (add_has k p U)
  where
    pick : (b : Bool) → (T b → p ≡ u.path) → OneOf (paths (add k p U)) p →
        OneOf (paths (cond b (record { weight = k + u.weight; path = u.path } ∷ U) (u ∷ add k p U))) p
    pick true same ih = inl (same tt)
    pick false same ih = inr ih

add_keeps : (k : ℕ) (p q : List ℕ) (U : List Weighted) → OneOf (paths U) q → OneOf (paths (add k p U)) q
add_keeps k p q [] m = absurd m
add_keeps k p q (u ∷ U) m = pick (same_path p u.path) m (add_keeps k p q U)
  where
    pick : (b : Bool) → OneOf (paths (u ∷ U)) q → (OneOf (paths U) q → OneOf (paths (add k p U)) q) →
        OneOf (paths (cond b (record { weight = k + u.weight; path = u.path } ∷ U) (u ∷ add k p U))) q
    pick true m ih = m
    pick false (inl e) ih = inl e
    pick false (inr m) ih = inr (ih m)

keep_has : (k : ℕ) (p : List ℕ) (U : List Weighted) → 1 ≤ k → OneOf (paths (keep k p U)) p
keep_has zero p U h = absurd (omega arith)
keep_has (suc k) p U h = add_has (suc k) p U

keep_keeps : (k : ℕ) (p q : List ℕ) (U : List Weighted) → OneOf (paths U) q → OneOf (paths (keep k p U)) q
keep_keeps zero p q U m = m
keep_keeps (suc k) p q U m = add_keeps (suc k) p q U m

-- and each path that has a copy is one of them;
pub merge_has : (w : Weighted) (W : List Weighted) → OneOf W w → 1 ≤ w.weight → OneOf (paths (merge W)) w.path
unfolding merge
merge_has w [] m h = absurd m
merge_has w (x ∷ W) (inl e) h =
    subst (λ (y : Weighted). OneOf (paths (keep x.weight x.path (merge W))) y.path) (sym e)
    (keep_has x.weight x.path (merge W) (subst (λ (y : Weighted). 1 ≤ y.weight) e h))
merge_has w (x ∷ W) (inr m) h = keep_keeps x.weight x.path w.path (merge W) (merge_has w W m h)

-- one of the lists holds r if a given one of them does
pub some_holds_lem : (p : List ℕ) (ps : List (List ℕ)) (r : List ℕ) → OneOf ps p → T (holds p r) → T (some_holds ps r)
some_holds_lem p [] r m h = absurd m
some_holds_lem p (q ∷ ps) r (inl e) h = or_l (holds q r) (some_holds ps r) (subst (λ x. T (holds x r)) e h)
some_holds_lem p (q ∷ ps) r (inr m) h = or_r (holds q r) (some_holds ps r) (some_holds_lem p ps r m h)

-- so a read that a path with a copy holds is still held.
pub merge_holds : (r : List ℕ) (w : Weighted) (W : List Weighted) → OneOf W w → 1 ≤ w.weight → T (holds w.path r) →
    T (some_holds (paths (merge W)) r)
merge_holds r w W m h held = some_holds_lem w.path (paths (merge W)) r (merge_has w W m h) held
