-- #112, evaluated: in D, at two paths and more, 0 1 3 and 0 2 3 are safe, and at two they are maximal; and a stretch that some cover avoids is not safe.
use Prim.Native.Nat.{ℕ, zero, suc, ◌≤◌, ◌<◌}
use native.Mathlib.Omega.{arith}
use mathlib.Core.Path.{◌≡◌, refl, sym, ap, subst, ◌∙◌}
use mathlib.Core.List.{List, [], ◌∷◌, ◌++◌}
use mathlib.Core.Bool.{true, false}
use mathlib.Core.Logic.{◌⊎◌, inl, inr}
use lib.Dec.{T}
use lib.ListN.{length, length-append}
use lib.IntN.{ℤ, pos}
use Rattle.mathematics.specs.Lists.{holds, some_holds}
use Rattle.mathematics.specs.Graph.{Arc, Graph, is_start, is_end, is_path}
use Rattle.mathematics.specs.Range.{OneOf}
use Rattle.mathematics.specs.Safe.{PathCover, Safe, MaximalSafe}
use Rattle.mathematics.specs.Barred.{turned}
use Rattle.mathematics.proofs.Basics.{all_among}
use Rattle.mathematics.proofs.Merge.{some_holds_lem}
use Rattle.mathematics.proofs.Parts.{within_holds, some_held}
use Rattle.mathematics.proofs.Reach.{joining_arc}
use Rattle.mathematics.proofs.Avoid.{turned_split, holds_one, find, holder, Arrives, Leaves, path_cut}
use Rattle.mathematics.proofs.Examples.{vertex, edge, D}

-- ---- D: each of the vertices 1 and 2 is entered from 0 alone and left to 3 alone

module _ (v : ℕ) (inner : v < 4) (no_start : T (is_start D v) → ⊥) (no_end : T (is_end D v) → ⊥)
    (into : (a : Arc ℤ) → OneOf D.arcs a → a.head ≡ v → a.tail ≡ 0) (out : (a : Arc ℤ) → OneOf D.arcs a → a.tail ≡ v → a.head ≡ 3) where
  -- a path through v runs 0 v 3
  runs : (a b : List ℕ) → Arrives D a v → Leaves D v b → T (holds (turned a (v ∷ b)) (0 ∷ v ∷ 3 ∷ []))
  runs [] b s l = absurd (no_start s)
  runs (u ∷ a) [] s l = absurd (no_end l)
  runs (u ∷ a) (w ∷ b) s l =
      let (x, m, t, h) = joining_arc D.arcs u v s.0 in
      let (y, n, q, k) = joining_arc D.arcs v w l.0 in
      let from : u ≡ 0 = sym t ∙ into x m h in
      let to : w ≡ 3 = sym k ∙ out y n q in
      within_holds (turned a (u ∷ v ∷ w ∷ b)) (0 ∷ v ∷ 3 ∷ []) (
        turned a [],
        b,
        turned_split a (u ∷ v ∷ w ∷ b) ∙
            (ap (λ (x : ℕ). turned a [] ++ (x ∷ v ∷ w ∷ b)) from ∙ ap (λ (x : ℕ). turned a [] ++ (0 ∷ v ∷ x ∷ b)) to),
      )

  through_safe : (most : ℕ) → Safe D most (0 ∷ v ∷ 3 ∷ [])
  through_safe most Q c =
      let (q, m, h) = holder Q (v ∷ []) (c.touched v inner) in
      some_holds_lem q Q (0 ∷ v ∷ 3 ∷ []) m (at q (all_among (λ p. T (is_path D p)) Q q c.are_paths m) (holds_one v q h) (find v [] q))
    where
      at : (q : List ℕ) → T (is_path D q) → OneOf q v → ((b : List ℕ) × (c : List ℕ) × (q ≡ turned b (v ∷ c))) ⊎ (OneOf q v → ⊥) →
          T (holds q (0 ∷ v ∷ 3 ∷ []))
      at q p m (inr none) = absurd (none m)
      at q p m (inl (a, b, e)) =
          let (s, l) = path_cut D a v b (subst (λ (t : List ℕ). T (is_path D t)) e p) in
          subst (λ (t : List ℕ). T (holds t (0 ∷ v ∷ 3 ∷ []))) (sym e) (runs a b s l)

-- at any number of paths, 0 1 3 is safe, and so is 0 2 3
pub D_first_safe : (most : ℕ) → Safe D most (0 ∷ 1 ∷ 3 ∷ [])
D_first_safe = through_safe 1 (omega arith) (λ h. h) (λ h. h) into out
  where
    into : (a : Arc ℤ) → OneOf D.arcs a → a.head ≡ 1 → a.tail ≡ 0
    into a (inl e) h = ap (λ (x : Arc ℤ). x.tail) e
    into a (inr (inl e)) h = ap (λ (x : Arc ℤ). x.tail) e
    into a (inr (inr (inl e))) h = let d = ap (λ (x : Arc ℤ). x.head) e in absurd (omega arith)
    into a (inr (inr (inr (inl e)))) h = let d = ap (λ (x : Arc ℤ). x.head) e in absurd (omega arith)
    into a (inr (inr (inr (inr m)))) h = absurd m

    out : (a : Arc ℤ) → OneOf D.arcs a → a.tail ≡ 1 → a.head ≡ 3
    out a (inl e) h = let d = ap (λ (x : Arc ℤ). x.tail) e in absurd (omega arith)
    out a (inr (inl e)) h = let d = ap (λ (x : Arc ℤ). x.tail) e in absurd (omega arith)
    out a (inr (inr (inl e))) h = ap (λ (x : Arc ℤ). x.head) e
    out a (inr (inr (inr (inl e)))) h = ap (λ (x : Arc ℤ). x.head) e
    out a (inr (inr (inr (inr m)))) h = absurd m

pub D_second_safe : (most : ℕ) → Safe D most (0 ∷ 2 ∷ 3 ∷ [])
D_second_safe = through_safe 2 (omega arith) (λ h. h) (λ h. h) into out
  where
    into : (a : Arc ℤ) → OneOf D.arcs a → a.head ≡ 2 → a.tail ≡ 0
    into a (inl e) h = ap (λ (x : Arc ℤ). x.tail) e
    into a (inr (inl e)) h = ap (λ (x : Arc ℤ). x.tail) e
    into a (inr (inr (inl e))) h = let d = ap (λ (x : Arc ℤ). x.head) e in absurd (omega arith)
    into a (inr (inr (inr (inl e)))) h = let d = ap (λ (x : Arc ℤ). x.head) e in absurd (omega arith)
    into a (inr (inr (inr (inr m)))) h = absurd m

    out : (a : Arc ℤ) → OneOf D.arcs a → a.tail ≡ 2 → a.head ≡ 3
    out a (inl e) h = let d = ap (λ (x : Arc ℤ). x.tail) e in absurd (omega arith)
    out a (inr (inl e)) h = let d = ap (λ (x : Arc ℤ). x.tail) e in absurd (omega arith)
    out a (inr (inr (inl e))) h = ap (λ (x : Arc ℤ). x.head) e
    out a (inr (inr (inr (inl e)))) h = ap (λ (x : Arc ℤ). x.head) e
    out a (inr (inr (inr (inr m)))) h = absurd m

abbrev pub D_rows : List (List ℕ)
D_rows = (0 ∷ 1 ∷ 3 ∷ []) ∷ (0 ∷ 2 ∷ 3 ∷ []) ∷ []

-- there is a cover of two paths
pub D_two_paths : PathCover D 2 D_rows
D_two_paths = record { are_paths = (tt, (tt, tt)); few = omega arith; touched = touched }
  where
    touched : (v : ℕ) → v < 4 → T (some_holds D_rows (v ∷ []))
    touched zero l = tt
    touched (suc zero) l = tt
    touched (suc (suc zero)) l = tt
    touched (suc (suc (suc zero))) l = tt
    touched (suc (suc (suc (suc v)))) l = absurd (omega arith)

-- and no safe stretch is longer than its paths, so those two are maximal
D_no_longer : (q : List ℕ) → Safe D 2 q → length q ≤ 3
D_no_longer q s =
    let (r, m, (a, b, e)) = some_held D_rows q (s D_rows D_two_paths) in
    let three = all_among (λ (r : List ℕ). length r ≡ 3) D_rows r (refl, (refl, tt)) m in
    omega (arith, ap length e, length-append a (q ++ b), length-append q b)

pub D_first_maximal : MaximalSafe D 2 (0 ∷ 1 ∷ 3 ∷ [])
D_first_maximal =
    record {
      safe_stretch = record { some = omega arith; stretch = tt; safe = D_first_safe 2 };
      longest = λ q s h. let short = D_no_longer q s.safe in omega arith;
    }

pub D_second_maximal : MaximalSafe D 2 (0 ∷ 2 ∷ 3 ∷ [])
D_second_maximal =
    record {
      safe_stretch = record { some = omega arith; stretch = tt; safe = D_second_safe 2 };
      longest = λ q s h. let short = D_no_longer q s.safe in omega arith;
    }

-- ---- a stretch of a path of a cover that another cover avoids

-- "arcs 0-1 1-2 2-3 0-2 1-3, start 0, end 3"
abbrev pub N : Graph ℤ
N =
    record {
      opening = pos 1;
      vertices = vertex true false ∷ vertex false false ∷ vertex false false ∷ vertex false true ∷ [];
      arcs = edge 0 1 0 ∷ edge 1 2 0 ∷ edge 2 3 0 ∷ edge 0 2 0 ∷ edge 1 3 0 ∷ [];
      reads = [];
    }

touched_by_two : (v : ℕ) → v < 4 → T (some_holds D_rows (v ∷ []))
touched_by_two v l = D_two_paths.touched v l

-- the one path 0 1 2 3 touches every vertex, so it is a cover of one path and of two; but 0 1 3 with 0 2 3 is another of two
pub N_one_path : PathCover N 1 ((0 ∷ 1 ∷ 2 ∷ 3 ∷ []) ∷ [])
N_one_path = record { are_paths = (tt, tt); few = omega arith; touched = touched }
  where
    touched : (v : ℕ) → v < 4 → T (some_holds ((0 ∷ 1 ∷ 2 ∷ 3 ∷ []) ∷ []) (v ∷ []))
    touched zero l = tt
    touched (suc zero) l = tt
    touched (suc (suc zero)) l = tt
    touched (suc (suc (suc zero))) l = tt
    touched (suc (suc (suc (suc v)))) l = absurd (omega arith)

pub N_not_safe : Safe N 2 (1 ∷ 2 ∷ []) → ⊥
N_not_safe s = s D_rows (record { are_paths = (tt, (tt, tt)); few = omega arith; touched = touched_by_two })
