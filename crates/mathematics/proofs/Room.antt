-- L4: independent reads that lie in a cover's paths each take a copy of their own at each vertex and arc, so no more reads pass an item than copies do.
use Prim.Native.Nat.{ℕ, ◌+◌, ◌≤◌}
use native.Mathlib.Omega.{arith}
use native.Mathlib.Nat.{eq-zero-or-pos, mul-le-mul_right}
use mathlib.Core.Path.{◌≡◌, refl, sym, ap, subst, ◌∙◌}
use mathlib.Core.List.{List, [], ◌∷◌, ◌++◌, append_assoc}
use mathlib.Core.Bool.{Bool, true, false, cond, not}
use mathlib.Core.Logic.{◌⊎◌, inl, inr}
use lib.Dec.{T, T_not}
use lib.ListN.{length, length-append}
use Rattle.mathematics.specs.Lists.{All, holds, some_holds, Pairwise, Rising}
use Rattle.mathematics.specs.Graph.{Graph, WellFormed, is_path, with_reads}
use Rattle.mathematics.specs.Cover.{Item, vert, arc, Weighted, IsCover, through, total, paths}
use Rattle.mathematics.specs.Prepare.{overlap, Apart, Independent}
use Rattle.mathematics.specs.Bound.{reads_through}
use Rattle.mathematics.specs.Reach.{item_list}
use Rattle.mathematics.proofs.Basics.{or_cases, all_weaken}
use Rattle.mathematics.proofs.Reach.{through_iff_holds}
use Rattle.mathematics.proofs.WithReads.{Met, cover_paths}
use Rattle.mathematics.proofs.Parts.{Within, holds_within, within_holds, regroup, levi, one_place}
use Rattle.mathematics.proofs.Overlap.{Clear, clear_swap, clear_most}
use Rattle.mathematics.proofs.Taken.{all_both}
use Rattle.mathematics.proofs.Linked.{path_rising, through_within}

-- one of the two ends with the other
abbrev EndAlike : List ℕ → List ℕ → Type 0
EndAlike l m = ((n : List ℕ) × (l ≡ n ++ m)) ⊎ ((n : List ℕ) × (m ≡ n ++ l))

-- one of the two begins with the other
abbrev BeginAlike : List ℕ → List ℕ → Type 0
BeginAlike l m = ((n : List ℕ) × (m ≡ l ++ n)) ⊎ ((n : List ℕ) × (l ≡ m ++ n))

-- two reads whose parts before a vertex end alike and whose parts from it on begin alike are not independent
alike : (r s l t m u : List ℕ) → 1 ≤ length t → 1 ≤ length u → r ≡ l ++ t → s ≡ m ++ u → EndAlike l m → BeginAlike t u → Clear r s →
    overlap r s ≡ 0 → overlap s r ≡ 0 → ⊥
alike r s l t m u p q e f (inl (n, g)) (inl (k, h)) c a b =
    omega (arith, clear_most r s n (m ++ t) k (e ∙ rw g (append_assoc n m t)) (f ∙ rw h (sym (append_assoc m t k))) c, length-append m t)
alike r s l t m u p q e f (inl (n, g)) (inr (k, h)) c a b = c.1 (n, k, e ∙ rw (g, h, f) (simp append_assoc))
alike r s l t m u p q e f (inr (n, g)) (inl (k, h)) c a b = c.0 (n, k, f ∙ rw (g, h, e) (simp append_assoc))
alike r s l t m u p q e f (inr (n, g)) (inr (k, h)) c a b =
    omega (arith, clear_most s r n (l ++ u) k (f ∙ rw g (append_assoc n l u)) (e ∙ rw h (sym (append_assoc l u k))) (clear_swap r s c), length-append l u)

end_alike : (a l c m : List ℕ) → a ++ l ≡ c ++ m → EndAlike l m
end_alike a l c m e = elim (levi a l c m e) [ inl t ↦ inl (t.0, t.2) | inr t ↦ inr (t.0, t.2) ]

begin_alike : (t b u d : List ℕ) → t ++ b ≡ u ++ d → BeginAlike t u
begin_alike t b u d e = elim (levi t b u d e) [ inl h ↦ inl (h.0, h.1) | inr h ↦ inr (h.0, h.1) ]

-- r has the vertex v, with l before it
abbrev Has : ℕ → List ℕ → Type 0
Has v r = (l : List ℕ) × (m : List ℕ) × (r ≡ l ++ (v ∷ m))

-- two independent reads in one path that rises share no vertex
none_shared : (v : ℕ) (p r s : List ℕ) → Rising p → Within r p → Within s p → Apart r s → Apart s r → Has v r → Has v s → ⊥
none_shared v p r s up (a, b, e) (c, d, f) x y (l, t, g) (m, u, h) =
    let at-r : p ≡ (a ++ l) ++ (v ∷ (t ++ b)) = e ∙ (ap (λ (q : List ℕ). a ++ (q ++ b)) g ∙ regroup a l (v ∷ t) b) in
    let at-s : p ≡ (c ++ m) ++ (v ∷ (u ++ d)) = f ∙ (ap (λ (q : List ℕ). c ++ (q ++ d)) h ∙ regroup c m (v ∷ u) d) in
    let same = one_place v (a ++ l) (t ++ b) (c ++ m) (u ++ d) (subst Rising at-r up) (sym at-r ∙ at-s) in
    alike r s l (v ∷ t) m (v ∷ u) (omega arith) (omega arith) g h
    (end_alike a l c m same.0)
    (begin_alike (v ∷ t) b (v ∷ u) d (ap {B = List ℕ} (λ q. v ∷ q) same.1))
    (λ w. x.0 (within_holds s r w), λ w. y.0 (within_holds r s w))
    x.1 y.1

-- the vertex of an item, or its arc's tail
abbrev at : Item → ℕ
at (vert v) = v
at (arc u v) = u

passed : (i : Item) (r : List ℕ) → Within (item_list i) r → Has (at i) r
passed (vert v) r (a, b, e) = (a, b, e)
passed (arc u v) r (a, b, e) = (a, v ∷ b, e)

passes : (i : Item) (r : List ℕ) → 1 ≤ through i r → Has (at i) r
passes i r h = passed i r (holds_within r (item_list i) ((through_iff_holds i r).0 h))

-- of independent reads in one path at most one passes an item
others_avoid : (i : Item) (p r s : List ℕ) → Rising p → Within r p → 1 ≤ through i r → Apart r s × Apart s r → Within s p → through i s ≡ 0
others_avoid i p r s up w h a u =
    elim (eq-zero-or-pos (through i s)) [
      | inl e ↦ e
      | inr k ↦ absurd (none_shared (at i) p r s up w u a.0 a.1 (passes i r h) (passes i s k))
    ]

none_through : (i : Item) (rs : List (List ℕ)) → All (λ s. through i s ≡ 0) rs → reads_through i rs ≡ 0
none_through i [] h = refl
none_through i (r ∷ rs) h = omega (arith, h.0, none_through i rs h.1)

-- the independent reads in one path pass an item no more often than the path does
room_in_path : (i : Item) (p : List ℕ) (rs : List (List ℕ)) → Rising p → All (λ r. Within r p) rs → Independent rs →
    reads_through i rs ≤ through i p
room_in_path i p [] up h a = omega arith
room_in_path i p (r ∷ rs) up h a =
    elim (eq-zero-or-pos (through i r)) [
      | inl e ↦ omega (arith, room_in_path i p rs up h.1 a.1)
      | inr k ↦ omega (
        arith,
        through_within i r p h.0,
        none_through i rs
            (all_both (λ s. Apart r s × Apart s r) (λ s. Within s p) (λ s. through i s ≡ 0) rs (λ s. others_avoid i p r s up h.0 k) a.0 h.1),
      )
    ]

-- the reads that pass a test
abbrev only : (List ℕ → Bool) → List (List ℕ) → List (List ℕ)
only t [] = []
only t (r ∷ rs) = cond (t r) (r ∷ only t rs) (only t rs)

only_all : (P Q : List ℕ → Type 0) (t : List ℕ → Bool) → ((r : List ℕ) → P r → T (t r) → Q r) → (rs : List (List ℕ)) → All P rs →
    All Q (only t rs)
only_all P Q t f [] h = tt
only_all P Q t f (r ∷ rs) h = pick (t r) (f r h.0) (only_all P Q t f rs h.1)
  where
    pick : (b : Bool) → (T b → Q r) → All Q (only t rs) → All Q (cond b (r ∷ only t rs) (only t rs))
    pick true g ih = (g tt, ih)
    pick false g ih = ih

only_pairwise : (R : List ℕ → List ℕ → Type 0) (t : List ℕ → Bool) (rs : List (List ℕ)) → Pairwise R rs → Pairwise R (only t rs)
only_pairwise R t [] h = tt
only_pairwise R t (r ∷ rs) h = pick (t r) (only_all (R r) (R r) t (λ s k u. k) rs h.0) (only_pairwise R t rs h.1)
  where
    pick : (b : Bool) → All (R r) (only t rs) → Pairwise R (only t rs) → Pairwise R (cond b (r ∷ only t rs) (only t rs))
    pick true f ih = (f, ih)
    pick false f ih = ih

only_through : (i : Item) (t : List ℕ → Bool) (rs : List (List ℕ)) →
    reads_through i rs ≡ reads_through i (only t rs) + reads_through i (only (λ r. not (t r)) rs)
only_through i t [] = refl
only_through i t (r ∷ rs) = pick (t r) (only t rs) (only (λ r. not (t r)) rs) (only_through i t rs)
  where
    pick : (b : Bool) (yea nay : List (List ℕ)) → reads_through i rs ≡ reads_through i yea + reads_through i nay →
        through i r + reads_through i rs ≡ reads_through i (cond b (r ∷ yea) yea) + reads_through i (cond (not b) (r ∷ nay) nay)
    pick true yea nay ih = omega arith
    pick false yea nay ih = omega arith

held_elsewhere : (w : Weighted) (W : List Weighted) (r : List ℕ) → Met (w ∷ W) r → T (not (holds w.path r)) → Met W r
held_elsewhere w W r h n =
    elim (or_cases (holds w.path r) (some_holds (paths W) r) h) [ inl k ↦ absurd (T_not (holds w.path r) n k) | inr k ↦ k ]

-- the reads in the first path have room in it, the others in the other paths
room : (i : Item) (W : List Weighted) (rs : List (List ℕ)) → All (λ w. Rising w.path) W → All (λ w. 1 ≤ w.weight) W → Independent rs →
    All (Met W) rs → reads_through i rs ≤ total i W
room i [] [] up l a h = omega arith
room i [] (r ∷ rs) up l a h = absurd h.0
room i (w ∷ W) rs up l a h =
    let p : List ℕ = w.path in
    let here =
    room_in_path i p (only (holds p) rs) up.0
    (only_all (Met (w ∷ W)) (λ r. Within r p) (holds p) (λ r k t. holds_within p r t) rs h)
    (only_pairwise (λ r s. Apart r s × Apart s r) (holds p) rs a) in
    let more =
    room i W (only (λ r. not (holds p r)) rs) up.1 l.1
    (only_pairwise (λ r s. Apart r s × Apart s r) (λ r. not (holds p r)) rs a)
    (only_all (Met (w ∷ W)) (Met W) (λ r. not (holds p r)) (held_elsewhere w W) rs h) in
    omega (arith, here, more, only_through i (holds p) rs, mul-le-mul_right (through i p) l.0)

-- In a cover that satisfies independent reads, no more reads pass an item than copies do.
pub room_for_reads : {E : Type 0} (G : Graph E) → WellFormed G → (rs : List (List ℕ)) (W : List Weighted) → Independent rs →
    IsCover (with_reads G rs) W → (i : Item) → reads_through i rs ≤ total i W
room_for_reads G wf rs W a c i =
    room i W rs
    (all_weaken (λ w. T (is_path G w.path)) (λ w. Rising w.path) W (λ (w : Weighted). path_rising G wf w.path) (cover_paths G rs W c))
    c.weights a c.reads_met
