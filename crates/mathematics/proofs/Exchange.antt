-- L6: from a cover that holds two reads, one that holds their joined read and all the others, with the same totals. One copy of each of two
-- paths exchanges its end with the other.
use Prim.Native.Nat.{ℕ, zero, suc, ◌+◌, ◌*◌, ◌≤◌, pred}
use native.Mathlib.Omega.{arith}
use mathlib.Core.Path.{◌≡◌, refl, sym, ap, subst, ◌∙◌}
use mathlib.Core.List.{List, [], ◌∷◌, ◌++◌, append-nil, append_assoc}
use mathlib.Core.Logic.{◌⊎◌, inl, inr}
use lib.Dec.{T}
use lib.ListN.{length}
use Rattle.mathematics.specs.Lists.{All, holds, some_holds, Pairwise, Rising}
use Rattle.mathematics.specs.Range.{OneOf}
use Rattle.mathematics.specs.Graph.{Graph, WellFormed, is_path, with_reads}
use Rattle.mathematics.specs.Cover.{Item, Ask, Weighted, IsCover, asks, through, total, total_weight, paths}
use Rattle.mathematics.proofs.Basics.{all_from, all_among, all_weaken, among_map}
use Rattle.mathematics.proofs.Merge.{merge, merge_total, merge_weight, merge_weights, merge_all, merge_distinct, merge_holds, some_holds_lem}
use Rattle.mathematics.proofs.Existence.{held_by_some}
use Rattle.mathematics.proofs.WithReads.{Met, path_with_reads, cover_with_reads, cover_paths}
use Rattle.mathematics.proofs.Parts.{Within, within_holds, holds_within, within_trans, regroup, Parts, parts, one_place}
use Rattle.mathematics.proofs.Overlap.{Clear, clear_swap, none_across_left, none_across_right}
use Rattle.mathematics.proofs.Taken.{Taken, here, there, taken_all, put_all, take_one, taken_cases}
use Rattle.mathematics.proofs.Longest.{AtMost}
use Rattle.mathematics.proofs.Joined.{Join, join_all, join_old, left, right, whole}
use Rattle.mathematics.proofs.Linked.{path_rising, path_exchange, through_exchange}

-- ---- where the joined read and the other reads lie afterwards

regroup_right : (c o y d : List ℕ) → c ++ ((o ++ y) ++ d) ≡ c ++ (o ++ (y ++ d))
regroup_right c o y d = simp append_assoc

regroup_whole : (a x o y d : List ℕ) → (a ++ x) ++ (o ++ (y ++ d)) ≡ a ++ ((x ++ (o ++ y)) ++ d)
regroup_whole a x o y d = simp append_assoc

same_before : (o l r m s p : List ℕ) → 1 ≤ length o → Rising p → p ≡ l ++ (o ++ r) → p ≡ m ++ (o ++ s) → m ≡ l
same_before [] l r m s p h up e f = absurd (omega arith)
same_before (v ∷ o) l r m s p h up e f = (one_place v m (o ++ s) l (o ++ r) (subst Rising f up) (sym f ∙ e)).0

-- one path that holds both reads holds the joined read, since o stands at one place of it
whole_in_one : (x o y p a b c d : List ℕ) → 1 ≤ length o → Rising p → p ≡ (a ++ x) ++ (o ++ b) → p ≡ c ++ (o ++ (y ++ d)) →
    Within (x ++ (o ++ y)) p
whole_in_one x o y p a b c d h up e f =
    (a, d, f ∙ rw (same_before o (a ++ x) b c (y ++ d) p h up e f) (regroup_whole a x o y d))

within_right : (k l o r : List ℕ) → Within k (o ++ r) → Within k (l ++ (o ++ r))
within_right k l o r w = within_trans k (o ++ r) (l ++ (o ++ r)) w (l, [], ap (λ (q : List ℕ). l ++ q) (sym (append-nil (o ++ r))))

within_left : (k l o r : List ℕ) → Within k (l ++ o) → Within k (l ++ (o ++ r))
within_left k l o r w = within_trans k (l ++ o) (l ++ (o ++ r)) w ([], r, sym (append_assoc l o r))

-- a read that lies in the path that held x ++ o lies in one of the two new ones
from_left : (k x o a r m s : List ℕ) → Within k ((a ++ x) ++ (o ++ r)) → Clear (x ++ o) k → AtMost (length o) (x ++ o) k →
    Within k ((a ++ x) ++ (o ++ s)) ⊎ Within k (m ++ (o ++ r))
from_left k x o a r m s w clear most = go (parts k (a ++ x) o r w.0 w.1 w.2)
  where
    go : Parts k (a ++ x) o r → Within k ((a ++ x) ++ (o ++ s)) ⊎ Within k (m ++ (o ++ r))
    go (inl h) = inl (within_left k (a ++ x) o s h)
    go (inr (inl h)) = inr (within_right k m o r h)
    go (inr (inr (before, after, u, t, e, f, g, p, q))) = absurd (none_across_left x o k a u before after f p e clear most.0)

-- and so does one that lies in the path that held o ++ y
from_right : (k y o b l m s : List ℕ) → Within k (m ++ (o ++ (y ++ b))) → Clear (o ++ y) k → AtMost (length o) (o ++ y) k →
    Within k (l ++ (o ++ (y ++ b))) ⊎ Within k (m ++ (o ++ s))
from_right k y o b l m s w clear most = go (parts k m o (y ++ b) w.0 w.1 w.2)
  where
    go : Parts k m o (y ++ b) → Within k (l ++ (o ++ (y ++ b))) ⊎ Within k (m ++ (o ++ s))
    go (inl h) = inr (within_left k m o s h)
    go (inr (inl h)) = inl (within_right k l o (y ++ b) h)
    go (inr (inr (before, after, u, t, e, f, g, p, q))) = absurd (none_across_right y o k b t before after g q e clear most.1)

-- ---- the weighted paths

taken_total : (i : Item) {w : Weighted} {W V' : List Weighted} → Taken w W V' → total i W ≡ w.weight * through i w.path + total i V'
taken_total i here = refl
taken_total i {w} (there {y} {xs} {ys} t) = omega (arith, taken_total i t)

taken_weight : {w : Weighted} {W V' : List Weighted} → Taken w W V' → total_weight W ≡ w.weight + total_weight V'
taken_weight here = refl
taken_weight {w} (there {y} {xs} {ys} t) = omega (arith, taken_weight t)

abbrev copies : ℕ → List ℕ → Weighted
copies k p = record { weight = k; path = p }

-- one copy of A and one of B became one of A' and one of B'
abbrev exchanged : ℕ → ℕ → List ℕ → List ℕ → List ℕ → List ℕ → List Weighted → List Weighted
exchanged a b A B A' B' W = copies a A ∷ copies b B ∷ copies 1 A' ∷ copies 1 B' ∷ W

exchanged_sum : (w u s t s' t' n : ℕ) → 1 ≤ w → 1 ≤ u → s + t ≡ s' + t' →
    pred w * s + (pred u * t + (1 * s' + (1 * t' + n))) ≡ w * s + (u * t + n)
exchanged_sum zero u s t s' t' n p q e = absurd (omega arith)
exchanged_sum (suc w) zero s t s' t' n p q e = absurd (omega arith)
exchanged_sum (suc w) (suc u) s t s' t' n p q e = omega arith

exchanged_weight : (w u n : ℕ) → 1 ≤ w → 1 ≤ u → pred w + (pred u + (1 + (1 + n))) ≡ w + (u + n)
exchanged_weight w u n p q = omega arith

-- a copy of some path of N holds r
abbrev Kept : List Weighted → List ℕ → Type 0
Kept N r = (w : Weighted) × OneOf N w × (1 ≤ w.weight) × T (holds w.path r)

module _ {E : Type 0} where
  -- a cover of G with the totals of W
  abbrev pub CoverLike : Graph E → List Weighted → Type 0
  CoverLike G W = (U : List Weighted) × IsCover G U × ((i : Item) → total i U ≡ total i W) × (total_weight U ≡ total_weight W)

  -- weighted paths with the totals of a cover, merged, are a cover of the reads that they keep
  merged_cover : (G : Graph E) (rs : List (List ℕ)) (W N : List Weighted) → All (λ a. a.demand ≤ total a.item W) (asks G) →
      All (λ w. 1 ≤ w.weight → T (is_path G w.path)) N → All (Kept N) rs → ((i : Item) → total i N ≡ total i W) →
      total_weight N ≡ total_weight W → CoverLike (with_reads G rs) W
  merged_cover G rs W N met are kept same weighs = (
    merge N,
    record {
      are_paths = all_weaken (λ w. T (is_path G w.path)) (λ w. T (is_path (with_reads G rs) w.path)) (merge N)
          (λ (w : Weighted) t. subst T (sym (path_with_reads G rs w.path)) t) (merge_all (λ p. T (is_path G p)) N are);
      weights = merge_weights N;
      distinct = merge_distinct N;
      demands_met = all_weaken (λ a. a.demand ≤ total a.item W) (λ a. a.demand ≤ total a.item (merge N)) (asks G)
          (λ (a : Ask) h. subst (λ (n : ℕ). a.demand ≤ n) (sym (equal a.item)) h) met;
      reads_met = all_weaken (Kept N) (λ r. T (some_holds (paths (merge N)) r)) rs (λ r k. merge_holds r k.0 N k.1 k.2 k.3) kept;
    },
    equal,
    merge_weight N ∙ weighs,
  )
    where
      equal : (i : Item) → total i (merge N) ≡ total i W
      equal i = merge_total i N ∙ same i

module _ {E : Type 0} (G : Graph E) (rs rs' : List (List ℕ)) (j : Join rs rs') (W : List Weighted) (c : IsCover (with_reads G rs) W) where
  -- one path holds both reads
  same_cover : (w : Weighted) → OneOf W w → T (holds w.path (whole rs rs' j)) → CoverLike (with_reads G rs') W
  same_cover w m h = (
    W,
    cover_with_reads G rs rs' W c
        (join_all rs rs' j (Met W) (λ l r. some_holds_lem w.path (paths W) (whole rs rs' j) (among_map (λ (u : Weighted). u.path) w W m) h) c.reads_met),
    λ i. refl,
    refl,
  )

  module _ (A B : Weighted) (W₁ W₂ : List Weighted) (first : Taken A W W₁) (second : Taken B W₁ W₂) (a b p q : List ℕ)
      (in_A : A.path ≡ (a ++ j.x) ++ (j.o ++ b)) (in_B : B.path ≡ p ++ (j.o ++ (j.y ++ q))) where
    abbrev new_a : List ℕ
    new_a = (a ++ j.x) ++ (j.o ++ (j.y ++ q))

    abbrev new_b : List ℕ
    new_b = p ++ (j.o ++ b)

    abbrev new : List Weighted
    new = exchanged (pred A.weight) (pred B.weight) A.path B.path new_a new_b W₂

    in_new : (k : List ℕ) → Within k new_a ⊎ Within k new_b → Kept new k
    in_new k (inl w) = (copies 1 new_a, inr (inr (inl refl)), omega arith, within_holds new_a k w)
    in_new k (inr w) = (copies 1 new_b, inr (inr (inr (inl refl))), omega arith, within_holds new_b k w)

    other_kept : (k : List ℕ) → Clear (left rs rs' j) k → Clear (right rs rs' j) k → AtMost (length j.o) (left rs rs' j) k →
        AtMost (length j.o) (right rs rs' j) k → T (some_holds (paths W) k) → Kept new k
    other_kept k cl cr ml mr h = go (held_by_some k W h)
      where
        by_A : T (holds A.path k) → Kept new k
        by_A t = in_new k (from_left k j.x j.o a b p (j.y ++ q) (subst (Within k) in_A (holds_within A.path k t)) cl ml)

        by_B : T (holds B.path k) → Kept new k
        by_B t = in_new k (from_right k j.y j.o q (a ++ j.x) p b (subst (Within k) in_B (holds_within B.path k t)) cr mr)

        behind : (w : Weighted) → OneOf W₁ w → 1 ≤ w.weight → T (holds w.path k) → Kept new k
        behind w m l t =
            elim (taken_cases second w m) [
              | inl e ↦ by_B (subst (λ (u : Weighted). T (holds u.path k)) e t)
              | inr n ↦ (w, inr (inr (inr (inr n))), l, t)
            ]

        go : ((w : Weighted) × OneOf W w × T (holds w.path k)) → Kept new k
        go (w, m, t) =
            elim (taken_cases first w m) [
              | inl e ↦ by_A (subst (λ (u : Weighted). T (holds u.path k)) e t)
              | inr n ↦ behind w n (all_among (λ (u : Weighted). 1 ≤ u.weight) W w c.weights m) t
            ]

    kept : Pairwise Clear rs → All (Kept new) rs'
    kept clear =
        let (ab, ls, rs₁, others) = join_old rs rs' j Clear clear_swap clear in
        let (ab', ml, mr, om) = join_old rs rs' j (AtMost (length j.o)) (λ a b m. (m.1, m.0)) j.most in
        let (hl, more) = taken_all (Met W) j.replaced.first c.reads_met in
        let (hr, held) = taken_all (Met W) j.replaced.second more in
        put_all (Kept new) j.replaced.made (in_new (whole rs rs' j) (inl (a, q, regroup_whole a j.x j.o j.y q)))
        (all_from (Kept new) j.replaced.others (λ k m. other_kept k
        (all_among (Clear (left rs rs' j)) j.replaced.others k ls m)
        (all_among (Clear (right rs rs' j)) j.replaced.others k rs₁ m)
        (all_among (AtMost (length j.o) (left rs rs' j)) j.replaced.others k ml m)
        (all_among (AtMost (length j.o) (right rs rs' j)) j.replaced.others k mr m)
        (all_among (Met W) j.replaced.others k held m)))

    new_are_paths : All (λ w. 1 ≤ w.weight → T (is_path G w.path)) new
    new_are_paths =
        let are = cover_paths G rs W c in
        let (pa, are₁) = taken_all (λ w. T (is_path G w.path)) first are in
        let (pb, are₂) = taken_all (λ w. T (is_path G w.path)) second are₁ in
        let ta = subst (λ (q : List ℕ). T (is_path G q)) in_A pa in
        let tb = subst (λ (q : List ℕ). T (is_path G q)) in_B pb in (
          λ h. pa,
          (
            λ h. pb,
            (
              λ h. path_exchange G (a ++ j.x) j.o b p (j.y ++ q) j.some_o ta tb,
              (
                λ h. path_exchange G p j.o (j.y ++ q) (a ++ j.x) b j.some_o tb ta,
                all_weaken (λ w. T (is_path G w.path)) (λ w. 1 ≤ w.weight → T (is_path G w.path)) W₂ (λ w t h. t) are₂,
              ),
            ),
          ),
        )

    some_copies : (1 ≤ A.weight) × (1 ≤ B.weight)
    some_copies =
        let (l, more) = taken_all (λ w. 1 ≤ w.weight) first c.weights in
        (l, (taken_all (λ w. 1 ≤ w.weight) second more).0)

    new_total : (i : Item) → total i new ≡ total i W
    new_total i =
        let both : through i A.path + through i B.path ≡ through i new_a + through i new_b =
        rw (in_A, in_B) (through_exchange i (a ++ j.x) j.o b p (j.y ++ q) j.some_o) in
        exchanged_sum A.weight B.weight (through i A.path) (through i B.path) (through i new_a) (through i new_b)
        (total i W₂) some_copies.0 some_copies.1 both ∙
        omega (arith, taken_total i first, taken_total i second)

    new_weight : total_weight new ≡ total_weight W
    new_weight =
        exchanged_weight A.weight B.weight (total_weight W₂) some_copies.0 some_copies.1 ∙
        omega (arith, taken_weight first, taken_weight second)

    exchange_cover : Pairwise Clear rs → CoverLike (with_reads G rs') W
    exchange_cover clear = merged_cover G rs' W new c.demands_met new_are_paths (kept clear) new_total new_weight

  one_path : WellFormed G → (w : Weighted) → OneOf W w → Within (left rs rs' j) w.path → Within (right rs rs' j) w.path →
      CoverLike (with_reads G rs') W
  one_path wf w m (a, b, e) (p, q, f) =
      let up = path_rising G wf w.path (all_among (λ (u : Weighted). T (is_path G u.path)) W w (cover_paths G rs W c) m) in
      same_cover w m
      (within_holds w.path (whole rs rs' j)
      (whole_in_one j.x j.o j.y w.path a b p q j.some_o up (e ∙ regroup a j.x j.o b) (f ∙ regroup_right p j.o j.y q)))

  two_paths : Pairwise Clear rs → (A B : Weighted) (W₁ : List Weighted) → Taken A W W₁ → OneOf W₁ B → Within (left rs rs' j) A.path →
      Within (right rs rs' j) B.path → CoverLike (with_reads G rs') W
  two_paths clear A B W₁ first m (a, b, e) (p, q, f) =
      let (W₂, second) = take_one B W₁ m in
      exchange_cover A B W₁ W₂ first second a b p q (e ∙ regroup a j.x j.o b) (f ∙ regroup_right p j.o j.y q) clear

  -- a cover of the reads gives one of the reads after a join, with the same totals
  pub join_cover : WellFormed G → Pairwise Clear rs → CoverLike (with_reads G rs') W
  join_cover wf clear =
      let (hl, more) = taken_all (Met W) j.replaced.first c.reads_met in
      let (hr, others) = taken_all (Met W) j.replaced.second more in
      let (A, m_a, t_a) = held_by_some (left rs rs' j) W hl in
      let (B, m_b, t_b) = held_by_some (right rs rs' j) W hr in
      let (W₁, first) = take_one A W m_a in
      let in_A = holds_within A.path (left rs rs' j) t_a in
      let in_B = holds_within B.path (right rs rs' j) t_b in
      elim (taken_cases first B m_b) [
        | inl e ↦ one_path wf A m_a in_A (subst (λ (w : Weighted). Within (right rs rs' j) w.path) e in_B)
        | inr m ↦ two_paths clear A B W₁ first m in_A in_B
      ]
