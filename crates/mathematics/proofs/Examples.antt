-- Cases D, L and X of document 01, "Numbers to hold against the definitions", at the level of graphs and covers: that the covers named there are covers, at
-- those prices, and that no cover is cheaper; and that the wrong turns document 01 names lead to no cover, or to a dearer one.
use Prim.Native.Nat.{ℕ, zero, suc, ◌≤◌}
use mathlib.Core.Path.{◌≡◌, refl}
use mathlib.Core.List.{List, [], ◌∷◌, head-eq_of_cons-eq, tail-eq_of_cons-eq}
use mathlib.Core.Bool.{Bool, true, false}
use mathlib.Core.Logic.{◌≢◌}
use native.Mathlib.Omega.{arith}
use lib.IntN.{ℤ, pos, negsuc}
use Rattle.mathematics.specs.Price.{whole}
use Rattle.mathematics.specs.Lists.{holds}
use Rattle.mathematics.specs.Graph.{Vertex, Arc, Graph, WellFormed, with_reads}
use Rattle.mathematics.specs.Cover.{Weighted, IsCover, price, IsLowest}
use Rattle.mathematics.specs.Prepare.{prepare, overlap, longest, join_at}
use Rattle.mathematics.specs.Bound.{Marks, bound, Shows}
use Rattle.mathematics.proofs.PriceKinds.{whole_ordered}
use Rattle.mathematics.proofs.Lowest.{shown_is_lowest}

abbrev pub vertex : Bool → Bool → Vertex
vertex s e = record { start = s; end = e; demand = 1 }

abbrev pub edge : ℕ → ℕ → ℕ → Arc ℤ
edge u v c = record { tail = u; head = v; cost = pos c; demand = 0 }

abbrev pub once : List ℕ → Weighted
once p = record { weight = 1; path = p }

-- the marks listed, vertex 0 first; nothing behind them
abbrev pub mark_at : List ℤ → ℕ → ℤ
mark_at [] v = pos 0
mark_at (x ∷ xs) zero = x
mark_at (x ∷ xs) (suc v) = mark_at xs v

-- lists that differ at their first, second number
pub differ_first : (x y : ℕ) (p q : List ℕ) → x ≢ y → x ∷ p ≢ y ∷ q
differ_first x y p q d e = d (head-eq_of_cons-eq e)

pub differ_second : (x y z : ℕ) (p q : List ℕ) → y ≢ z → x ∷ y ∷ p ≢ x ∷ z ∷ q
differ_second x y z p q d e = differ_first y z p q d (tail-eq_of_cons-eq e)

pub ends_differ : (a b c d : ℕ) → (a ≡ c → b ≡ d → ⊥) → ◌≢◌ {A = ℕ × ℕ} (a, b) (c, d)
ends_differ a b c d h e = h (λ i. (e i).0) (λ i. (e i).1)

-- ---- D

-- "4 vertices, demands 1, start 0, end 3; arcs 0-1 cost 2, 0-2 cost 3, 1-3 cost 4, 2-3 cost 5, demands 0; opening 10; no reads"
abbrev pub D : Graph ℤ
D =
    record {
      opening = pos 10;
      vertices = vertex true false ∷ vertex false false ∷ vertex false false ∷ vertex false true ∷ [];
      arcs = edge 0 1 2 ∷ edge 0 2 3 ∷ edge 1 3 4 ∷ edge 2 3 5 ∷ [];
      reads = [];
    }

abbrev pub D_cover : List Weighted
D_cover = once (0 ∷ 1 ∷ 3 ∷ []) ∷ once (0 ∷ 2 ∷ 3 ∷ []) ∷ []

-- "in/out marks 10/10, 12/-4, 13/-5, 0/0"
abbrev pub D_marks : Marks ℤ
D_marks =
    record {
      into = mark_at (pos 10 ∷ pos 12 ∷ pos 13 ∷ pos 0 ∷ []);
      out = mark_at (pos 10 ∷ negsuc 3 ∷ negsuc 4 ∷ pos 0 ∷ []);
    }

pub D_formed : WellFormed D
D_formed =
    record {
      rises = (omega arith, (omega arith, (omega arith, (omega arith, tt))));
      once = (
        (ends_differ 0 1 0 2 (λ h k. omega arith), (ends_differ 0 1 1 3 (λ h k. omega arith), (ends_differ 0 1 2 3 (λ h k. omega arith), tt))),
        (
          (ends_differ 0 2 1 3 (λ h k. omega arith), (ends_differ 0 2 2 3 (λ h k. omega arith), tt)),
          ((ends_differ 1 3 2 3 (λ h k. omega arith), tt), (tt, tt)),
        ),
      );
      reads_linked = tt;
    }

D_covers : IsCover D D_cover
D_covers =
    record {
      are_paths = (tt, (tt, tt));
      weights = (omega arith, (omega arith, tt));
      distinct = ((differ_second 0 1 2 (3 ∷ []) (3 ∷ []) (λ e. omega arith), tt), (tt, tt));
      demands_met = (omega arith, (omega arith, (omega arith, (omega arith, (omega arith, (omega arith, (omega arith, (omega arith, tt))))))));
      reads_met = tt;
    }

-- "the bound is 16+18 = 34"
D_shown : Shows whole D D_marks D_cover
unfolding bound prepare
D_shown = (record { vertices_hold = (tt, (tt, (tt, (tt, tt)))); arcs_hold = (tt, (tt, (tt, (tt, tt)))) }, refl)

-- "D: price 34"
pub D_price : price whole D D_cover ≡ pos 34
D_price = refl

pub D_lowest : IsLowest whole D D_cover
D_lowest = shown_is_lowest whole whole_ordered D D_formed D_marks D_cover D_covers D_shown

-- one path leaves vertex 2 unmet
pub D_one_path_is_none : IsCover D (once (0 ∷ 1 ∷ 3 ∷ []) ∷ []) → ⊥
D_one_path_is_none c = let unmet : 1 ≤ 0 = c.demands_met.1.1.0 in omega arith

-- ---- L and X share their shape: two starts, two ends, all arcs at cost 1

-- "L: starts 0 and 2, ends 3 and 4, arcs 0-1, 1-2, 2-3, 2-4 at cost 1, vertex demands 1, arc demands 0, opening 10, reads 0 1 2, 2 4 and 1 2 3"
abbrev pub L : Graph ℤ
L =
    record {
      opening = pos 10;
      vertices = vertex true false ∷ vertex false false ∷ vertex true false ∷ vertex false true ∷ vertex false true ∷ [];
      arcs = edge 0 1 1 ∷ edge 1 2 1 ∷ edge 2 3 1 ∷ edge 2 4 1 ∷ [];
      reads = (0 ∷ 1 ∷ 2 ∷ []) ∷ (2 ∷ 4 ∷ []) ∷ (1 ∷ 2 ∷ 3 ∷ []) ∷ [];
    }

abbrev pub L_cover : List Weighted
L_cover = once (0 ∷ 1 ∷ 2 ∷ 3 ∷ []) ∷ once (2 ∷ 4 ∷ []) ∷ []

L_marks : Marks ℤ
L_marks =
    record {
      into = mark_at (pos 10 ∷ pos 10 ∷ pos 10 ∷ pos 0 ∷ pos 0 ∷ []);
      out = mark_at (pos 10 ∷ pos 9 ∷ pos 0 ∷ pos 0 ∷ pos 0 ∷ []);
    }

L_formed : WellFormed L
L_formed =
    record {
      rises = (omega arith, (omega arith, (omega arith, (omega arith, tt))));
      once = (
        (ends_differ 0 1 1 2 (λ h k. omega arith), (ends_differ 0 1 2 3 (λ h k. omega arith), (ends_differ 0 1 2 4 (λ h k. omega arith), tt))),
        (
          (ends_differ 1 2 2 3 (λ h k. omega arith), (ends_differ 1 2 2 4 (λ h k. omega arith), tt)),
          ((ends_differ 2 3 2 4 (λ h k. omega arith), tt), (tt, tt)),
        ),
      );
      reads_linked = ((omega arith, tt), ((omega arith, tt), ((omega arith, tt), tt)));
    }

L_covers : IsCover L L_cover
L_covers =
    record {
      are_paths = (tt, (tt, tt));
      weights = (omega arith, (omega arith, tt));
      distinct = ((differ_first 0 2 (1 ∷ 2 ∷ 3 ∷ []) (4 ∷ []) (λ e. omega arith), tt), (tt, tt));
      demands_met = (
        omega arith,
        (omega arith, (omega arith, (omega arith, (omega arith, (omega arith, (omega arith, (omega arith, (omega arith, tt)))))))),
      );
      reads_met = (tt, (tt, (tt, tt)));
    }

L_shown : Shows whole L L_marks L_cover
unfolding L_marks bound prepare longest join_at overlap
L_shown = (record { vertices_hold = (tt, (tt, (tt, (tt, (tt, tt))))); arcs_hold = (tt, (tt, (tt, (tt, tt)))) }, refl)

-- "price 24"
pub L_price : price whole L L_cover ≡ pos 24
L_price = refl

pub L_lowest : IsLowest whole L L_cover
L_lowest = shown_is_lowest whole whole_ordered L L_formed L_marks L_cover L_covers L_shown

-- the longest overlap is joined first: 0 1 2 with 1 2 3
pub L_prepared : prepare L.reads ≡ (0 ∷ 1 ∷ 2 ∷ 3 ∷ []) ∷ (2 ∷ 4 ∷ []) ∷ []
unfolding prepare longest join_at overlap
L_prepared = refl

-- ---- "Merging reads in file order. In L, joining 0 1 2 with 2 4 first leads to 26."

-- L with the reads that are left when the first pair that overlaps, by one vertex, is joined
abbrev pub M : Graph ℤ
M = with_reads L (join_at (record { shared = 1; i = 0; j = 1 }) L.reads)

pub M_reads : M.reads ≡ (0 ∷ 1 ∷ 2 ∷ 4 ∷ []) ∷ (1 ∷ 2 ∷ 3 ∷ []) ∷ []
unfolding join_at
M_reads = refl

-- so file order does not give the prepared reads of L: the first ends in 4 and not in 3
pub M_not_prepared : M.reads ≢ prepare L.reads
unfolding prepare longest join_at overlap
M_not_prepared e =
    differ_first 4 3 [] [] (λ d. omega arith) (tail-eq_of_cons-eq (tail-eq_of_cons-eq (tail-eq_of_cons-eq (head-eq_of_cons-eq e))))

abbrev pub M_cover : List Weighted
M_cover = once (0 ∷ 1 ∷ 2 ∷ 3 ∷ []) ∷ once (0 ∷ 1 ∷ 2 ∷ 4 ∷ []) ∷ []

M_marks : Marks ℤ
M_marks =
    record {
      into = mark_at (pos 10 ∷ pos 11 ∷ pos 10 ∷ pos 0 ∷ pos 0 ∷ []);
      out = mark_at (pos 10 ∷ pos 9 ∷ pos 0 ∷ pos 0 ∷ pos 0 ∷ []);
    }

M_formed : WellFormed M
unfolding join_at
M_formed = record { rises = L_formed.rises; once = L_formed.once; reads_linked = ((omega arith, tt), ((omega arith, tt), tt)) }

M_covers : IsCover M M_cover
unfolding join_at
M_covers =
    record {
      are_paths = (tt, (tt, tt));
      weights = (omega arith, (omega arith, tt));
      distinct = ((λ e. differ_first 3 4 [] [] (λ d. omega arith) (tail-eq_of_cons-eq (tail-eq_of_cons-eq (tail-eq_of_cons-eq e))), tt), (tt, tt));
      demands_met = (
        omega arith,
        (omega arith, (omega arith, (omega arith, (omega arith, (omega arith, (omega arith, (omega arith, (omega arith, tt)))))))),
      );
      reads_met = (tt, (tt, tt));
    }

M_shown : Shows whole M M_marks M_cover
unfolding M_marks bound prepare longest join_at overlap
M_shown = (record { vertices_hold = (tt, (tt, (tt, (tt, (tt, tt))))); arcs_hold = (tt, (tt, (tt, (tt, tt)))) }, refl)

-- "leads to 26", against 24 for L
pub M_price : price whole M M_cover ≡ pos 26
M_price = refl

pub M_lowest : IsLowest whole M M_cover
M_lowest = shown_is_lowest whole whole_ordered M M_formed M_marks M_cover M_covers M_shown

-- "X: starts 0 and 1, ends 3 and 4, arcs 0-2, 1-2, 2-3, 2-4 at cost 1, demands as in L, opening 10, reads 0 2 3 and 1 2 4"
abbrev pub X : Graph ℤ
X =
    record {
      opening = pos 10;
      vertices = vertex true false ∷ vertex true false ∷ vertex false false ∷ vertex false true ∷ vertex false true ∷ [];
      arcs = edge 0 2 1 ∷ edge 1 2 1 ∷ edge 2 3 1 ∷ edge 2 4 1 ∷ [];
      reads = (0 ∷ 2 ∷ 3 ∷ []) ∷ (1 ∷ 2 ∷ 4 ∷ []) ∷ [];
    }

abbrev pub X_cover : List Weighted
X_cover = once (0 ∷ 2 ∷ 3 ∷ []) ∷ once (1 ∷ 2 ∷ 4 ∷ []) ∷ []

X_marks : Marks ℤ
X_marks =
    record {
      into = mark_at (pos 10 ∷ pos 10 ∷ pos 10 ∷ pos 0 ∷ pos 0 ∷ []);
      out = mark_at (pos 10 ∷ pos 10 ∷ pos 0 ∷ pos 0 ∷ pos 0 ∷ []);
    }

pub X_formed : WellFormed X
X_formed =
    record {
      rises = (omega arith, (omega arith, (omega arith, (omega arith, tt))));
      once = (
        (ends_differ 0 2 1 2 (λ h k. omega arith), (ends_differ 0 2 2 3 (λ h k. omega arith), (ends_differ 0 2 2 4 (λ h k. omega arith), tt))),
        (
          (ends_differ 1 2 2 3 (λ h k. omega arith), (ends_differ 1 2 2 4 (λ h k. omega arith), tt)),
          ((ends_differ 2 3 2 4 (λ h k. omega arith), tt), (tt, tt)),
        ),
      );
      reads_linked = ((omega arith, tt), ((omega arith, tt), tt));
    }

X_covers : IsCover X X_cover
X_covers =
    record {
      are_paths = (tt, (tt, tt));
      weights = (omega arith, (omega arith, tt));
      distinct = ((differ_first 0 1 (2 ∷ 3 ∷ []) (2 ∷ 4 ∷ []) (λ e. omega arith), tt), (tt, tt));
      demands_met = (
        omega arith,
        (omega arith, (omega arith, (omega arith, (omega arith, (omega arith, (omega arith, (omega arith, (omega arith, tt)))))))),
      );
      reads_met = (tt, (tt, tt));
    }

X_shown : Shows whole X X_marks X_cover
unfolding X_marks bound prepare longest join_at overlap
X_shown = (record { vertices_hold = (tt, (tt, (tt, (tt, (tt, tt))))); arcs_hold = (tt, (tt, (tt, (tt, tt)))) }, refl)

-- "price 24, those two paths"
pub X_price : price whole X X_cover ≡ pos 24
X_price = refl

pub X_lowest : IsLowest whole X X_cover
X_lowest = shown_is_lowest whole whole_ordered X X_formed X_marks X_cover X_covers X_shown

-- "Meeting a read by visiting its vertices with others between": 0 1 2 3 does not hold the read 0 2 3
pub visiting_is_not_holding : holds (0 ∷ 1 ∷ 2 ∷ 3 ∷ []) (0 ∷ 2 ∷ 3 ∷ []) ≡ false
visiting_is_not_holding = refl
