-- #113, evaluated: each of the changes can raise the lowest price, so "doesn't fall" is no empty promise; and a read that leaves it as it is, and reads in
-- another order. D costs 34 and L and X cost 24, as document 01 says; the prices after a change are held against the definitions here.
use Prim.Native.Nat.{ℕ}
use mathlib.Core.Path.{refl}
use mathlib.Core.List.{List, [], ◌∷◌, tail-eq_of_cons-eq}
use native.Mathlib.Omega.{arith}
use lib.IntN.{ℤ, pos, negsuc}
use Rattle.mathematics.specs.Price.{whole}
use Rattle.mathematics.specs.Lists.{Distinct}
use Rattle.mathematics.specs.Graph.{Graph, WellFormed, with_reads}
use Rattle.mathematics.specs.Cover.{Weighted, paths, IsCover, price}
use Rattle.mathematics.specs.Prepare.{prepare, overlap, longest, join_at}
use Rattle.mathematics.specs.Bound.{Marks, bound, Shows}
use Rattle.mathematics.specs.Direction.{LowestPrice, vertex_demand_raised, arc_demand_raised, arc_cost_raised, opening_raised, read_added, Reordered}
use Rattle.mathematics.proofs.PriceKinds.{whole_ordered}
use Rattle.mathematics.proofs.Lowest.{shown_is_lowest}
use Rattle.mathematics.proofs.Direction.{reads_reordered}
use Rattle.mathematics.proofs.Examples.{
  once,
  mark_at,
  differ_first,
  differ_second,
  D,
  D_cover,
  D_marks,
  D_formed,
  D_price,
  D_lowest,
  L,
  L_cover,
  L_price,
  L_lowest,
  X,
  X_cover,
  X_formed,
  X_price,
  X_lowest,
}

-- what marks show is the lowest price
shown_price : (G : Graph ℤ) → WellFormed G → (m : Marks ℤ) (W : List Weighted) → IsCover G W → Shows whole G m W → LowestPrice whole G (price whole G W)
shown_price G g m W c s = (W, shown_is_lowest whole whole_ordered G g m W c s, refl)

pub D_costs_34 : LowestPrice whole D (pos 34)
D_costs_34 = (D_cover, D_lowest, D_price)

pub X_costs_24 : LowestPrice whole X (pos 24)
X_costs_24 = (X_cover, X_lowest, X_price)

-- so many copies of 0 1 3, and one of 0 2 3
abbrev copies : ℕ → List Weighted
copies k = record { weight = k; path = 0 ∷ 1 ∷ 3 ∷ [] } ∷ once (0 ∷ 2 ∷ 3 ∷ []) ∷ []

copies_distinct : (k : ℕ) → Distinct (paths (copies k))
copies_distinct k = ((differ_second 0 1 2 (3 ∷ []) (3 ∷ []) (λ e. omega arith), tt), (tt, tt))

-- in- and out-marks of 0 and 3 and those of 1 and 2 between them
abbrev marks_of_d : ℤ → ℤ → ℤ → ℤ → ℤ → Marks ℤ
marks_of_d first in1 out1 in2 out2 = record { into = mark_at (first ∷ in1 ∷ in2 ∷ pos 0 ∷ []); out = mark_at (first ∷ out1 ∷ out2 ∷ pos 0 ∷ []) }

-- vertex 1 asked for twice, not once: 50
pub vertex_demand_raises : LowestPrice whole (vertex_demand_raised 1 1 D) (pos 50)
unfolding bound prepare
vertex_demand_raises =
    shown_price (vertex_demand_raised 1 1 D) (record { rises = D_formed.rises; once = D_formed.once; reads_linked = tt }) (D_marks) (copies 2)
    (record {
      are_paths = (tt, (tt, tt));
      weights = (omega arith, (omega arith, tt));
      distinct = copies_distinct 2;
      demands_met = (omega arith, (omega arith, (omega arith, (omega arith, (omega arith, (omega arith, (omega arith, (omega arith, tt))))))));
      reads_met = tt;
    })
    (record { vertices_hold = (tt, (tt, (tt, (tt, tt)))); arcs_hold = (tt, (tt, (tt, (tt, tt)))) }, refl)

-- document 01: "D with demand 3 on arc 0-1: price 66 (3 copies of 0 1 3, 1 of 0 2 3)"
pub arc_demand_raises : LowestPrice whole (arc_demand_raised 0 3 D) (pos 66)
unfolding bound prepare
arc_demand_raises =
    shown_price (arc_demand_raised 0 3 D) (record { rises = D_formed.rises; once = D_formed.once; reads_linked = tt }) (marks_of_d (pos 10) (negsuc 3) (negsuc 3) (pos 13) (negsuc 4)) (copies 3)
    (record {
      are_paths = (tt, (tt, tt));
      weights = (omega arith, (omega arith, tt));
      distinct = copies_distinct 3;
      demands_met = (omega arith, (omega arith, (omega arith, (omega arith, (omega arith, (omega arith, (omega arith, (omega arith, tt))))))));
      reads_met = tt;
    })
    (record { vertices_hold = (tt, (tt, (tt, (tt, tt)))); arcs_hold = (tt, (tt, (tt, (tt, tt)))) }, refl)

-- arc 0-1 at cost 7, not 2: 39
pub arc_cost_raises : LowestPrice whole (arc_cost_raised whole 0 (pos 5) D) (pos 39)
unfolding bound prepare
arc_cost_raises =
    shown_price (arc_cost_raised whole 0 (pos 5) D) (record { rises = D_formed.rises; once = D_formed.once; reads_linked = tt }) (marks_of_d (pos 10) (pos 17) (negsuc 3) (pos 13) (negsuc 4)) (copies 1)
    (record {
      are_paths = (tt, (tt, tt));
      weights = (omega arith, (omega arith, tt));
      distinct = copies_distinct 1;
      demands_met = (omega arith, (omega arith, (omega arith, (omega arith, (omega arith, (omega arith, (omega arith, (omega arith, tt))))))));
      reads_met = tt;
    })
    (record { vertices_hold = (tt, (tt, (tt, (tt, tt)))); arcs_hold = (tt, (tt, (tt, (tt, tt)))) }, refl)

-- opening price 11, not 10: 36
pub opening_raises : LowestPrice whole (opening_raised whole (pos 1) D) (pos 36)
unfolding bound prepare
opening_raises =
    shown_price (opening_raised whole (pos 1) D) (record { rises = D_formed.rises; once = D_formed.once; reads_linked = tt }) (marks_of_d (pos 11) (pos 13) (negsuc 3) (pos 14) (negsuc 4)) (copies 1)
    (record {
      are_paths = (tt, (tt, tt));
      weights = (omega arith, (omega arith, tt));
      distinct = copies_distinct 1;
      demands_met = (omega arith, (omega arith, (omega arith, (omega arith, (omega arith, (omega arith, (omega arith, (omega arith, tt))))))));
      reads_met = tt;
    })
    (record { vertices_hold = (tt, (tt, (tt, (tt, tt)))); arcs_hold = (tt, (tt, (tt, (tt, tt)))) }, refl)

-- the read 0 2 4 added between the two of X: 36, since no two of the three reads lie on one path
pub read_raises : LowestPrice whole (read_added 1 (0 ∷ 2 ∷ 4 ∷ []) X) (pos 36)
unfolding bound prepare longest join_at overlap
read_raises =
    shown_price (read_added 1 (0 ∷ 2 ∷ 4 ∷ []) X)
    (record { rises = X_formed.rises; once = X_formed.once; reads_linked = ((omega arith, tt), ((omega arith, tt), ((omega arith, tt), tt))) })
    (record { into = mark_at (pos 10 ∷ pos 10 ∷ pos 10 ∷ pos 0 ∷ pos 0 ∷ []); out = mark_at (pos 10 ∷ pos 10 ∷ pos 0 ∷ pos 0 ∷ pos 0 ∷ []) })
    (once (0 ∷ 2 ∷ 3 ∷ []) ∷ once (0 ∷ 2 ∷ 4 ∷ []) ∷ once (1 ∷ 2 ∷ 4 ∷ []) ∷ [])
    (record {
      are_paths = (tt, (tt, (tt, tt)));
      weights = (omega arith, (omega arith, (omega arith, tt)));
      distinct = (
        (
          λ e. differ_second 2 3 4 [] [] (λ d. omega arith) (tail-eq_of_cons-eq e),
          (differ_first 0 1 (2 ∷ 3 ∷ []) (2 ∷ 4 ∷ []) (λ e. omega arith), tt),
        ),
        ((differ_first 0 1 (2 ∷ 4 ∷ []) (2 ∷ 4 ∷ []) (λ e. omega arith), tt), (tt, tt)),
      );
      demands_met = (
        omega arith,
        (omega arith, (omega arith, (omega arith, (omega arith, (omega arith, (omega arith, (omega arith, (omega arith, tt)))))))),
      );
      reads_met = (tt, (tt, (tt, tt)));
    })
    (record { vertices_hold = (tt, (tt, (tt, (tt, (tt, tt))))); arcs_hold = (tt, (tt, (tt, (tt, tt)))) }, refl)

-- document 01: "D with read 0 1 3: price 34, same marks accepted": a read that changes nothing
pub read_kept : LowestPrice whole (read_added 0 (0 ∷ 1 ∷ 3 ∷ []) D) (pos 34)
unfolding bound prepare longest join_at overlap
read_kept =
    shown_price (read_added 0 (0 ∷ 1 ∷ 3 ∷ []) D) (record { rises = D_formed.rises; once = D_formed.once; reads_linked = ((omega arith, tt), tt) }) D_marks
    (copies 1)
    (record {
      are_paths = (tt, (tt, tt));
      weights = (omega arith, (omega arith, tt));
      distinct = copies_distinct 1;
      demands_met = (omega arith, (omega arith, (omega arith, (omega arith, (omega arith, (omega arith, (omega arith, (omega arith, tt))))))));
      reads_met = (tt, tt);
    })
    (record { vertices_hold = (tt, (tt, (tt, (tt, tt)))); arcs_hold = (tt, (tt, (tt, (tt, tt)))) }, refl)

-- L with its last read first and its first read last: 24 as before
pub reordered_kept : LowestPrice whole (with_reads L ((1 ∷ 2 ∷ 3 ∷ []) ∷ (2 ∷ 4 ∷ []) ∷ (0 ∷ 1 ∷ 2 ∷ []) ∷ [])) (pos 24)
reordered_kept =
    let last-first : Reordered L.reads ((1 ∷ 2 ∷ 3 ∷ []) ∷ (2 ∷ 4 ∷ []) ∷ (0 ∷ 1 ∷ 2 ∷ []) ∷ []) =
    ((1 ∷ 2 ∷ 3 ∷ []) ∷ (2 ∷ 4 ∷ []) ∷ [], [], refl, ((1 ∷ 2 ∷ 3 ∷ []) ∷ [], [], refl, ([], [], refl, refl))) in
    (reads_reordered whole whole_ordered L ((1 ∷ 2 ∷ 3 ∷ []) ∷ (2 ∷ 4 ∷ []) ∷ (0 ∷ 1 ∷ 2 ∷ []) ∷ []) last-first (pos 24)).0 (L_cover, L_lowest, L_price)
