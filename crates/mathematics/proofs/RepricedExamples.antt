-- #108's own example, evaluated: "With arcs 0-1 and 1-2 at the top cost, and 0 and 2 each start and end with demand 1, two single-vertex paths cost 2,000,000
-- and the one path 3,000,000." By plain numbers the two paths win; by pairs the one path does, which has fewer copies.
use Prim.Native.Nat.{ℕ, zero, suc, ◌≤◌}
use mathlib.Core.Path.{◌≡◌, refl}
use mathlib.Core.List.{List, [], ◌∷◌}
use mathlib.Core.Bool.{true, false}
use native.Mathlib.Omega.{arith}
use lib.IntN.{ℤ, pos}
use Rattle.mathematics.specs.Price.{whole, pairs}
use Rattle.mathematics.specs.Graph.{Graph, WellFormed}
use Rattle.mathematics.specs.Cover.{Weighted, IsCover, price, IsLowest}
use Rattle.mathematics.specs.Prepare.{prepare}
use Rattle.mathematics.specs.Bound.{bound}
use Rattle.mathematics.specs.Repriced.{fewest_first, plain, FewestThenCheapest}
use Rattle.mathematics.proofs.PriceKinds.{whole_ordered, pairs_ordered}
use Rattle.mathematics.proofs.Lowest.{shown_is_lowest}
use Rattle.mathematics.proofs.Repriced.{repriced_formed, repriced_cover, fewest_lowest}
use Rattle.mathematics.proofs.Examples.{vertex, edge, once, differ_first, ends_differ}

-- the graph, at the opening price that document 01 sets for orders that want fewest copies first
abbrev pub F : Graph ℤ
F =
    record {
      opening = pos 1_000_000;
      vertices = vertex true true ∷ record { start = false; end = false; demand = 0 } ∷ vertex true true ∷ [];
      arcs = edge 0 1 1_000_000 ∷ edge 1 2 1_000_000 ∷ [];
      reads = [];
    }

abbrev pub two_paths : List Weighted
two_paths = once (0 ∷ []) ∷ once (2 ∷ []) ∷ []

abbrev pub one_path : List Weighted
one_path = once (0 ∷ 1 ∷ 2 ∷ []) ∷ []

F_formed : WellFormed F
F_formed =
    record {
      rises = (omega arith, (omega arith, tt));
      once = ((ends_differ 0 1 1 2 (λ h k. omega arith), tt), (tt, tt));
      reads_linked = tt;
    }

two_cover : IsCover F two_paths
two_cover =
    record {
      are_paths = (tt, (tt, tt));
      weights = (omega arith, (omega arith, tt));
      distinct = ((differ_first 0 2 [] [] (λ e. omega arith), tt), (tt, tt));
      demands_met = (omega arith, (omega arith, (omega arith, (omega arith, (omega arith, tt)))));
      reads_met = tt;
    }

one_cover : IsCover F one_path
one_cover =
    record {
      are_paths = (tt, tt);
      weights = (omega arith, tt);
      distinct = (tt, tt);
      demands_met = (omega arith, (omega arith, (omega arith, (omega arith, (omega arith, tt)))));
      reads_met = tt;
    }

-- ---- by plain numbers

-- "two single-vertex paths cost 2,000,000 and the one path 3,000,000"
pub two_paths_price : price whole F two_paths ≡ pos 2_000_000
two_paths_price = refl

pub one_path_price : price whole F one_path ≡ pos 3_000_000
one_path_price = refl

-- the marks of vertices 0, 1 and 2
abbrev marked : {E : Type 0} → E → E → E → ℕ → E
marked a b c zero = a
marked a b c (suc zero) = b
marked a b c (suc (suc v)) = c

-- so by plain numbers the two paths are of lowest price,
pub two_paths_lowest : IsLowest whole F two_paths
unfolding bound prepare
two_paths_lowest =
    shown_is_lowest whole whole_ordered F F_formed
    (record { into = marked (pos 1_000_000) (pos 0) (pos 1_000_000); out = marked (pos 0) (pos 0) (pos 0) }) two_paths two_cover
    (record { vertices_hold = (tt, (tt, (tt, tt))); arcs_hold = (tt, (tt, tt)) }, refl)

-- which are not the fewest: "Document 01's setting of 1,000,000 is wrong."
pub two_paths_not_fewest : FewestThenCheapest F two_paths → ⊥
two_paths_not_fewest b = let l : 2 ≤ 1 = b.fewest one_path one_cover in omega arith

-- ---- by pairs

pub two_paths_pair : price pairs (fewest_first F) two_paths ≡ record { first = pos 2; second = pos 0 }
two_paths_pair = refl

pub one_path_pair : price pairs (fewest_first F) one_path ≡ record { first = pos 1; second = pos 2_000_000 }
one_path_pair = refl

-- by fewest first the one path wins
pub one_path_lowest : IsLowest pairs (fewest_first F) one_path
unfolding bound prepare
one_path_lowest =
    shown_is_lowest pairs pairs_ordered (fewest_first F) (repriced_formed plain (record { first = pos 1; second = pos 0 }) F F_formed)
    (record {
      into = marked (record { first = pos 1; second = pos 0 }) (plain (pos 1_000_000)) (plain (pos 2_000_000));
      out = marked (plain (pos 0)) (plain (pos 1_000_000)) (plain (pos 0));
    })
    one_path ((repriced_cover plain (record { first = pos 1; second = pos 0 }) F one_path).1 one_cover)
    (record { vertices_hold = (tt, (tt, (tt, tt))); arcs_hold = (tt, (tt, tt)) }, refl)

pub one_path_fewest : FewestThenCheapest F one_path
one_path_fewest = (fewest_lowest F one_path).0 one_path_lowest
