-- #112, the test as it is made: a barred graph that is a counting graph is priced, and its lowest price decides whether the candidate is safe.
use Prim.Native.Nat.{ℕ, ◌<◌}
use native.Mathlib.Omega.{arith}
use mathlib.Core.List.{List, [], ◌∷◌}
use mathlib.Core.Logic.{◌⊎◌, inl, inr, ◌↔◌}
use lib.Dec.{T, ltb, ltb→lt, nltb→le, not_T}
use lib.ListN.{length}
use lib.IntN.{ℤ, pos}
use Rattle.mathematics.specs.Price.{whole}
use Rattle.mathematics.specs.Lists.{All}
use Rattle.mathematics.specs.Graph.{Graph, WellFormed, Rises, linked}
use Rattle.mathematics.specs.Cover.{Weighted, IsCover}
use Rattle.mathematics.specs.Direction.{LowestPrice}
use Rattle.mathematics.specs.Safe.{Safe}
use Rattle.mathematics.specs.Barred.{turned, Barred}
use Rattle.mathematics.specs.Counting.{Counting}
use Rattle.mathematics.proofs.Basics.{test}
use Rattle.mathematics.proofs.Avoid.{safe_iff_barred}
use Rattle.mathematics.proofs.Counting.{cover_of_paths, least_paths_is_lowest_price}

module _ (G H : Graph ℤ) (g : WellFormed G) (up : All (Rises (length H.vertices)) H.arcs) (z y : ℕ) (back : List ℕ)
    (barred : Barred G z (y ∷ back) H) (joined : T (linked G.arcs (turned (y ∷ back) (z ∷ [])))) (counts : Counting H) (most : ℕ)
    (safe : Safe G most (turned (y ∷ back) [])) where
  -- where the barred graph has a lowest price, the candidate is safe exactly when that is above the number of paths allowed,
  pub safe_iff_dearer : (k : ℕ) → LowestPrice whole H (pos k) → Safe G most (turned (y ∷ back) (z ∷ [])) ↔ (most < k)
  safe_iff_dearer k low = (λ s. there s (test (ltb most k)), back_again)
    where
      there : Safe G most (turned (y ∷ back) (z ∷ [])) → T (ltb most k) ⊎ (T (ltb most k) → ⊥) → most < k
      there s (inl t) = ltb→lt most k t
      there s (inr f) =
          let (R, c) = ((least_paths_is_lowest_price H counts k).0 low most).1 (nltb→le most k (not_T (ltb most k) f)) in
          absurd ((safe_iff_barred G H g up z y back barred joined most safe).0 s R c)

      back_again : most < k → Safe G most (turned (y ∷ back) (z ∷ []))
      back_again l =
          (safe_iff_barred G H g up z y back barred joined most safe).1
          (λ R c. let h = ((least_paths_is_lowest_price H counts k).0 low most).0 (R, c) in omega arith)

  -- and where it has no cover, the candidate is safe
  pub safe_where_no_cover : ((W : List Weighted) → IsCover H W → ⊥) → Safe G most (turned (y ∷ back) (z ∷ []))
  safe_where_no_cover none =
      (safe_iff_barred G H g up z y back barred joined most safe).1 (λ R c. let (W, w, l) = cover_of_paths H counts most R c in none W w)
