-- Lowest price and marks: a cover is of lowest price exactly when marks show it, that is, no slack is below 0 and the bound equals its price;
-- and the marks of one lowest-price cover show every other. This is why a checker that looks for equality accepts neither too much nor too little.
use mathlib.Core.Path.{◌≡◌, sym, subst, ◌∙◌}
use mathlib.Core.List.{List}
use mathlib.Core.Logic.{◌↔◌}
use Rattle.mathematics.specs.Price.{Prices, Le, Ordered}
use Rattle.mathematics.specs.Graph.{Graph, WellFormed}
use Rattle.mathematics.specs.Cover.{Weighted, IsCover, price, IsLowest}
use Rattle.mathematics.specs.Bound.{Marks}
use Rattle.mathematics.specs.Range.{CostsHold}
pub use Rattle.mathematics.specs.Bound.{Shows}
use Rattle.mathematics.proofs.LowerBound.{bound_below_cover}
use Rattle.mathematics.proofs.Existence.{cover_shows_coverable}
use Rattle.mathematics.proofs.Duality.{strong_duality}

module _ (P : Prices) (L : Ordered P) (G : Graph P.El) where
  -- two covers of lowest price have the same price
  pub lowest_prices_equal : (U W : List Weighted) → IsLowest P G U → IsLowest P G W → price P G U ≡ price P G W
  lowest_prices_equal U W u w = L.le_antisym (price P G U) (price P G W) (u.lowest W w.cover) (w.lowest U u.cover)

  -- the marks of one lowest-price cover serve every lowest-price cover
  pub same_marks_serve : (m : Marks P.El) (U W : List Weighted) → IsLowest P G U → IsLowest P G W → Shows P G m U → Shows P G m W
  same_marks_serve m U W u w s = (s.0, s.1 ∙ lowest_prices_equal U W u w)

  module _ (g : WellFormed G) where
    -- what marks show is lowest
    pub shown_is_lowest : (m : Marks P.El) (W : List Weighted) → IsCover G W → Shows P G m W → IsLowest P G W
    shown_is_lowest m W c s =
        record { cover = c; lowest = λ U u. subst (λ x. Le P x (price P G U)) s.1 (bound_below_cover P L G g m s.0 U u) }

    module _ (costs : CostsHold P G) where
      -- where there is a cover, marks show some cover
      pub some_marks_show : (W : List Weighted) → IsCover G W → (U : List Weighted) × (m : Marks P.El) × IsCover G U × Shows P G m U
      some_marks_show W c =
          let b = strong_duality P L G g costs (cover_shows_coverable G W c) in
          (b.cover, b.marks, b.is_cover, (b.slacks_hold, sym b.price_is_bound))

      -- a cover is of lowest price exactly when some marks show it
      pub lowest_iff_marks : (W : List Weighted) → IsLowest P G W ↔ (IsCover G W × ((m : Marks P.El) × Shows P G m W))
      lowest_iff_marks W = (
        λ w.
            let (U, m, c, s) = some_marks_show W w.cover in
            (w.cover, (m, same_marks_serve m U W (shown_is_lowest m U c s) w s)),
        λ h. shown_is_lowest h.1.0 W h.0 h.1.1,
      )
