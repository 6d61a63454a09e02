-- The lower bound: where no slack is below 0, no cover of the graph costs less than the bound; and when a list of weighted paths meets the bound.
use Prim.Native.Nat.{ℕ, ◌≤◌}
use native.Mathlib.Omega.{arith}
use mathlib.Core.Path.{◌≡◌, refl, sym, ap, subst, subst₂, ◌∙◌}
use mathlib.Core.List.{List, [], ◌∷◌}
use mathlib.Core.Logic.{◌⊎◌, inl, inr}
use lib.Dec.{T}
use lib.ListN.{length}
use Rattle.mathematics.specs.Price.{Prices, Le, times, Ordered, sum_by}
use Rattle.mathematics.specs.Lists.{All, last_of}
use Rattle.mathematics.specs.Graph.{Graph, is_path, linked, WellFormed}
use Rattle.mathematics.specs.Cover.{Item, Ask, asks, Weighted, total, IsCover, price}
use Rattle.mathematics.specs.Bound.{reads_through, Marks, start_slack, end_slack, SlacksHold, bound_with, bound, item_slack, slacks_at_ends}
use Rattle.mathematics.specs.Prepare.{prepare}
use Rattle.mathematics.specs.Range.{OneOf}
use Rattle.mathematics.proofs.Basics.{all_among, all_from, all_weaken}
use Rattle.mathematics.proofs.Algebra
use Rattle.mathematics.proofs.Reach.{path_start, path_end_lem}
use Rattle.mathematics.proofs.Prepared.{prepared_independent, prepared_linked, cover_can_hold_prepared}
use Rattle.mathematics.proofs.Room.{room_for_reads}
use Rattle.mathematics.proofs.Items.{asks_known}
use Rattle.mathematics.proofs.Telescope.{start_slack_holds, end_slack_holds, item_slack_holds}
use Rattle.mathematics.proofs.Totals.{owed, counted_sum, price_from_slacks, bound_from_slacks}

-- the start slack of the path's first vertex and the end slack of its last are nothing
abbrev pub EndsMeet : (P : Prices) → Graph P.El → Marks P.El → List ℕ → Type 0
EndsMeet P G m [] = Unit {0}
EndsMeet P G m (v ∷ p) = (start_slack P G m v ≡ P.nil) × (end_slack P m (last_of v p) ≡ P.nil)

-- every cover of the graph has room for the prepared reads, since a cover with the same totals holds them
room_for_prepared : {E : Type 0} (G : Graph E) → WellFormed G → (W : List Weighted) → IsCover G W → (i : Item) → reads_through i (prepare G.reads) ≤ total i W
room_for_prepared G g W c i =
    let (U, held, same, copies) = cover_can_hold_prepared G g W c in
    subst (λ n. reads_through i (prepare G.reads) ≤ n) (same i) (room_for_reads G g (prepare G.reads) U (prepared_independent G.reads) held i)

module _ (P : Prices) (L : Ordered P) (G : Graph P.El) (g : WellFormed G) (m : Marks P.El) where
  ends_hold : SlacksHold P G m → (p : List ℕ) → T (is_path G p) → Le P P.nil (slacks_at_ends P G m p)
  ends_hold s [] t = absurd t
  ends_hold s (v ∷ p) t =
      Algebra.nil_le_add P L (start_slack P G m v) (end_slack P m (last_of v p)) (start_slack_holds P L G m s v (path_start G v p t))
      (end_slack_holds P L G m s (last_of v p) (path_end_lem G v p t))

  -- the bound with rs for the prepared reads lies below each list of weighted paths that meets the demands and has room for rs
  pub bound_below : SlacksHold P G m → (rs : List (List ℕ)) → All (λ r. (2 ≤ length r) × T (linked G.arcs r)) rs → (W : List Weighted) →
      All (λ w. T (is_path G w.path)) W → All (λ a. a.demand ≤ total a.item W) (asks G) → ((i : Item) → reads_through i rs ≤ total i W) →
      Le P (bound_with P rs G m) (price P G W)
  bound_below s rs h W paths demands room =
      subst₂ (Le P) (sym (bound_from_slacks P L G m g rs h)) (sym (price_from_slacks P L G m g W paths))
      (L.le_trans asked held (P.add ends held)
      (Algebra.sum_le P L (λ a. times P (owed rs a) (item_slack P G m a.item))
      (λ a. times P (total a.item W) (item_slack P G m a.item)) (asks G) (all_from _ (asks G) each))
      (subst (Le P held) (L.add_comm held ends) (Algebra.le_add_more P L held ends ends_nil)))
    where
      asked : P.El
      asked = counted_sum P (item_slack P G m) G (λ a. owed rs a)

      held : P.El
      held = counted_sum P (item_slack P G m) G (λ a. total a.item W)

      ends : P.El
      ends = sum_by P (λ w. times P w.weight (slacks_at_ends P G m w.path)) W

      ends_nil : Le P P.nil ends
      ends_nil =
          Algebra.sum_holds P L (λ w. times P w.weight (slacks_at_ends P G m w.path)) W
          (all_weaken _ _ W (λ w t. Algebra.times_holds P L w.weight (slacks_at_ends P G m w.path) (ends_hold s w.path t)) paths)

      each : (a : Ask) → OneOf (asks G) a → Le P (times P (owed rs a) (item_slack P G m a.item)) (times P (total a.item W) (item_slack P G m a.item))
      each a k =
          let d : a.demand ≤ total a.item W = all_among (λ b. b.demand ≤ total b.item W) (asks G) a demands k in
          let r : reads_through a.item rs ≤ total a.item W = room a.item in
          Algebra.times_mono P L (owed rs a) (total a.item W) (item_slack P G m a.item) (omega arith)
          (item_slack_holds P L G m s g a.item (all_among (λ b. _) (asks G) a (asks_known G) k))

  -- "In that case no cover's price is below the bound; that is to be shown for covers of the original reads."
  pub bound_below_cover : SlacksHold P G m → (W : List Weighted) → IsCover G W → Le P (bound P G m) (price P G W)
  unfolding bound
  bound_below_cover s W c =
      bound_below s (prepare G.reads) (prepared_linked G g) W c.are_paths c.demands_met (room_for_prepared G g W c)

  -- a list of weighted paths meets the bound where each item's total is its rest and its reads or its slack is nothing, and so are the slacks at the ends
  pub bound_met : (rs : List (List ℕ)) → All (λ r. (2 ≤ length r) × T (linked G.arcs r)) rs → (W : List Weighted) →
      All (λ w. T (is_path G w.path)) W → All (λ w. EndsMeet P G m w.path) W →
      All (λ a. (total a.item W ≡ owed rs a) ⊎ (item_slack P G m a.item ≡ P.nil)) (asks G) →
      price P G W ≡ bound_with P rs G m
  bound_met rs h W paths ends meets =
      price_from_slacks P L G m g W paths ∙
      (ap (λ x. P.add x (counted_sum P (item_slack P G m) G (λ a. total a.item W))) no_ends ∙
      (Algebra.nil_add P L (counted_sum P (item_slack P G m) G (λ a. total a.item W)) ∙
      (Algebra.sum_equal P L _ _ (asks G) (all_weaken _ _ (asks G) each meets) ∙ sym (bound_from_slacks P L G m g rs h))))
    where
      at_path : (p : List ℕ) → EndsMeet P G m p → slacks_at_ends P G m p ≡ P.nil
      at_path [] e = refl
      at_path (v ∷ p) e = (λ i. P.add (e.0 i) (e.1 i)) ∙ L.add_nil P.nil

      no_ends : sum_by P (λ w. times P w.weight (slacks_at_ends P G m w.path)) W ≡ P.nil
      no_ends =
          Algebra.sum_equal P L _ (λ (w : Weighted). P.nil) W
          (all_weaken _ _ W (λ w e. ap (times P w.weight) (at_path w.path e) ∙ Algebra.times_nil P L w.weight) ends) ∙
          Algebra.sum_nil P L W

      each : (a : Ask) → (total a.item W ≡ owed rs a) ⊎ (item_slack P G m a.item ≡ P.nil) →
          times P (total a.item W) (item_slack P G m a.item) ≡ times P (owed rs a) (item_slack P G m a.item)
      each a (inl e) = ap (λ k. times P k (item_slack P G m a.item)) e
      each a (inr e) =
          ap (times P (total a.item W)) e ∙
          (Algebra.times_nil P L (total a.item W) ∙
          (sym (Algebra.times_nil P L (owed rs a)) ∙ ap (times P (owed rs a)) (sym e)))
