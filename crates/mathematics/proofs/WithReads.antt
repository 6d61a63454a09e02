-- The same graph with other reads: its paths are the same, and so are its covers as far as they satisfy those reads.
use Prim.Native.Nat.{ℕ}
use mathlib.Core.Path.{◌≡◌, refl, sym, ◌∙◌, subst}
use mathlib.Core.List.{List, [], ◌∷◌}
use lib.Dec.{T}
use Rattle.mathematics.specs.Lists.{All, some_holds}
use Rattle.mathematics.specs.Graph.{Graph, is_path}
use Rattle.mathematics.specs.Cover.{Weighted, IsCover, paths}
pub use Rattle.mathematics.specs.Graph.{with_reads}
use Rattle.mathematics.proofs.Basics.{all_weaken}

-- some path of W satisfies the read
abbrev pub Met : List Weighted → List ℕ → Type 0
Met W r = T (some_holds (paths W) r)

module _ {E : Type 0} (G : Graph E) where
  -- the reads have no say in what a path is
  pub path_with_reads : (rs : List (List ℕ)) (p : List ℕ) → is_path (with_reads G rs) p ≡ is_path G p
  path_with_reads rs [] = refl
  path_with_reads rs (v ∷ p) = refl

  -- a cover that satisfies other reads is a cover of the graph with those
  pub cover_with_reads : (rs rs' : List (List ℕ)) (W : List Weighted) → IsCover (with_reads G rs) W → All (Met W) rs' →
      IsCover (with_reads G rs') W
  cover_with_reads rs rs' W c h =
      record {
        are_paths = all_weaken (λ w. T (is_path (with_reads G rs) w.path)) (λ w. T (is_path (with_reads G rs') w.path)) W
            (λ (w : Weighted) t. subst T (path_with_reads rs w.path ∙ sym (path_with_reads rs' w.path)) t) c.are_paths;
        weights = c.weights;
        distinct = c.distinct;
        demands_met = c.demands_met;
        reads_met = h;
      }

  pub cover_paths : (rs : List (List ℕ)) (W : List Weighted) → IsCover (with_reads G rs) W → All (λ w. T (is_path G w.path)) W
  cover_paths rs W c =
      all_weaken (λ w. T (is_path (with_reads G rs) w.path)) (λ w. T (is_path G w.path)) W
      (λ (w : Weighted) t. subst T (path_with_reads rs w.path) t) c.are_paths
