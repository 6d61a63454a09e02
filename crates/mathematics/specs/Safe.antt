-- Document 02, #112, "Safe stretches": "Document 004 calls a path safe when it is a stretch of some path in every cover that uses at most a given number of
-- paths, starts and ends in the allowed vertices and touches every vertex; demands, reads and prices don't count here."
use Rattle.std.specs.Prelude.{ℕ, ◌≤◌, ◌<◌, List, [], ◌∷◌, T, length}
use Rattle.mathematics.specs.Lists.{All, holds, some_holds}
use Rattle.mathematics.specs.Graph.{Graph, linked, is_path}

module _ {E : Type 0} where
  -- "cover that uses at most a given number of paths, starts and ends in the allowed vertices and touches every vertex": a path of the graph begins at a
  -- start and ends at an end, and a vertex is touched by a path that holds it. A path that stands twice counts twice; without it there are fewer.
  pub record PathCover (G : Graph E) (most : ℕ) (Q : List (List ℕ)) : Type 0 where
    pub are_paths : All (λ p. T (is_path G p)) Q
    pub few : length Q ≤ most
    pub touched : (v : ℕ) → v < length G.vertices → T (some_holds Q (v ∷ []))

  -- "a stretch of some path in every cover"
  abbrev pub Safe : Graph E → ℕ → List ℕ → Type 0
  Safe G most p = (Q : List (List ℕ)) → PathCover G most Q → T (some_holds Q p)

  -- "calls a path safe": one vertex or more, each consecutive pair an arc; it need not begin at a start or end at an end
  pub record SafeStretch (G : Graph E) (most : ℕ) (p : List ℕ) : Type 0 where
    pub some : 1 ≤ length p
    pub stretch : T (linked G.arcs p)
    pub safe : Safe G most p

  -- "every safe stretch not contained in a longer one"
  pub record MaximalSafe (G : Graph E) (most : ℕ) (p : List ℕ) : Type 0 where
    pub safe_stretch : SafeStretch G most p
    pub longest : (q : List ℕ) → SafeStretch G most q → T (holds q p) → length q ≤ length p
