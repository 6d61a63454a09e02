-- The vertices of a path or a read are vertices of the graph, and since numbers rise a path has no more vertices than the graph.
use Rattle.std.proofs.Common.{ℕ, suc, ◌+◌, ◌≤◌, ◌<◌, arith, List, [], ◌∷◌, T, ltb, lt→ltb, length}
use Rattle.mathematics.specs.Lists.{All, last_of}
use Rattle.mathematics.specs.Graph.{Graph, WellFormed, linked, is_path}
use Rattle.mathematics.proofs.Basics.{and_in}
use Rattle.mathematics.proofs.Reach.{linked_first, linked_rest, arc_rises, start_below, path_start, path_linked}
use Rattle.forms.specs.GraphFaults.{all_below}

pub all_below_lem : (n : ℕ) (p : List ℕ) → All (λ v. v < n) p → T (all_below n p)
all_below_lem n [] h = tt
all_below_lem n (v ∷ p) h = and_in (ltb v n) (all_below n p) (lt→ltb v n h.0) (all_below_lem n p h.1)

pub all_last : (Q : ℕ → Type 0) (v : ℕ) (p : List ℕ) → All Q (v ∷ p) → Q (last_of v p)
all_last Q v [] h = h.0
all_last Q v (w ∷ p) h = all_last Q w p h.1

module _ {E : Type 0} (G : Graph E) (g : WellFormed G) where
  -- from a vertex on, linked vertices stay below n and rise
  pub linked_inside : (v : ℕ) (p : List ℕ) → v < length G.vertices → T (linked G.arcs (v ∷ p)) →
      All (λ w. w < length G.vertices) (v ∷ p) × (v + length (v ∷ p) ≤ length G.vertices)
  linked_inside v [] h l = ((h, tt), omega arith)
  linked_inside v (w ∷ p) h l =
      let r = arc_rises (length G.vertices) G.arcs v w g.rises (linked_first G.arcs v w p l) in
      let more = linked_inside w p r.1 (linked_rest G.arcs v w p l) in
      ((h, more.0), (let a : v < w = r.0 in let b : w + suc (length p) ≤ length G.vertices = more.1 in omega arith))

  pub read_inside : (r : List ℕ) → 2 ≤ length r → T (linked G.arcs r) → All (λ w. w < length G.vertices) r
  read_inside [] few l = absurd (omega arith)
  read_inside (v ∷ []) few l = absurd (omega arith)
  read_inside (v ∷ w ∷ p) few l =
      let r = arc_rises (length G.vertices) G.arcs v w g.rises (linked_first G.arcs v w p l) in
      (linked_inside v (w ∷ p) (let a : v < w = r.0 in let b : w < length G.vertices = r.1 in omega arith) l).0

  -- a path's vertices are the graph's, one or more and at most n
  pub path_inside : (p : List ℕ) → T (is_path G p) → All (λ w. w < length G.vertices) p × (1 ≤ length p) × (length p ≤ length G.vertices)
  path_inside [] t = absurd t
  path_inside (v ∷ p) t =
      let h = linked_inside v p (start_below G v (path_start G v p t)) (path_linked G v p t) in
      (h.0, omega arith, (let b : v + suc (length p) ≤ length G.vertices = h.1 in omega arith))
