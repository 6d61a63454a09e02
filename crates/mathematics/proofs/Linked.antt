-- Linked lists and paths cut at a vertex: two that pass the same vertex may exchange their ends, and together they pass what they passed before.
use Prim.Native.Nat.{ℕ, ◌+◌, ◌≤◌, ◌<◌}
use native.Mathlib.Omega.{arith}
use mathlib.Core.Path.{◌≡◌, sym, subst}
use mathlib.Core.List.{List, [], ◌∷◌, ◌++◌}
use mathlib.Core.Bool.{true}
use lib.Dec.{T}
use lib.ListN.{length}
use Rattle.mathematics.specs.Lists.{All, last_of, Rising}
use Rattle.mathematics.specs.Graph.{Arc, Graph, Rises, WellFormed, is_start, is_end, has_arc, linked, is_path}
use Rattle.mathematics.specs.Cover.{Item, through}
use Rattle.mathematics.proofs.Basics.{and_in, all_weaken}
use Rattle.mathematics.proofs.Reach.{last_append, linked_first, linked_rest, arc_rises, path_start, path_linked, path_end_lem, path_from_parts}
use Rattle.mathematics.proofs.Parts.{Within}

-- the first of the list, or v where it is empty
abbrev first_of : ℕ → List ℕ → ℕ
first_of v [] = v
first_of v (u ∷ l) = u

module _ {E : Type 0} where
  pub linked_to : (arcs : List (Arc E)) (l : List ℕ) (v : ℕ) (r : List ℕ) → T (linked arcs (l ++ (v ∷ r))) → T (linked arcs (l ++ (v ∷ [])))
  linked_to arcs [] v r h = tt
  linked_to arcs (u ∷ []) v r h = and_in (has_arc arcs u v) true (linked_first arcs u v r h) tt
  linked_to arcs (u ∷ w ∷ l) v r h =
      and_in (has_arc arcs u w) (linked arcs (w ∷ (l ++ (v ∷ [])))) (linked_first arcs u w (l ++ (v ∷ r)) h)
      (linked_to arcs (w ∷ l) v r (linked_rest arcs u w (l ++ (v ∷ r)) h))

  pub linked_from : (arcs : List (Arc E)) (l : List ℕ) (v : ℕ) (r : List ℕ) → T (linked arcs (l ++ (v ∷ r))) → T (linked arcs (v ∷ r))
  linked_from arcs [] v r h = h
  linked_from arcs (u ∷ []) v r h = linked_rest arcs u v r h
  linked_from arcs (u ∷ w ∷ l) v r h = linked_from arcs (w ∷ l) v r (linked_rest arcs u w (l ++ (v ∷ r)) h)

  pub linked_join : (arcs : List (Arc E)) (l : List ℕ) (v : ℕ) (r : List ℕ) → T (linked arcs (l ++ (v ∷ []))) → T (linked arcs (v ∷ r)) →
      T (linked arcs (l ++ (v ∷ r)))
  linked_join arcs [] v r h k = k
  linked_join arcs (u ∷ []) v r h k = and_in (has_arc arcs u v) (linked arcs (v ∷ r)) (linked_first arcs u v [] h) k
  linked_join arcs (u ∷ w ∷ l) v r h k =
      and_in (has_arc arcs u w) (linked arcs (w ∷ (l ++ (v ∷ r)))) (linked_first arcs u w (l ++ (v ∷ [])) h)
      (linked_join arcs (w ∷ l) v r (linked_rest arcs u w (l ++ (v ∷ [])) h) k)

  -- numbers rise along arcs
  pub linked_rising : (n : ℕ) (arcs : List (Arc E)) → All (Rises n) arcs → (p : List ℕ) → T (linked arcs p) → Rising p
  linked_rising n arcs up [] h = tt
  linked_rising n arcs up (v ∷ []) h = (tt, tt)
  linked_rising n arcs up (u ∷ v ∷ p) h =
      let more = linked_rising n arcs up (v ∷ p) (linked_rest arcs u v p h) in
      let here = (arc_rises n arcs u v up (linked_first arcs u v p h)).0 in
      ((here, all_weaken (λ w. v < w) (λ w. u < w) p (λ w k. omega arith) more.0), more)

module _ {E : Type 0} (G : Graph E) where
  path_is_linked : (p : List ℕ) → T (is_path G p) → T (linked G.arcs p)
  path_is_linked [] h = tt
  path_is_linked (s ∷ p) h = path_linked G s p h

  pub path_rising : WellFormed G → (p : List ℕ) → T (is_path G p) → Rising p
  path_rising wf p h = linked_rising (length G.vertices) G.arcs wf.rises p (path_is_linked p h)

  path_first : (l : List ℕ) (v : ℕ) (r : List ℕ) → T (is_path G (l ++ (v ∷ r))) → T (is_start G (first_of v l))
  path_first [] v r h = path_start G v r h
  path_first (u ∷ l) v r h = path_start G u (l ++ (v ∷ r)) h

  path_last : (l : List ℕ) (v : ℕ) (r : List ℕ) → T (is_path G (l ++ (v ∷ r))) → T (is_end G (last_of v r))
  path_last [] v r h = path_end_lem G v r h
  path_last (u ∷ l) v r h = subst (λ (w : ℕ). T (is_end G w)) (last_append u l (v ∷ r)) (path_end_lem G u (l ++ (v ∷ r)) h)

  path_of_lem : (l : List ℕ) (v : ℕ) (r : List ℕ) → T (is_start G (first_of v l)) → T (linked G.arcs (l ++ (v ∷ r))) → T (is_end G (last_of v r)) →
      T (is_path G (l ++ (v ∷ r)))
  path_of_lem [] v r a b c = path_from_parts G v r a b c
  path_of_lem (u ∷ l) v r a b c = path_from_parts G u (l ++ (v ∷ r)) a b (subst (λ (w : ℕ). T (is_end G w)) (sym (last_append u l (v ∷ r))) c)

  path_crosses : (l : List ℕ) (v : ℕ) (r m s : List ℕ) → T (is_path G (l ++ (v ∷ r))) → T (is_path G (m ++ (v ∷ s))) → T (is_path G (l ++ (v ∷ s)))
  path_crosses l v r m s h k =
      path_of_lem l v s (path_first l v r h)
      (linked_join G.arcs l v s (linked_to G.arcs l v r (path_is_linked (l ++ (v ∷ r)) h)) (linked_from G.arcs m v s (path_is_linked (m ++ (v ∷ s)) k)))
      (path_last m v s k)

  -- one path up to o and another from o on are a path
  pub path_exchange : (l o r m s : List ℕ) → 1 ≤ length o → T (is_path G (l ++ (o ++ r))) → T (is_path G (m ++ (o ++ s))) →
      T (is_path G (l ++ (o ++ s)))
  path_exchange l [] r m s p h k = absurd (omega arith)
  path_exchange l (v ∷ o) r m s p h k = path_crosses l v (o ++ r) m (o ++ s) h k

through_cut : (i : Item) (l : List ℕ) (v : ℕ) (r : List ℕ) →
    through i (l ++ (v ∷ r)) + through i (v ∷ []) ≡ through i (l ++ (v ∷ [])) + through i (v ∷ r)
through_cut i [] v r = omega arith
through_cut i (u ∷ []) v r = omega arith
through_cut i (u ∷ w ∷ l) v r = omega (arith, through_cut i (w ∷ l) v r)

-- two lists that exchange what stands behind o pass together what they passed before
pub through_exchange : (i : Item) (l o r m s : List ℕ) → 1 ≤ length o →
    through i (l ++ (o ++ r)) + through i (m ++ (o ++ s)) ≡ through i (l ++ (o ++ s)) + through i (m ++ (o ++ r))
through_exchange i l [] r m s p = absurd (omega arith)
through_exchange i l (v ∷ o) r m s p =
    omega (arith, through_cut i l v (o ++ r), through_cut i m v (o ++ s), through_cut i l v (o ++ s), through_cut i m v (o ++ r))

through_behind : (i : Item) (a p : List ℕ) → through i p ≤ through i (a ++ p)
through_behind i [] p = omega arith
through_behind i (u ∷ a) p = omega (arith, through_behind i a p, one (a ++ p))
  where
    one : (q : List ℕ) → through i q ≤ through i (u ∷ q)
    one [] = omega arith
    one (w ∷ q) = omega arith

through_before : (i : Item) (r b : List ℕ) → through i r ≤ through i (r ++ b)
through_before i [] b = omega arith
through_before i (v ∷ []) [] = omega arith
through_before i (v ∷ []) (w ∷ b) = omega arith
through_before i (u ∷ v ∷ r) b = omega (arith, through_before i (v ∷ r) b)

-- a path passes what a part of it passes
pub through_within : (i : Item) (r p : List ℕ) → Within r p → through i r ≤ through i p
through_within i r p (a, b, e) = rw e (omega (arith, through_behind i a (r ++ b), through_before i r b))
