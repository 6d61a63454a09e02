-- Reachability: what the tests of specs/Reach.antt say. A vertex is reached from a start when a linked list leads from a start to it, and so for ends;
-- a vertex, an arc or a read lies on a path exactly when its first vertex is reached from a start and its last reaches an end.
use Prim.Native.Nat.{ℕ, zero, suc, ◌+◌, ◌-◌, ◌≤◌, ◌<◌}
use native.Mathlib.Omega.{arith}
use mathlib.Core.Path.{◌≡◌, refl, sym, subst, ◌∙◌}
use mathlib.Core.List.{List, [], ◌∷◌, ◌++◌}
use mathlib.Core.Bool.{Bool, true, false, ◌&&◌, ◌||◌}
use mathlib.Core.Logic.{inl, inr, ◌↔◌}
use lib.Dec.{T, leb, eqb, leb→le, nleb→lt, not_T, eqb→eq, eqb_refl}
use lib.ListN.{length, get_or}
use Rattle.mathematics.specs.Lists.{All, begins, holds, last_of}
use Rattle.mathematics.specs.Range.{OneOf}
use Rattle.mathematics.specs.Graph.{Vertex, Arc, Graph, WellFormed, Rises, no_vertex, is_start, is_end, joins, has_arc, linked, is_path}
use Rattle.mathematics.specs.Cover.{Item, vert, arc, one_if, through}
use Rattle.mathematics.specs.Exists.{ItemOnPath, ReadOnPath}
use Rattle.mathematics.specs.Reach.{item_list, some_into, some_out, from_start_in, to_end_in, from_start, to_end, useful}
use Rattle.mathematics.proofs.Basics.{and_l, and_r, and_in, or_cases, or_l, or_r, all_among, test}
use Rattle.mathematics.proofs.Parts.{begins_append}

-- ---- linked lists, end to end

pub last_append : (u : ℕ) (p q : List ℕ) → last_of u (p ++ q) ≡ last_of (last_of u p) q
last_append u [] q = refl
last_append u (v ∷ p) q = last_append v p q

module _ {E : Type 0} where
  pub linked_first : (arcs : List (Arc E)) (u v : ℕ) (p : List ℕ) → T (linked arcs (u ∷ v ∷ p)) → T (has_arc arcs u v)
  linked_first arcs u v p h = and_l (has_arc arcs u v) (linked arcs (v ∷ p)) h

  pub linked_rest : (arcs : List (Arc E)) (u v : ℕ) (p : List ℕ) → T (linked arcs (u ∷ v ∷ p)) → T (linked arcs (v ∷ p))
  linked_rest arcs u v p h = and_r (has_arc arcs u v) (linked arcs (v ∷ p)) h

  pub linked_append : (arcs : List (Arc E)) (u : ℕ) (p q : List ℕ) → T (linked arcs (u ∷ p)) → T (linked arcs (last_of u p ∷ q)) →
      T (linked arcs (u ∷ (p ++ q)))
  linked_append arcs u [] q h k = k
  linked_append arcs u (v ∷ p) q h k =
      and_in (has_arc arcs u v) (linked arcs (v ∷ (p ++ q))) (linked_first arcs u v p h)
      (linked_append arcs v p q (linked_rest arcs u v p h) k)

  -- an arc of the list joins its ends
  pub arc_joins : (arcs : List (Arc E)) (a : Arc E) → OneOf arcs a → T (has_arc arcs a.tail a.head)
  arc_joins [] a m = absurd m
  arc_joins (b ∷ arcs) a (inl e) =
      or_l (joins b a.tail a.head) (has_arc arcs a.tail a.head)
      (subst (λ (c : Arc E). T (joins c a.tail a.head)) e
      (and_in (eqb a.tail a.tail) (eqb a.head a.head) (eqb_refl a.tail) (eqb_refl a.head)))
  arc_joins (b ∷ arcs) a (inr m) = or_r (joins b a.tail a.head) (has_arc arcs a.tail a.head) (arc_joins arcs a m)

  -- and where two numbers are joined, an arc of the list joins them
  pub joining_arc : (arcs : List (Arc E)) (u v : ℕ) → T (has_arc arcs u v) →
      (a : Arc E) × OneOf arcs a × (a.tail ≡ u) × (a.head ≡ v)
  joining_arc [] u v t = absurd t
  joining_arc (a ∷ arcs) u v t =
      elim (or_cases (joins a u v) (has_arc arcs u v) t) [
        | inl j ↦ (
          a,
          inl refl,
          eqb→eq a.tail u (and_l (eqb a.tail u) (eqb a.head v) j),
          eqb→eq a.head v (and_r (eqb a.tail u) (eqb a.head v) j),
        )
        | inr k ↦ let r = joining_arc arcs u v k in (r.0, inr r.1, r.2, r.3)
      ]

  -- numbers rise along an arc, and stay below n
  pub arc_rises : (n : ℕ) (arcs : List (Arc E)) (u v : ℕ) → All (Rises n) arcs → T (has_arc arcs u v) → (u < v) × (v < n)
  arc_rises n arcs u v h t =
      let r = joining_arc arcs u v t in
      let rises = all_among (Rises n) arcs r.0 h r.1 in
      omega (arith, rises.0, rises.1, r.2, r.3)

  -- ---- one step of the tests

  some_into_lem : (f : ℕ → Bool) (arcs : List (Arc E)) (a : Arc E) → OneOf arcs a → T (f a.tail) → T (some_into f arcs a.head)
  some_into_lem f [] a m h = absurd m
  some_into_lem f (b ∷ arcs) a (inl e) h =
      or_l (eqb b.head a.head && f b.tail) (some_into f arcs a.head)
      (subst (λ (c : Arc E). T (eqb c.head a.head && f c.tail)) e
      (and_in (eqb a.head a.head) (f a.tail) (eqb_refl a.head) h))
  some_into_lem f (b ∷ arcs) a (inr m) h =
      or_r (eqb b.head a.head && f b.tail) (some_into f arcs a.head) (some_into_lem f arcs a m h)

  into_some : (f : ℕ → Bool) (arcs : List (Arc E)) (v : ℕ) → T (some_into f arcs v) →
      (a : Arc E) × OneOf arcs a × (a.head ≡ v) × T (f a.tail)
  into_some f [] v t = absurd t
  into_some f (a ∷ arcs) v t =
      elim (or_cases (eqb a.head v && f a.tail) (some_into f arcs v) t) [
        | inl j ↦ (a, inl refl, eqb→eq a.head v (and_l (eqb a.head v) (f a.tail) j), and_r (eqb a.head v) (f a.tail) j)
        | inr k ↦ let r = into_some f arcs v k in (r.0, inr r.1, r.2, r.3)
      ]

  some_out_lem : (f : ℕ → Bool) (arcs : List (Arc E)) (a : Arc E) → OneOf arcs a → T (f a.head) → T (some_out f arcs a.tail)
  some_out_lem f [] a m h = absurd m
  some_out_lem f (b ∷ arcs) a (inl e) h =
      or_l (eqb b.tail a.tail && f b.head) (some_out f arcs a.tail)
      (subst (λ (c : Arc E). T (eqb c.tail a.tail && f c.head)) e
      (and_in (eqb a.tail a.tail) (f a.head) (eqb_refl a.tail) h))
  some_out_lem f (b ∷ arcs) a (inr m) h =
      or_r (eqb b.tail a.tail && f b.head) (some_out f arcs a.tail) (some_out_lem f arcs a m h)

  out_some : (f : ℕ → Bool) (arcs : List (Arc E)) (u : ℕ) → T (some_out f arcs u) →
      (a : Arc E) × OneOf arcs a × (a.tail ≡ u) × T (f a.head)
  out_some f [] u t = absurd t
  out_some f (a ∷ arcs) u t =
      elim (or_cases (eqb a.tail u && f a.head) (some_out f arcs u) t) [
        | inl j ↦ (a, inl refl, eqb→eq a.tail u (and_l (eqb a.tail u) (f a.head) j), and_r (eqb a.tail u) (f a.head) j)
        | inr k ↦ let r = out_some f arcs u k in (r.0, inr r.1, r.2, r.3)
      ]

-- what each number hands to the next holds from k on
upward : (F : ℕ → Type 0) → ((k : ℕ) → F k → F (suc k)) → (k j : ℕ) → k ≤ j → F k → F j
upward F step k zero le h =
    let e : k ≡ 0 = omega arith in
    subst F e h
upward F step k (suc j) le h =
    elim (test (leb k j)) [
      | inl t ↦ step j (upward F step k j (leb→le k j t) h)
      | inr n ↦
          let e : k ≡ suc j = omega (arith, nleb→lt k j (not_T (leb k j) n)) in
          subst F e h
    ]

flagged_start_below : (xs : List Vertex) (v : ℕ) → T (get_or xs v no_vertex).start → v < length xs
flagged_start_below [] v h = absurd h
flagged_start_below (x ∷ xs) zero h = omega arith
flagged_start_below (x ∷ xs) (suc v) h = omega (arith, flagged_start_below xs v h)

flagged_end_below : (xs : List Vertex) (v : ℕ) → T (get_or xs v no_vertex).end → v < length xs
flagged_end_below [] v h = absurd h
flagged_end_below (x ∷ xs) zero h = omega arith
flagged_end_below (x ∷ xs) (suc v) h = omega (arith, flagged_end_below xs v h)

module _ {E : Type 0} (G : Graph E) where
  pub start_below : (v : ℕ) → T (is_start G v) → v < length G.vertices
  start_below v h = flagged_start_below G.vertices v h

  pub end_below : (v : ℕ) → T (is_end G v) → v < length G.vertices
  end_below v h = flagged_end_below G.vertices v h

  -- a linked list leads from a start to v
  abbrev pub LeadsTo : ℕ → Type 0
  LeadsTo v = (s : ℕ) × (p : List ℕ) × T (is_start G s) × T (linked G.arcs (s ∷ p)) × (last_of s p ≡ v)

  -- a linked list leads from v to an end
  abbrev pub LeadsOn : ℕ → Type 0
  LeadsOn v = (q : List ℕ) × T (linked G.arcs (v ∷ q)) × T (is_end G (last_of v q))

  -- ---- looking further finds no less

  start_in : (k v : ℕ) → T (is_start G v) → T (from_start_in G k v)
  start_in zero v h = h
  start_in (suc k) v h = or_l (is_start G v) (some_into (from_start_in G k) G.arcs v) h

  from_one_more : (k v : ℕ) → T (from_start_in G k v) → T (from_start_in G (suc k) v)
  from_one_more zero v h = start_in 1 v h
  from_one_more (suc k) v h =
      elim (or_cases (is_start G v) (some_into (from_start_in G k) G.arcs v) h) [
        | inl s ↦ start_in (suc (suc k)) v s
        | inr t ↦
            let r = into_some (from_start_in G k) G.arcs v t in
            or_r (is_start G v) (some_into (from_start_in G (suc k)) G.arcs v)
            (subst (λ x. T (some_into (from_start_in G (suc k)) G.arcs x)) r.2
            (some_into_lem (from_start_in G (suc k)) G.arcs r.0 r.1 (from_one_more k r.0.tail r.3)))
      ]

  from_step : (k j : ℕ) (a : Arc E) → OneOf G.arcs a → k < j → T (from_start_in G k a.tail) → T (from_start_in G j a.head)
  from_step k zero a m lt h = absurd (omega arith)
  from_step k (suc j) a m lt h =
      or_r (is_start G a.head) (some_into (from_start_in G j) G.arcs a.head)
      (some_into_lem (from_start_in G j) G.arcs a m (upward (λ x. T (from_start_in G x a.tail)) (λ x. from_one_more x a.tail) k j (omega arith) h))

  end_in : (k v : ℕ) → T (is_end G v) → T (to_end_in G k v)
  end_in zero v h = h
  end_in (suc k) v h = or_l (is_end G v) (some_out (to_end_in G k) G.arcs v) h

  to_one_more : (k v : ℕ) → T (to_end_in G k v) → T (to_end_in G (suc k) v)
  to_one_more zero v h = end_in 1 v h
  to_one_more (suc k) v h =
      elim (or_cases (is_end G v) (some_out (to_end_in G k) G.arcs v) h) [
        | inl s ↦ end_in (suc (suc k)) v s
        | inr t ↦
            let r = out_some (to_end_in G k) G.arcs v t in
            or_r (is_end G v) (some_out (to_end_in G (suc k)) G.arcs v)
            (subst (λ x. T (some_out (to_end_in G (suc k)) G.arcs x)) r.2
            (some_out_lem (to_end_in G (suc k)) G.arcs r.0 r.1 (to_one_more k r.0.head r.3)))
      ]

  to_step : (k j : ℕ) (a : Arc E) → OneOf G.arcs a → k < j → T (to_end_in G k a.head) → T (to_end_in G j a.tail)
  to_step k zero a m lt h = absurd (omega arith)
  to_step k (suc j) a m lt h =
      or_r (is_end G a.tail) (some_out (to_end_in G j) G.arcs a.tail)
      (some_out_lem (to_end_in G j) G.arcs a m (upward (λ x. T (to_end_in G x a.head)) (λ x. to_one_more x a.head) k j (omega arith) h))

  -- ---- what the tests find is there

  from_in_path : (k v : ℕ) → T (from_start_in G k v) → LeadsTo v
  from_in_path zero v h = (v, [], h, tt, refl)
  from_in_path (suc k) v h =
      elim (or_cases (is_start G v) (some_into (from_start_in G k) G.arcs v) h) [
        | inl s ↦ (v, [], s, tt, refl)
        | inr t ↦
            let r = into_some (from_start_in G k) G.arcs v t in
            let a = r.0 in
            let ih = from_in_path k a.tail r.3 in (
              ih.0,
              ih.1 ++ (a.head ∷ []),
              ih.2,
              linked_append G.arcs ih.0 ih.1 (a.head ∷ []) ih.3
                  (and_in (has_arc G.arcs (last_of ih.0 ih.1) a.head) true
                  (subst (λ x. T (has_arc G.arcs x a.head)) (sym ih.4) (arc_joins G.arcs a r.1)) tt),
              last_append ih.0 ih.1 (a.head ∷ []) ∙ r.2,
            )
      ]

  to_in_path : (k v : ℕ) → T (to_end_in G k v) → LeadsOn v
  to_in_path zero v h = ([], tt, h)
  to_in_path (suc k) v h =
      elim (or_cases (is_end G v) (some_out (to_end_in G k) G.arcs v) h) [
        | inl s ↦ ([], tt, s)
        | inr t ↦
            let r = out_some (to_end_in G k) G.arcs v t in
            let a = r.0 in
            let ih = to_in_path k a.head r.3 in (
              a.head ∷ ih.0,
              and_in (has_arc G.arcs v a.head) (linked G.arcs (a.head ∷ ih.0))
                  (subst (λ x. T (has_arc G.arcs x a.head)) r.2 (arc_joins G.arcs a r.1)) ih.1,
              ih.2,
            )
      ]

  pub start_from_start : (v : ℕ) → T (is_start G v) → T (from_start G v)
  unfolding from_start
  start_from_start v h = start_in v v h

  pub end_to_end : (v : ℕ) → T (is_end G v) → T (to_end G v)
  unfolding to_end
  end_to_end v h = end_in (length G.vertices - v) v h

  pub from_start_path : (v : ℕ) → T (from_start G v) → LeadsTo v
  unfolding from_start
  from_start_path v h = from_in_path v v h

  pub to_end_path : (v : ℕ) → T (to_end G v) → LeadsOn v
  unfolding to_end
  to_end_path v h = to_in_path (length G.vertices - v) v h

module _ {E : Type 0} (G : Graph E) (wf : WellFormed G) where
  -- Along an arc, what is reached from a start hands it on,
  pub from_start_arc : (u v : ℕ) → T (has_arc G.arcs u v) → T (from_start G u) → T (from_start G v)
  unfolding from_start
  from_start_arc u v t h =
      let r = joining_arc G.arcs u v t in
      let up = arc_rises (length G.vertices) G.arcs u v wf.rises t in
      subst (λ x. T (from_start_in G v x)) r.3
      (from_step G u v r.0 r.1 up.0 (subst (λ x. T (from_start_in G u x)) (sym r.2) h))

  -- and what reaches an end hands it back.
  pub to_end_arc : (u v : ℕ) → T (has_arc G.arcs u v) → T (to_end G v) → T (to_end G u)
  unfolding to_end
  to_end_arc u v t h =
      let r = joining_arc G.arcs u v t in
      let up = arc_rises (length G.vertices) G.arcs u v wf.rises t in
      subst (λ x. T (to_end_in G (length G.vertices - u) x)) r.2
      (to_step G (length G.vertices - v) (length G.vertices - u) r.0 r.1 (omega (arith, up.0, up.1))
      (subst (λ x. T (to_end_in G (length G.vertices - v) x)) (sym r.3) h))

  pub from_start_along : (u : ℕ) (p : List ℕ) → T (linked G.arcs (u ∷ p)) → T (from_start G u) → T (from_start G (last_of u p))
  from_start_along u [] l h = h
  from_start_along u (v ∷ p) l h =
      from_start_along v p (linked_rest G.arcs u v p l) (from_start_arc u v (linked_first G.arcs u v p l) h)

  pub to_end_along : (u : ℕ) (p : List ℕ) → T (linked G.arcs (u ∷ p)) → T (to_end G (last_of u p)) → T (to_end G u)
  to_end_along u [] l h = h
  to_end_along u (v ∷ p) l h =
      to_end_arc u v (linked_first G.arcs u v p l) (to_end_along v p (linked_rest G.arcs u v p l) h)

  -- v reaches an end exactly when a linked list leads from it to an end.
  pub to_end_iff : (v : ℕ) → T (to_end G v) ↔ LeadsOn G v
  to_end_iff v = (to_end_path G v, λ r. to_end_along v r.0 r.1 (end_to_end G (last_of v r.0) r.2))

  -- Only vertices of the graph are reached
  pub from_start_below : (v : ℕ) → T (from_start G v) → v < length G.vertices
  from_start_below v h =
      let r = from_start_path G v h in
      subst (λ x. x < length G.vertices) r.4 (below r.0 r.1 (start_below G r.0 r.2) r.3)
    where
      below : (u : ℕ) (p : List ℕ) → u < length G.vertices → T (linked G.arcs (u ∷ p)) → last_of u p < length G.vertices
      below u [] lt l = lt
      below u (w ∷ p) lt l =
          below w p (arc_rises (length G.vertices) G.arcs u w wf.rises (linked_first G.arcs u w p l)).1
          (linked_rest G.arcs u w p l)

  -- or reach an end.
  pub to_end_below : (v : ℕ) → T (to_end G v) → v < length G.vertices
  to_end_below v h = below (to_end_path G v h)
    where
      pick : (q : List ℕ) → T (linked G.arcs (v ∷ q)) → T (is_end G (last_of v q)) → v < length G.vertices
      pick [] l e = end_below G v e
      pick (w ∷ q) l e =
          let up = arc_rises (length G.vertices) G.arcs v w wf.rises (linked_first G.arcs v w q l) in
          omega (arith, up.0, up.1)

      below : LeadsOn G v → v < length G.vertices
      below r = pick r.0 r.1 r.2

  -- Every vertex of a linked list from a reached vertex to one that reaches an end is useful.
  pub useful_along : (u : ℕ) (p : List ℕ) → T (linked G.arcs (u ∷ p)) → T (from_start G u) → T (to_end G (last_of u p)) →
      All (λ x. T (useful G x)) (u ∷ p)
  useful_along u [] l f e = (and_in (from_start G u) (to_end G u) f e, tt)
  useful_along u (v ∷ p) l f e = (
    and_in (from_start G u) (to_end G u) f (to_end_along u (v ∷ p) l e),
    useful_along v p (linked_rest G.arcs u v p l) (from_start_arc u v (linked_first G.arcs u v p l) f) e,
  )

-- ---- an item or a read on a path

held_between : (u : ℕ) (p r q : List ℕ) → T (holds (u ∷ (p ++ (r ++ q))) (last_of u p ∷ r))
held_between u [] r q =
    or_l (begins (u ∷ r) (u ∷ (r ++ q))) (holds (r ++ q) (u ∷ r))
    (and_in (eqb u u) (begins r (r ++ q)) (eqb_refl u) (begins_append r q))
held_between u (v ∷ p) r q =
    or_r (begins (last_of v p ∷ r) (u ∷ v ∷ (p ++ (r ++ q)))) (holds (v ∷ (p ++ (r ++ q))) (last_of v p ∷ r)) (held_between v p r q)

-- a vertex is passed exactly when the path holds it, an arc when the path holds its ends consecutively
through_vertex_held : (v u : ℕ) (p : List ℕ) → 1 ≤ through (vert v) (u ∷ p) → T (holds (u ∷ p) (v ∷ []))
through_vertex_held v u [] h = pick (eqb v u) h
  where
    pick : (b : Bool) → 1 ≤ one_if b + 0 → T ((b && true) || false)
    pick true h = tt
    pick false h = absurd (omega arith)
through_vertex_held v u (w ∷ p) h = pick (eqb v u) h (through_vertex_held v w p)
  where
    pick : (b : Bool) → 1 ≤ one_if b + (0 + through (vert v) (w ∷ p)) → (1 ≤ through (vert v) (w ∷ p) → T (holds (w ∷ p) (v ∷ []))) →
        T ((b && true) || holds (w ∷ p) (v ∷ []))
    pick true h ih = tt
    pick false h ih = ih (omega arith)

through_arc_held : (a b u : ℕ) (p : List ℕ) → 1 ≤ through (arc a b) (u ∷ p) → T (holds (u ∷ p) (a ∷ b ∷ []))
through_arc_held a b u [] h = absurd (omega arith)
through_arc_held a b u (w ∷ p) h = pick (eqb a u) (eqb b w) h (through_arc_held a b w p)
  where
    pick : (x y : Bool) → 1 ≤ 0 + (one_if (x && y) + through (arc a b) (w ∷ p)) →
        (1 ≤ through (arc a b) (w ∷ p) → T (holds (w ∷ p) (a ∷ b ∷ []))) → T ((x && (y && true)) || holds (w ∷ p) (a ∷ b ∷ []))
    pick true true h ih = tt
    pick true false h ih = ih (omega arith)
    pick false y h ih = ih (omega arith)

held_through_vertex : (v u : ℕ) (p : List ℕ) → T (holds (u ∷ p) (v ∷ [])) → 1 ≤ through (vert v) (u ∷ p)
held_through_vertex v u [] h = pick (eqb v u) h
  where
    pick : (b : Bool) → T ((b && true) || false) → 1 ≤ one_if b + 0
    pick true h = omega arith
    pick false h = absurd h
held_through_vertex v u (w ∷ p) h = pick (eqb v u) h (held_through_vertex v w p)
  where
    pick : (b : Bool) → T ((b && true) || holds (w ∷ p) (v ∷ [])) → (T (holds (w ∷ p) (v ∷ [])) → 1 ≤ through (vert v) (w ∷ p)) →
        1 ≤ one_if b + (0 + through (vert v) (w ∷ p))
    pick true h ih = omega arith
    pick false h ih = omega (arith, ih h)

held_through_arc : (a b u : ℕ) (p : List ℕ) → T (holds (u ∷ p) (a ∷ b ∷ [])) → 1 ≤ through (arc a b) (u ∷ p)
held_through_arc a b u [] h = absurd (none (eqb a u) h)
  where
    none : (x : Bool) → T ((x && false) || false) → ⊥
    none true h = h
    none false h = h
held_through_arc a b u (w ∷ p) h = pick (eqb a u) (eqb b w) h (held_through_arc a b w p)
  where
    pick : (x y : Bool) → T ((x && (y && true)) || holds (w ∷ p) (a ∷ b ∷ [])) →
        (T (holds (w ∷ p) (a ∷ b ∷ [])) → 1 ≤ through (arc a b) (w ∷ p)) → 1 ≤ 0 + (one_if (x && y) + through (arc a b) (w ∷ p))
    pick true true h ih = omega arith
    pick true false h ih = omega (arith, ih h)
    pick false y h ih = omega (arith, ih h)

-- A path passes an item exactly when it holds the item's vertices consecutively.
pub through_iff_holds : (i : Item) (p : List ℕ) → (1 ≤ through i p) ↔ T (holds p (item_list i))
through_iff_holds (vert v) [] = (λ h. absurd (omega arith), λ h. absurd h)
through_iff_holds (vert v) (u ∷ p) = (through_vertex_held v u p, held_through_vertex v u p)
through_iff_holds (arc a b) [] = (λ h. absurd (omega arith), λ h. absurd h)
through_iff_holds (arc a b) (u ∷ p) = (through_arc_held a b u p, held_through_arc a b u p)

module _ {E : Type 0} (G : Graph E) where
  -- the three parts of a path
  pub path_start : (s : ℕ) (p : List ℕ) → T (is_path G (s ∷ p)) → T (is_start G s)
  path_start s p h = and_l (is_start G s) (linked G.arcs (s ∷ p) && is_end G (last_of s p)) h

  pub path_linked : (s : ℕ) (p : List ℕ) → T (is_path G (s ∷ p)) → T (linked G.arcs (s ∷ p))
  path_linked s p h =
      and_l (linked G.arcs (s ∷ p)) (is_end G (last_of s p))
      (and_r (is_start G s) (linked G.arcs (s ∷ p) && is_end G (last_of s p)) h)

  pub path_end_lem : (s : ℕ) (p : List ℕ) → T (is_path G (s ∷ p)) → T (is_end G (last_of s p))
  path_end_lem s p h =
      and_r (linked G.arcs (s ∷ p)) (is_end G (last_of s p))
      (and_r (is_start G s) (linked G.arcs (s ∷ p) && is_end G (last_of s p)) h)

  pub path_from_parts : (s : ℕ) (p : List ℕ) → T (is_start G s) → T (linked G.arcs (s ∷ p)) → T (is_end G (last_of s p)) →
      T (is_path G (s ∷ p))
  path_from_parts s p a b c =
      and_in (is_start G s) (linked G.arcs (s ∷ p) && is_end G (last_of s p)) a
      (and_in (linked G.arcs (s ∷ p)) (is_end G (last_of s p)) b c)

  pub item_as_read : (i : Item) → ItemOnPath G i ↔ ReadOnPath G (item_list i)
  item_as_read i =
      (λ h. (h.0, h.1, (through_iff_holds i h.0).0 h.2), λ h. (h.0, h.1, (through_iff_holds i h.0).1 h.2))

  path_between : (s : ℕ) (p r : List ℕ) → T (is_start G s) → T (linked G.arcs (s ∷ p)) → T (linked G.arcs (last_of s p ∷ r)) →
      LeadsOn G (last_of (last_of s p) r) → ReadOnPath G (last_of s p ∷ r)
  path_between s p r a l m on =
      let q = on.0 in (
        s ∷ (p ++ (r ++ q)),
        path_from_parts s (p ++ (r ++ q)) a
            (linked_append G.arcs s p (r ++ q) l (linked_append G.arcs (last_of s p) r q m on.1))
            (subst (λ x. T (is_end G x)) (sym (last_append s p (r ++ q) ∙ last_append (last_of s p) r q)) on.2),
        held_between s p r q,
      )

module _ {E : Type 0} (G : Graph E) (wf : WellFormed G) where
  begins_to_end : (u : ℕ) (p r : List ℕ) → T (linked G.arcs (u ∷ p)) → T (to_end G (last_of u p)) → T (begins r p) →
      T (to_end G (last_of u r))
  begins_to_end u p [] l e b = to_end_along G wf u p l e
  begins_to_end u [] (x ∷ r) l e b = absurd b
  begins_to_end u (y ∷ p) (x ∷ r) l e b =
      subst (λ z. T (to_end G (last_of z r))) (sym (eqb→eq x y (and_l (eqb x y) (begins r p) b)))
      (begins_to_end y p r (linked_rest G.arcs u y p l) e (and_r (eqb x y) (begins r p) b))

  begun_lies : (u : ℕ) (p : List ℕ) (v : ℕ) (r : List ℕ) → T (linked G.arcs (u ∷ p)) → T (from_start G u) → T (to_end G (last_of u p)) →
      T (begins (v ∷ r) (u ∷ p)) → T (from_start G v) × T (to_end G (last_of v r))
  begun_lies u p v r l f e b =
      let same : v ≡ u = eqb→eq v u (and_l (eqb v u) (begins r p) b) in (
        subst (λ x. T (from_start G x)) (sym same) f,
        subst (λ x. T (to_end G (last_of x r))) (sym same) (begins_to_end u p r l e (and_r (eqb v u) (begins r p) b)),
      )

  held_lies : (u : ℕ) (p : List ℕ) (v : ℕ) (r : List ℕ) → T (linked G.arcs (u ∷ p)) → T (from_start G u) → T (to_end G (last_of u p)) →
      T (holds (u ∷ p) (v ∷ r)) → T (from_start G v) × T (to_end G (last_of v r))
  held_lies u [] v r l f e h =
      elim (or_cases (begins (v ∷ r) (u ∷ [])) false h) [ inl b ↦ begun_lies u [] v r l f e b | inr n ↦ absurd n ]
  held_lies u (w ∷ p) v r l f e h =
      elim (or_cases (begins (v ∷ r) (u ∷ w ∷ p)) (holds (w ∷ p) (v ∷ r)) h) [
        | inl b ↦ begun_lies u (w ∷ p) v r l f e b
        | inr k ↦
            held_lies w p v r (linked_rest G.arcs u w p l) (from_start_arc G wf u w (linked_first G.arcs u w p l) f) e k
      ]

  path_lies : (p : List ℕ) (v : ℕ) (r : List ℕ) → T (is_path G p) → T (holds p (v ∷ r)) → T (from_start G v) × T (to_end G (last_of v r))
  path_lies [] v r h k = absurd h
  path_lies (s ∷ p) v r h k =
      held_lies s p v r (path_linked G s p h) (start_from_start G s (path_start G s p h))
      (end_to_end G (last_of s p) (path_end_lem G s p h)) k

  -- A read lies on a path exactly when its first vertex is reached from a start and its last reaches an end.
  pub read_on_path : (v : ℕ) (r : List ℕ) → T (linked G.arcs (v ∷ r)) →
      ReadOnPath G (v ∷ r) ↔ (T (from_start G v) × T (to_end G (last_of v r)))
  read_on_path v r l = (λ h. path_lies h.0 v r h.1 h.2, λ h. back (from_start_path G v h.0) (to_end_path G (last_of v r) h.1))
    where
      back : LeadsTo G v → LeadsOn G (last_of v r) → ReadOnPath G (v ∷ r)
      back to on =
          subst (λ x. T (linked G.arcs (x ∷ r)) → LeadsOn G (last_of x r) → ReadOnPath G (x ∷ r)) to.4
          (path_between G to.0 to.1 r to.2 to.3) l on

  -- A vertex lies on a path exactly when it is useful,
  pub vertex_on_path : (v : ℕ) → ItemOnPath G (vert v) ↔ T (useful G v)
  vertex_on_path v = (
    λ h. let r = (read_on_path v [] tt).0 ((item_as_read G (vert v)).0 h) in and_in (from_start G v) (to_end G v) r.0 r.1,
    λ h. (item_as_read G (vert v)).1
        ((read_on_path v [] tt).1 (and_l (from_start G v) (to_end G v) h, and_r (from_start G v) (to_end G v) h)),
  )

  -- an arc exactly when its tail is reached from a start and its head reaches an end.
  pub arc_on_path : (u v : ℕ) → T (has_arc G.arcs u v) → ItemOnPath G (arc u v) ↔ (T (from_start G u) × T (to_end G v))
  arc_on_path u v t =
      let l : T (linked G.arcs (u ∷ v ∷ [])) = and_in (has_arc G.arcs u v) true t tt in (
        λ h. (read_on_path u (v ∷ []) l).0 ((item_as_read G (arc u v)).0 h),
        λ h. (item_as_read G (arc u v)).1 ((read_on_path u (v ∷ []) l).1 h),
      )

  -- Both ends of an arc on a path are useful,
  pub arc_ends_useful : (u v : ℕ) → T (has_arc G.arcs u v) → ItemOnPath G (arc u v) → T (useful G u) × T (useful G v)
  arc_ends_useful u v t h =
      let r = (arc_on_path u v t).0 h in
      let both = useful_along G wf u (v ∷ []) (and_in (has_arc G.arcs u v) true t tt) r.0 r.1 in
      (both.0, both.1.0)

  -- and so is every vertex of a read on a path.
  pub read_useful : (v : ℕ) (r : List ℕ) → T (linked G.arcs (v ∷ r)) → ReadOnPath G (v ∷ r) → All (λ x. T (useful G x)) (v ∷ r)
  read_useful v r l h =
      let both = (read_on_path v r l).0 h in
      useful_along G wf v r l both.0 both.1
