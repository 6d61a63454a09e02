-- #112: every candidate has a barred graph, so the test is never about nothing.
use Prim.Native.Nat.{ℕ, zero, suc, ◌<◌}
use native.Mathlib.Omega.{arith}
use mathlib.Core.Path.{◌≡◌, refl, sym, ap, subst, ◌∙◌}
use mathlib.Core.List.{List, [], ◌∷◌, ◌++◌, map}
use mathlib.Core.Bool.{Bool, true, false, cond, not, ◌&&◌}
use mathlib.Core.Logic.{◌⊎◌, inl, inr, ◌≢◌}
use lib.Dec.{T, eqb, eqb→eq, eqb_refl, not_T, T_not}
use lib.ListN.{length, get_or}
use Rattle.mathematics.specs.Lists.{All}
use Rattle.mathematics.specs.Graph.{Vertex, Arc, Graph, WellFormed, Rises, no_vertex, is_start, is_end, has_arc, linked}
use Rattle.mathematics.specs.Range.{OneOf}
use Rattle.mathematics.specs.Direction.{change_at}
use Rattle.mathematics.specs.Barred.{turned, steps, opens, Barred}
use Rattle.mathematics.proofs.Basics.{and_l, or_cases, all_among, all_from, all_append, all_weaken, all_map, among_left, among_right, among_cases, among_map, is_true, is_false, test}
use Rattle.mathematics.proofs.Loads.{unequal, passing, all_passing, all_pass}
use Rattle.mathematics.proofs.Base.{among_passing}
use Rattle.mathematics.proofs.MarksWithin.{among_image}
use Rattle.mathematics.proofs.Reach.{arc_joins, joining_arc, arc_rises}
use Rattle.mathematics.proofs.Avoid.{Chain, chain}

-- two tests that hold together are equal
same_test : (a b : Bool) → (T a → T b) → (T b → T a) → a ≡ b
same_test true true f g = refl
same_test true false f g = absurd (f tt)
same_test false true f g = absurd (g tt)
same_test false false f g = refl

-- the numbers below n
abbrev below : ℕ → List ℕ
below zero = []
below (suc n) = n ∷ below n

below_among : (n u : ℕ) → u < n → OneOf (below n) u
below_among zero u l = absurd (omega arith)
below_among (suc n) u l =
    elim (test (eqb u n)) [
      | inl t ↦ inl (eqb→eq u n t)
      | inr f ↦
          let apart : u ≢ n = unequal u n f in
          inr (below_among n u (omega arith))
    ]

module _ {A : Type 0} (f : A → A) (d : A) where
  changed_here : (k : ℕ) (xs : List A) → k < length xs → get_or (change_at f k xs) k d ≡ f (get_or xs k d)
  changed_here k [] l = absurd (omega arith)
  changed_here zero (x ∷ xs) l = refl
  changed_here (suc k) (x ∷ xs) l = changed_here k xs (omega arith)

  changed_elsewhere : (k : ℕ) (xs : List A) (v : ℕ) → v ≢ k → get_or (change_at f k xs) v d ≡ get_or xs v d
  changed_elsewhere k [] v n = refl
  changed_elsewhere zero (x ∷ xs) zero n = absurd (n refl)
  changed_elsewhere zero (x ∷ xs) (suc v) n = refl
  changed_elsewhere (suc k) (x ∷ xs) zero n = refl
  changed_elsewhere (suc k) (x ∷ xs) (suc v) n = changed_elsewhere k xs v (λ e. n (ap suc e))

changed_length : {A : Type 0} (f : A → A) (k : ℕ) (xs : List A) → length (change_at f k xs) ≡ length xs
changed_length f k [] = refl
changed_length f zero (x ∷ xs) = refl
changed_length f (suc k) (x ∷ xs) = ap suc (changed_length f k xs)

module _ {E : Type 0} (G : Graph E) (g : WellFormed G) where
  -- a step into the stretch comes from below its last vertex
  steps_rise : (t : ℕ) (back : List ℕ) (u : ℕ) → Chain G t back → T (steps G t back u) → u < t
  steps_rise t [] u c h = absurd h
  steps_rise t (y ∷ back) u c h =
      elim (or_cases (has_arc G.arcs u t && not (eqb u y)) (steps G y back u) h) [
        | inl s ↦ (arc_rises (length G.vertices) G.arcs u t g.rises (and_l (has_arc G.arcs u t) (not (eqb u y)) s)).0
        | inr s ↦
            let later = steps_rise y back u c.1 s in
            let on = (arc_rises (length G.vertices) G.arcs y t g.rises c.0).0 in
            omega arith
      ]

  module _ (z y : ℕ) (back : List ℕ) (joined : T (linked G.arcs (turned (y ∷ back) (z ∷ [])))) where
    along : Chain G z (y ∷ back)
    along = (chain G z [] (y ∷ back) joined).0

    z_there : z < length G.vertices
    z_there = (arc_rises (length G.vertices) G.arcs y z g.rises along.0).1

    -- z with its start flag changed, the arcs that lead elsewhere, and the arcs to z that the rule gives
    reopened : Vertex → Vertex
    reopened x = record { start = opens G z (y ∷ back); end = x.end; demand = x.demand }

    abbrev elsewhere : Arc E → Bool
    elsewhere a = not (eqb a.head z)

    abbrev into_last : ℕ → Arc E
    into_last u = record { tail = u; head = z; cost = G.opening; demand = 0 }

    abbrev kept : List (Arc E)
    kept = passing elsewhere G.arcs

    abbrev sources : List ℕ
    sources = passing (steps G z (y ∷ back)) (below (length G.vertices))

    abbrev added : List (Arc E)
    added = map into_last sources

    abbrev H : Graph E
    H = record { opening = G.opening; vertices = change_at reopened z G.vertices; arcs = kept ++ added; reads = [] }

    pub barred_there : (H : Graph E) × Barred G z (y ∷ back) H × All (Rises (length H.vertices)) H.arcs
    unfolding reopened
    barred_there = (
      H,
      record { same_count = changed_length reopened z G.vertices; starts_are = starts; ends_are = ends; arcs_are = arcs },
      subst (λ (n : ℕ). All (Rises n) (kept ++ added)) (sym (changed_length reopened z G.vertices))
          (all_append (Rises (length G.vertices)) kept added
          (all_weaken _ _ kept (λ a h. h.0) (all_passing elsewhere (Rises (length G.vertices)) G.arcs g.rises))
          (all_map (Rises (length G.vertices)) into_last sources
          (all_weaken _ _ sources (λ u h. (steps_rise z (y ∷ back) u along h, z_there))
          (all_pass (steps G z (y ∷ back)) (below (length G.vertices)))))),
    )
      where
        starts : (v : ℕ) → is_start H v ≡ cond (eqb v z) (opens G z (y ∷ back)) (is_start G v)
        starts v =
            elim (test (eqb v z)) [
              | inl t ↦
                  rw (is_true (eqb v z) t)
                  (subst (λ (w : ℕ). is_start H w ≡ opens G z (y ∷ back)) (sym (eqb→eq v z t))
                  (ap (λ (x : Vertex). x.start) (changed_here reopened no_vertex z G.vertices z_there)))
              | inr f ↦
                  rw (is_false (eqb v z) f)
                  (ap (λ (x : Vertex). x.start) (changed_elsewhere reopened no_vertex z G.vertices v (unequal v z f)))
            ]

        ends : (v : ℕ) → is_end H v ≡ is_end G v
        ends v =
            elim (test (eqb v z)) [
              | inl t ↦
                  subst (λ (w : ℕ). is_end H w ≡ is_end G w) (sym (eqb→eq v z t))
                  (ap (λ (x : Vertex). x.end) (changed_here reopened no_vertex z G.vertices z_there))
              | inr f ↦ ap (λ (x : Vertex). x.end) (changed_elsewhere reopened no_vertex z G.vertices v (unequal v z f))
            ]

        there : (u v : ℕ) → T (has_arc (kept ++ added) u v) → T (cond (eqb v z) (steps G z (y ∷ back) u) (has_arc G.arcs u v))
        there u v h =
            let (a, m, t, e) = joining_arc (kept ++ added) u v h in
            elim (among_cases a kept added m) [
              | inl k ↦
                  let (p, q) = all_among (λ a. T (has_arc G.arcs a.tail a.head) × T (elsewhere a)) kept a own k in
                  rw (is_false (eqb v z) (λ s. T_not (eqb a.head z) q (subst (λ (x : ℕ). T (eqb x z)) (sym e) s)))
                  (subst (λ (x : ℕ). T (has_arc G.arcs u x)) e (subst (λ (x : ℕ). T (has_arc G.arcs x a.head)) t p))
              | inr k ↦
                  let (w, n, d) = among_image into_last sources a k in
                  let to : z ≡ v = sym (ap (λ (b : Arc E). b.head) d) ∙ e in
                  let from : w ≡ u = sym (ap (λ (b : Arc E). b.tail) d) ∙ t in
                  rw (is_true (eqb v z) (subst (λ (x : ℕ). T (eqb x z)) to (eqb_refl z)))
                  (subst (λ (x : ℕ). T (steps G z (y ∷ back) x)) from
                  (all_among (λ u. T (steps G z (y ∷ back) u)) sources w (all_pass (steps G z (y ∷ back)) (below (length G.vertices))) n))
            ]
          where
            own : All (λ a. T (has_arc G.arcs a.tail a.head) × T (elsewhere a)) kept
            own =
                all_passing elsewhere (λ a. T (has_arc G.arcs a.tail a.head)) G.arcs
                (all_from (λ a. T (has_arc G.arcs a.tail a.head)) G.arcs (λ a m. arc_joins G.arcs a m))

        back_again : (u v : ℕ) → T (eqb v z) ⊎ (T (eqb v z) → ⊥) → T (cond (eqb v z) (steps G z (y ∷ back) u) (has_arc G.arcs u v)) →
            T (has_arc (kept ++ added) u v)
        back_again u v (inl t) h =
            let step : T (steps G z (y ∷ back) u) = subst (λ s. T (cond s (steps G z (y ∷ back) u) (has_arc G.arcs u v))) (is_true (eqb v z) t) h in
            let low = steps_rise z (y ∷ back) u along step in
            let fits = z_there in
            subst (λ (x : ℕ). T (has_arc (kept ++ added) u x)) (sym (eqb→eq v z t))
            (arc_joins (kept ++ added) (into_last u)
            (among_right (into_last u) kept added
            (among_map into_last u sources
            (among_passing (steps G z (y ∷ back)) (below (length G.vertices)) u (below_among (length G.vertices) u (omega arith)) step))))
        back_again u v (inr f) h =
            let has : T (has_arc G.arcs u v) = subst (λ s. T (cond s (steps G z (y ∷ back) u) (has_arc G.arcs u v))) (is_false (eqb v z) f) h in
            let (a, m, t, e) = joining_arc G.arcs u v has in
            subst (λ (x : ℕ). T (has_arc (kept ++ added) u x)) e
            (subst (λ (x : ℕ). T (has_arc (kept ++ added) x a.head)) t
            (arc_joins (kept ++ added) a
            (among_left a kept added
            (among_passing elsewhere G.arcs a m (not_T (eqb a.head z) (λ s. f (subst (λ (x : ℕ). T (eqb x z)) e s)))))))

        arcs : (u v : ℕ) → has_arc (kept ++ added) u v ≡ cond (eqb v z) (steps G z (y ∷ back) u) (has_arc G.arcs u v)
        arcs u v = same_test _ _ (there u v) (back_again u v (test (eqb v z)))
