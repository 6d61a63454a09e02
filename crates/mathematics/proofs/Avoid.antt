-- #112, document 004's Theorem 2 for graphs with flags: a candidate whose stretch before the last vertex is safe is safe exactly when the barred graph has
-- no cover of at most that many paths. A path that does not run along the stretch gives one of the barred graph by taking off what it has of the stretch
-- before the last vertex; and a path of the barred graph gives one that does not run along the stretch by putting such a part on.
use Prim.Native.Nat.{ℕ, suc, ◌≤◌, ◌<◌}
use native.Mathlib.Omega.{arith}
use mathlib.Core.Path.{◌≡◌, refl, sym, ap, ap₂, subst, ◌∙◌}
use mathlib.Core.List.{List, [], ◌∷◌, ◌++◌, append-nil, append_assoc}
use mathlib.Core.Bool.{Bool, true, false, cond, not, ◌&&◌}
use mathlib.Core.Logic.{◌⊎◌, inl, inr, ◌↔◌, ◌≢◌}
use lib.Dec.{T, eqb, eqb→eq, eqb_refl, not_T, T_not}
use lib.ListN.{length}
use Rattle.mathematics.specs.Lists.{All, Rising, begins, holds, some_holds, last_of}
use Rattle.mathematics.specs.Graph.{Graph, WellFormed, Rises, is_start, is_end, has_arc, linked, is_path}
use Rattle.mathematics.specs.Range.{OneOf}
use Rattle.mathematics.specs.Safe.{PathCover, Safe}
use Rattle.mathematics.specs.Barred.{turned, steps, opens, Barred}
use Rattle.mathematics.proofs.Basics.{and_l, and_r, and_in, or_cases, or_l, or_r, all_among, all_from, all_weaken, among_left, among_right, is_true, is_false, test}
use Rattle.mathematics.proofs.Loads.{unequal}
use Rattle.mathematics.proofs.Merge.{some_holds_lem}
use Rattle.mathematics.proofs.Parts.{begins_rest, begins_append, holds_within, within_holds, some_held, one_place}
use Rattle.mathematics.proofs.Reach.{linked_first, linked_rest, arc_rises, path_start, path_linked, path_end_lem, path_from_parts}
use Rattle.mathematics.proofs.Taken.{all_both}
use Rattle.mathematics.proofs.Linked.{path_rising}

-- ---- lists read backwards

turned_append : (a c p : List ℕ) → turned (a ++ c) p ≡ turned c (turned a p)
turned_append [] c p = refl
turned_append (x ∷ a) c p = turned_append a c (x ∷ p)

turned_turned : (a p q : List ℕ) → turned (turned a p) q ≡ turned p (a ++ q)
turned_turned [] p q = refl
turned_turned (x ∷ a) p q = turned_turned a (x ∷ p) q

pub turned_split : (a p : List ℕ) → turned a p ≡ turned a [] ++ p
turned_split [] p = refl
turned_split (x ∷ a) p =
    turned_split a (x ∷ p) ∙ (sym (append_assoc (turned a []) (x ∷ []) p) ∙ ap (λ (q : List ℕ). q ++ p) (sym (turned_split a (x ∷ []))))

turned_right : (v : ℕ) (a p : List ℕ) → OneOf p v → OneOf (turned a p) v
turned_right v [] p m = m
turned_right v (x ∷ a) p m = turned_right v a (x ∷ p) (inr m)

turned_left : (v : ℕ) (a p : List ℕ) → OneOf a v → OneOf (turned a p) v
turned_left v [] p m = absurd m
turned_left v (x ∷ a) p (inl e) = turned_right v a (x ∷ p) (inl e)
turned_left v (x ∷ a) p (inr m) = turned_left v a (x ∷ p) m

among_turned : (v : ℕ) (a p : List ℕ) → OneOf (turned a p) v → OneOf a v ⊎ OneOf p v
among_turned v [] p m = inr m
among_turned v (x ∷ a) p m =
    elim (among_turned v a (x ∷ p) m) [ inl k ↦ inl (inr k) | inr k ↦ elim k [ inl e ↦ inl (inl e) | inr n ↦ inr n ] ]

-- a vertex that a list holds is one of it
pub one_holds : (v : ℕ) (p : List ℕ) → OneOf p v → T (holds p (v ∷ []))
one_holds v [] m = absurd m
one_holds v (x ∷ p) (inl e) =
    or_l (eqb v x && true) (holds p (v ∷ [])) (and_in (eqb v x) true (subst (λ (y : ℕ). T (eqb v y)) e (eqb_refl v)) tt)
one_holds v (x ∷ p) (inr m) = or_r (eqb v x && true) (holds p (v ∷ [])) (one_holds v p m)

pub holds_one : (v : ℕ) (p : List ℕ) → T (holds p (v ∷ [])) → OneOf p v
holds_one v p h =
    let (a, b, e) = holds_within p (v ∷ []) h in
    subst (λ (q : List ℕ). OneOf q v) (sym e) (among_right v a (v ∷ b) (inl refl))

-- z stands in a list, or not
pub find : (z : ℕ) (a p : List ℕ) → ((b : List ℕ) × (c : List ℕ) × (turned a p ≡ turned b (z ∷ c))) ⊎ (OneOf p z → ⊥)
find z a [] = inr (λ m. m)
find z a (v ∷ p) = go (test (eqb v z)) (find z (v ∷ a) p)
  where
    go : T (eqb v z) ⊎ (T (eqb v z) → ⊥) → ((b : List ℕ) × (c : List ℕ) × (turned a (v ∷ p) ≡ turned b (z ∷ c))) ⊎ (OneOf p z → ⊥) →
        ((b : List ℕ) × (c : List ℕ) × (turned a (v ∷ p) ≡ turned b (z ∷ c))) ⊎ (OneOf (v ∷ p) z → ⊥)
    go (inl t) k = inl (a, p, ap (λ (x : ℕ). turned a (x ∷ p)) (eqb→eq v z t))
    go (inr f) (inl k) = inl k
    go (inr f) (inr n) = inr (λ m. elim m [ inl e ↦ unequal v z f (sym e) | inr k ↦ n k ])

-- ---- where a stretch stands in a path: its vertices stand before z, the nearest first

before_held : (z : ℕ) (back a b : List ℕ) → T (begins back a) → T (holds (turned a (z ∷ b)) (turned back (z ∷ [])))
before_held z back a b h =
    let (c, e) = begins_rest back a h in
    within_holds (turned a (z ∷ b)) (turned back (z ∷ [])) (
      turned c [],
      b,
      ap (λ (q : List ℕ). turned q (z ∷ b)) e ∙
          (turned_append back c (z ∷ b) ∙
          (turned_split c (turned back (z ∷ b)) ∙
          ap (λ (q : List ℕ). turned c [] ++ q)
          (turned_split back (z ∷ b) ∙ (sym (append_assoc (turned back []) (z ∷ []) b) ∙ ap (λ (q : List ℕ). q ++ b) (sym (turned_split back (z ∷ []))))))),
    )

held_before : (z : ℕ) (back a b : List ℕ) → Rising (turned a (z ∷ b)) → T (holds (turned a (z ∷ b)) (turned back (z ∷ []))) → T (begins back a)
held_before z back a b up h =
    let (l, r, e) = holds_within (turned a (z ∷ b)) (turned back (z ∷ [])) h in
    let at : turned a [] ++ (z ∷ b) ≡ (l ++ turned back []) ++ (z ∷ r) =
    sym (turned_split a (z ∷ b)) ∙ (e ∙ (ap (λ (q : List ℕ). l ++ (q ++ r)) (turned_split back (z ∷ [])) ∙ simp append_assoc)) in
    let same = (one_place z (turned a []) b (l ++ turned back []) r (subst Rising (turned_split a (z ∷ b)) up) at).0 in
    let whole : a ≡ back ++ turned l [] =
    sym (append-nil a) ∙
    (sym (turned_turned a [] []) ∙ (ap (λ (q : List ℕ). turned q []) same ∙ (turned_append l (turned back []) [] ∙ turned_turned back [] (turned l [])))) in
    subst (λ (q : List ℕ). T (begins back q)) (sym whole) (begins_append back (turned l []))

-- ---- a path cut at a vertex v: how it arrives there, the nearest vertex first, and how it goes on

module _ {E : Type 0} (G : Graph E) where
  abbrev pub Arrives : List ℕ → ℕ → Type 0
  Arrives [] v = T (is_start G v)
  Arrives (u ∷ a) v = T (has_arc G.arcs u v) × Arrives a u

  abbrev pub Leaves : ℕ → List ℕ → Type 0
  Leaves v [] = T (is_end G v)
  Leaves v (w ∷ b) = T (has_arc G.arcs v w) × Leaves w b

  leaves_out : (v : ℕ) (b : List ℕ) → T (linked G.arcs (v ∷ b)) → T (is_end G (last_of v b)) → Leaves v b
  leaves_out v [] l e = e
  leaves_out v (w ∷ b) l e = (linked_first G.arcs v w b l, leaves_out w b (linked_rest G.arcs v w b l) e)

  leaves_in : (v : ℕ) (b : List ℕ) → Leaves v b → T (linked G.arcs (v ∷ b)) × T (is_end G (last_of v b))
  leaves_in v [] h = (tt, h)
  leaves_in v (w ∷ b) h =
      let (l, e) = leaves_in w b h.1 in
      (and_in (has_arc G.arcs v w) (linked G.arcs (w ∷ b)) h.0 l, e)

  pub path_cut : (a : List ℕ) (v : ℕ) (b : List ℕ) → T (is_path G (turned a (v ∷ b))) → Arrives a v × Leaves v b
  path_cut [] v b h = (path_start G v b h, leaves_out v b (path_linked G v b h) (path_end_lem G v b h))
  path_cut (u ∷ a) v b h =
      let (l, r) = path_cut a u (v ∷ b) h in
      ((r.0, l), r.1)

  path_whole : (a : List ℕ) (v : ℕ) (b : List ℕ) → Arrives a v → Leaves v b → T (is_path G (turned a (v ∷ b)))
  path_whole [] v b s l = let (k, e) = leaves_in v b l in path_from_parts G v b s k e
  path_whole (u ∷ a) v b s l = path_whole a u (v ∷ b) s.1 (s.0, l)

  arrives_below : All (Rises (length G.vertices)) G.arcs → (a : List ℕ) (v : ℕ) → Arrives a v → All (λ u. u < v) a
  arrives_below up [] v s = tt
  arrives_below up (u ∷ a) v s =
      let l = (arc_rises (length G.vertices) G.arcs u v up s.0).0 in
      (l, all_weaken (λ w. w < u) (λ w. w < v) a (λ w k. omega arith) (arrives_below up a u s.1))

  leaves_above : All (Rises (length G.vertices)) G.arcs → (v : ℕ) (b : List ℕ) → Leaves v b → All (λ w. v < w) b
  leaves_above up v [] h = tt
  leaves_above up v (w ∷ b) h =
      let l = (arc_rises (length G.vertices) G.arcs v w up h.0).0 in
      (l, all_weaken (λ x. w < x) (λ x. v < x) b (λ x k. omega arith) (leaves_above up w b h.1))

  -- the way a, entering the stretch t, back from outside or behind its first vertex
  abbrev Enters : ℕ → List ℕ → List ℕ → Type 0
  Enters t back [] = T (opens G t back)
  Enters t back (u ∷ a) = T (steps G t back u) × Arrives a u

  -- ---- putting on: vertices of the stretch in front of a, so that the way arrives at t without the whole of back

  abbrev pub Chain : ℕ → List ℕ → Type 0
  Chain t [] = Unit {0}
  Chain t (y ∷ back) = T (has_arc G.arcs y t) × Chain y back

  pub chain : (t : ℕ) (b back : List ℕ) → T (linked G.arcs (turned back (t ∷ b))) → Chain t back × T (linked G.arcs (t ∷ b))
  chain t b [] h = (tt, h)
  chain t b (y ∷ back) h =
      let (c, l) = chain y (t ∷ b) back h in
      ((linked_first G.arcs y t b l, c), linked_rest G.arcs y t b l)

  -- a way that arrives at t, with a behind what was put on, and does not run along the whole of back
  abbrev PutOn : ℕ → List ℕ → List ℕ → Type 0
  PutOn t back a = (k : List ℕ) × Arrives (k ++ a) t × (T (begins back (k ++ a)) → ⊥)

  put_later : (t y : ℕ) (back a : List ℕ) → T (has_arc G.arcs y t) → PutOn y back a → PutOn t (y ∷ back) a
  put_later t y back a h (k, s, n) = (y ∷ k, (h, s), λ b. n (and_r (eqb y y) (begins back (k ++ a)) b))

  put_on : (t : ℕ) (back a : List ℕ) → Chain t back → Enters t back a → PutOn t back a
  put_on t [] [] c h = absurd h
  put_on t [] (u ∷ a) c h = absurd h.0
  put_on t (y ∷ back) [] c h =
      elim (or_cases (is_start G t) (opens G y back) h) [
        | inl s ↦ ([], s, λ b. b)
        | inr o ↦ put_later t y back [] c.0 (put_on y back [] c.1 o)
      ]
  put_on t (y ∷ back) (u ∷ a) c h =
      elim (or_cases (has_arc G.arcs u t && not (eqb u y)) (steps G y back u) h.0) [
        | inl s ↦ (
          [],
          (and_l (has_arc G.arcs u t) (not (eqb u y)) s, h.1),
          λ b. T_not (eqb u y) (and_r (has_arc G.arcs u t) (not (eqb u y)) s)
              (subst (λ (x : ℕ). T (eqb x y)) (eqb→eq y u (and_l (eqb y u) (begins back a) b)) (eqb_refl y)),
        )
        | inr s ↦ put_later t y back (u ∷ a) c.0 (put_on y back (u ∷ a) c.1 (s, h.1))
      ]

  -- ---- taking off: what a has of back, from the nearest vertex on

  enters_later : (t y : ℕ) (back a : List ℕ) → Enters y back a → Enters t (y ∷ back) a
  enters_later t y back [] h = or_r (is_start G t) (opens G y back) h
  enters_later t y back (u ∷ a) h = (or_r (has_arc G.arcs u t && not (eqb u y)) (steps G y back u) h.0, h.1)

  abbrev off : List ℕ → List ℕ → List ℕ
  off [] a = a
  off (y ∷ back) [] = []
  off (y ∷ back) (u ∷ a) = cond (eqb u y) (off back a) (u ∷ a)

  off_enters : (t : ℕ) (back a : List ℕ) → Arrives a t → (T (begins back a) → ⊥) → Enters t back (off back a)
  off_enters t [] a s n = absurd (n tt)
  off_enters t (y ∷ back) [] s n = or_l (is_start G t) (opens G y back) s
  off_enters t (y ∷ back) (u ∷ a) s n = go (test (eqb u y)) (off_enters u back a s.1)
    where
      go : T (eqb u y) ⊎ (T (eqb u y) → ⊥) → ((T (begins back a) → ⊥) → Enters u back (off back a)) →
          Enters t (y ∷ back) (cond (eqb u y) (off back a) (u ∷ a))
      go (inl e) more =
          rw (is_true (eqb u y) e)
          (enters_later t y back (off back a)
          (subst (λ (x : ℕ). Enters x back (off back a)) (eqb→eq u y e)
          (more (λ b. n (and_in (eqb y u) (begins back a) (subst (λ (x : ℕ). T (eqb y x)) (sym (eqb→eq u y e)) (eqb_refl y)) b)))))
      go (inr f) more =
          rw (is_false (eqb u y) f)
          (or_l (has_arc G.arcs u t && not (eqb u y)) (steps G y back u) (and_in (has_arc G.arcs u t) (not (eqb u y)) s.0 (not_T (eqb u y) f)), s.1)

  off_keeps : (v : ℕ) (back a : List ℕ) → OneOf a v → OneOf (off back a) v ⊎ OneOf back v
  off_keeps v [] a m = inl m
  off_keeps v (y ∷ back) [] m = absurd m
  off_keeps v (y ∷ back) (u ∷ a) m = go (test (eqb u y)) m (off_keeps v back a)
    where
      go : T (eqb u y) ⊎ (T (eqb u y) → ⊥) → OneOf (u ∷ a) v → (OneOf a v → OneOf (off back a) v ⊎ OneOf back v) →
          OneOf (cond (eqb u y) (off back a) (u ∷ a)) v ⊎ OneOf (y ∷ back) v
      go (inl e) (inl d) more = inr (inl (d ∙ eqb→eq u y e))
      go (inl e) (inr k) more = rw (is_true (eqb u y) e) (elim (more k) [ inl h ↦ inl h | inr h ↦ inr (inr h) ])
      go (inr f) k more = rw (is_false (eqb u y) f) (inl k)

-- ---- a list of lists changed one by one: as many, each from one and to one

images : {A B : Type 0} (R : A → B → Type 0) (xs : List A) → All (λ x. (y : B) × R x y) xs →
    (ys : List B) × (length ys ≡ length xs) × All (λ x. (y : B) × OneOf ys y × R x y) xs × All (λ y. (x : A) × OneOf xs x × R x y) ys
images R [] h = ([], refl, tt, tt)
images R (x ∷ xs) ((y, r), h) =
    let (ys, e, to, from) = images R xs h in (
      y ∷ ys,
      ap suc e,
      ((y, inl refl, r), all_weaken _ _ xs (λ w k. (k.0, inr k.1, k.2)) to),
      ((x, inl refl, r), all_weaken _ _ ys (λ w k. (k.0, inr k.1, k.2)) from),
    )

-- the path of a cover that holds r
pub holder : (Q : List (List ℕ)) (r : List ℕ) → T (some_holds Q r) → (q : List ℕ) × OneOf Q q × T (holds q r)
holder Q r h = let (q, m, w) = some_held Q r h in (q, m, within_holds q r w)

module _ {E : Type 0} (G H : Graph E) (g : WellFormed G) (up : All (Rises (length H.vertices)) H.arcs) (z y : ℕ) (back : List ℕ)
    (barred : Barred G z (y ∷ back) H) where
  -- ---- what is the same in G and H: everything that does not lead to z

  at_z : {A : Type 0} (a b : A) → cond (eqb z z) a b ≡ a
  at_z a b = rw (is_true (eqb z z) (eqb_refl z))

  not_z : {A : Type 0} (v : ℕ) (a b : A) → v ≢ z → cond (eqb v z) a b ≡ b
  not_z v a b n = rw (is_false (eqb v z) (λ t. n (eqb→eq v z t)))

  same_start : (v : ℕ) → v ≢ z → is_start H v ≡ is_start G v
  same_start v n = barred.starts_are v ∙ not_z v (opens G z (y ∷ back)) (is_start G v) n

  same_arc : (u v : ℕ) → v ≢ z → has_arc H.arcs u v ≡ has_arc G.arcs u v
  same_arc u v n = barred.arcs_are u v ∙ not_z v (steps G z (y ∷ back) u) (has_arc G.arcs u v) n

  same_arrives : (a : List ℕ) (v : ℕ) → v ≢ z → All (λ u. u ≢ z) a → Arrives H a v ≡ Arrives G a v
  same_arrives [] v n h = ap T (same_start v n)
  same_arrives (u ∷ a) v n h = ap₂ (λ (s : Bool) (X : Type 0). T s × X) (same_arc u v n) (same_arrives a u h.0 h.1)

  same_leaves : (v : ℕ) (b : List ℕ) → All (λ w. w ≢ z) b → Leaves H v b ≡ Leaves G v b
  same_leaves v [] h = ap T (barred.ends_are v)
  same_leaves v (w ∷ b) h = ap₂ (λ (s : Bool) (X : Type 0). T s × X) (same_arc v w h.0) (same_leaves w b h.1)

  -- to arrive at z in H is to enter the stretch in G
  arrives_enters : (a : List ℕ) → All (λ u. u ≢ z) a → Arrives H a z ≡ Enters G z (y ∷ back) a
  arrives_enters [] h = ap T (barred.starts_are z ∙ at_z (opens G z (y ∷ back)) (is_start G z))
  arrives_enters (u ∷ a) h =
      ap₂ (λ (s : Bool) (X : Type 0). T s × X) (barred.arcs_are u z ∙ at_z (steps G z (y ∷ back) u) (has_arc G.arcs u z))
      (same_arrives a u h.0 h.1)

  -- a path without z is the same in both
  same_path_lem : (p : List ℕ) → (OneOf p z → ⊥) → is_path H p ≡ is_path G p
  same_path_lem [] n = refl
  same_path_lem (v ∷ p) n =
      ap₂ (λ (s t : Bool). s && t) (same_start v (λ e. n (inl (sym e))))
      (ap₂ (λ (s t : Bool). s && t) (same_linked v p (λ m. n (inr m))) (barred.ends_are (last_of v p)))
    where
      same_linked : (v : ℕ) (p : List ℕ) → (OneOf p z → ⊥) → linked H.arcs (v ∷ p) ≡ linked G.arcs (v ∷ p)
      same_linked v [] n = refl
      same_linked v (w ∷ p) n = ap₂ (λ (s t : Bool). s && t) (same_arc v w (λ e. n (inl (sym e)))) (same_linked w p (λ m. n (inr m)))

  below_not_z : (a : List ℕ) → All (λ u. u < z) a → All (λ u. u ≢ z) a
  below_not_z a h = all_weaken (λ u. u < z) (λ u. u ≢ z) a (λ u l e. omega arith) h

  above_not_z : (b : List ℕ) → All (λ w. z < w) b → All (λ w. w ≢ z) b
  above_not_z b h = all_weaken (λ w. z < w) (λ w. w ≢ z) b (λ w l e. omega arith) h

  -- the stretch without its last vertex, and the whole of it
  abbrev before : List ℕ
  before = turned (y ∷ back) []

  abbrev stretch : List ℕ
  stretch = turned (y ∷ back) (z ∷ [])

  -- ---- from a path of G that does not hold the stretch to a path of H

  -- r has what q has, but for vertices of the stretch before z; and if q holds all of those, they too
  record Off (q r : List ℕ) : Type 0 where
    pub is_a_path : T (is_path H r)
    pub keeps : (v : ℕ) → OneOf q v → OneOf r v ⊎ OneOf (y ∷ back) v
    pub keeps_all : T (holds q before) → (v : ℕ) → OneOf q v → OneOf r v

  -- where the vertices before z on the stretch stand in the path, and the stretch does not, nothing is taken off
  off_nothing : (a b : List ℕ) → T (is_path G (turned a (z ∷ b))) → (T (begins (y ∷ back) a) → ⊥) → T (holds (turned a (z ∷ b)) before) →
      off G (y ∷ back) a ≡ a
  off_nothing [] b h n k = refl
  off_nothing (u ∷ a) b h n k = go (test (eqb u y))
    where
      go : T (eqb u y) ⊎ (T (eqb u y) → ⊥) → cond (eqb u y) (off G back a) (u ∷ a) ≡ u ∷ a
      go (inl e) =
          let d = eqb→eq u y e in
          let at : T (holds (turned a (u ∷ z ∷ b)) (turned back (u ∷ []))) =
          subst (λ (x : ℕ). T (holds (turned a (u ∷ z ∷ b)) (turned back (x ∷ [])))) (sym d) k in
          absurd
          (n
          (and_in (eqb y u) (begins back a) (subst (λ (x : ℕ). T (eqb y x)) (sym d) (eqb_refl y))
          (held_before u back a (z ∷ b) (path_rising G g (turned a (u ∷ z ∷ b)) h) at)))
      go (inr f) = rw (is_false (eqb u y) f)

  cut_off : (a b : List ℕ) → T (is_path G (turned a (z ∷ b))) → (T (holds (turned a (z ∷ b)) stretch) → ⊥) →
      Off (turned a (z ∷ b)) (turned (off G (y ∷ back) a) (z ∷ b))
  cut_off a b h n =
      let (s, l) = path_cut G a z b h in
      let none : T (begins (y ∷ back) a) → ⊥ = λ t. n (before_held z (y ∷ back) a b t) in
      let low : All (λ u. u ≢ z) (off G (y ∷ back) a) = off_all (y ∷ back) a (below_not_z a (arrives_below G g.rises a z s)) in
      record {
        is_a_path =
            path_whole H (off G (y ∷ back) a) z b
            (subst (λ (X : Type 0). X) (sym (arrives_enters (off G (y ∷ back) a) low)) (off_enters G z (y ∷ back) a s none))
            (subst (λ (X : Type 0). X) (sym (same_leaves z b (above_not_z b (leaves_above G g.rises z b l)))) l);
        keeps =
            λ v m. elim (among_turned v a (z ∷ b) m) [
              | inl k ↦ elim (off_keeps G v (y ∷ back) a k) [ inl j ↦ inl (turned_left v (off G (y ∷ back) a) (z ∷ b) j) | inr j ↦ inr j ]
              | inr k ↦ inl (turned_right v (off G (y ∷ back) a) (z ∷ b) k)
            ];
        keeps_all = λ k v m. subst (λ (c : List ℕ). OneOf (turned c (z ∷ b)) v) (sym (off_nothing a b h none k)) m;
      }
    where
      off_all : (c d : List ℕ) → All (λ u. u ≢ z) d → All (λ u. u ≢ z) (off G c d)
      off_all [] d k = k
      off_all (x ∷ c) [] k = tt
      off_all (x ∷ c) (u ∷ d) k = either (eqb u x) (off_all c d k.1)
        where
          either : (t : Bool) → All (λ u. u ≢ z) (off G c d) → All (λ u. u ≢ z) (cond t (off G c d) (u ∷ d))
          either true j = j
          either false j = k

  path_off : (q : List ℕ) → T (is_path G q) → (T (holds q stretch) → ⊥) → (r : List ℕ) × Off q r
  path_off q h n = go (find z [] q)
    where
      go : ((b : List ℕ) × (c : List ℕ) × (q ≡ turned b (z ∷ c))) ⊎ (OneOf q z → ⊥) → (r : List ℕ) × Off q r
      go (inl (b, c, e)) = (
        turned (off G (y ∷ back) b) (z ∷ c),
        subst (λ (p : List ℕ). Off p (turned (off G (y ∷ back) b) (z ∷ c))) (sym e)
            (cut_off b c (subst (λ (p : List ℕ). T (is_path G p)) e h) (λ t. n (subst (λ (p : List ℕ). T (holds p stretch)) (sym e) t))),
      )
      go (inr none) = (q, record { is_a_path = subst T (sym (same_path_lem q none)) h; keeps = λ v m. inl m; keeps_all = λ k v m. m })

  -- a cover that avoids the stretch gives a cover of the barred graph, of as many paths, where the stretch before z is safe
  pub barred_cover : (most : ℕ) (Q : List (List ℕ)) → Safe G most (turned (y ∷ back) []) → PathCover G most Q →
      All (λ q. T (holds q (turned (y ∷ back) (z ∷ []))) → ⊥) Q → (R : List (List ℕ)) × PathCover H most R
  barred_cover most Q safe c avoid =
      let (R, e, to, from) = images Off Q (all_both _ _ _ Q (λ q h n. path_off q h n) c.are_paths avoid) in (
        R,
        record {
          are_paths = all_weaken _ _ R (λ r k. k.2.is_a_path) from;
          few = subst (λ (n : ℕ). n ≤ most) (sym e) c.few;
          touched =
              λ v l.
              let (q, m, h) = holder Q (v ∷ []) (c.touched v (subst (λ (n : ℕ). v < n) barred.same_count l)) in
              let (r, i, o) = all_among _ Q q to m in
              elim (o.keeps v (holds_one v q h)) [
                | inl k ↦ some_holds_lem r R (v ∷ []) i (one_holds v r k)
                | inr k ↦ on_stretch R to v k
              ];
        },
      )
    where
      on_stretch : (R : List (List ℕ)) → All (λ q. (r : List ℕ) × OneOf R r × Off q r) Q → (v : ℕ) → OneOf (y ∷ back) v → T (some_holds R (v ∷ []))
      on_stretch R to v k =
          let (q, m, h) = holder Q before (safe Q c) in
          let (r, i, o) = all_among _ Q q to m in
          let (a, b, e) = holds_within q before h in
          some_holds_lem r R (v ∷ []) i
          (one_holds v r
          (o.keeps_all h v (subst (λ (p : List ℕ). OneOf p v) (sym e) (among_right v a (before ++ b) (among_left v before b (turned_left v (y ∷ back) [] k))))))

  -- ---- from a path of H to a path of G that does not hold the stretch

  -- q does not hold the stretch, and has what r has
  record On (r q : List ℕ) : Type 0 where
    pub is_a_path : T (is_path G q)
    pub avoids : T (holds q stretch) → ⊥
    pub keeps : (v : ℕ) → OneOf r v → OneOf q v

  module _ (joined : T (linked G.arcs stretch)) where
    put_back : (a b : List ℕ) → T (is_path H (turned a (z ∷ b))) → (q : List ℕ) × On (turned a (z ∷ b)) q
    put_back a b h =
        let (s, l) = path_cut H a z b h in
        let low = below_not_z a (arrives_below H up a z s) in
        let (k, w, n) = put_on G z (y ∷ back) a (chain G z [] (y ∷ back) joined).0 (subst (λ (X : Type 0). X) (arrives_enters a low) s) in
        let whole = path_whole G (k ++ a) z b w (subst (λ (X : Type 0). X) (same_leaves z b (above_not_z b (leaves_above H up z b l))) l) in (
          turned (k ++ a) (z ∷ b),
          record {
            is_a_path = whole;
            avoids = λ t. n (held_before z (y ∷ back) (k ++ a) b (path_rising G g (turned (k ++ a) (z ∷ b)) whole) t);
            keeps =
                λ v m. elim (among_turned v a (z ∷ b) m) [
                  | inl i ↦ turned_left v (k ++ a) (z ∷ b) (among_right v k a i)
                  | inr i ↦ turned_right v (k ++ a) (z ∷ b) i
                ];
          },
        )

    path_on : (r : List ℕ) → T (is_path H r) → (q : List ℕ) × On r q
    path_on r h = go (find z [] r)
      where
        go : ((b : List ℕ) × (c : List ℕ) × (r ≡ turned b (z ∷ c))) ⊎ (OneOf r z → ⊥) → (q : List ℕ) × On r q
        go (inl (b, c, e)) =
            subst (λ (p : List ℕ). (q : List ℕ) × On p q) (sym e) (put_back b c (subst (λ (p : List ℕ). T (is_path H p)) e h))
        go (inr none) = (
          r,
          record {
            is_a_path = subst T (same_path_lem r none) h;
            avoids =
                λ t.
                let (a, b, e) = holds_within r stretch t in
                none
                (subst (λ (p : List ℕ). OneOf p z) (sym e)
                (among_right z a (stretch ++ b) (among_left z stretch b (turned_right z (y ∷ back) (z ∷ []) (inl refl)))));
            keeps = λ v m. m;
          },
        )

    -- a cover of the barred graph gives a cover, of as many paths, none of which holds the stretch
    pub avoiding_cover : (most : ℕ) (R : List (List ℕ)) → PathCover H most R →
        (Q : List (List ℕ)) × PathCover G most Q × All (λ q. T (holds q (turned (y ∷ back) (z ∷ []))) → ⊥) Q
    avoiding_cover most R c =
        let (Q, e, to, from) = images On R (all_weaken _ _ R (λ r h. path_on r h) c.are_paths) in (
          Q,
          record {
            are_paths = all_weaken _ _ Q (λ q k. k.2.is_a_path) from;
            few = subst (λ (n : ℕ). n ≤ most) (sym e) c.few;
            touched =
                λ v l.
                let (r, m, h) = holder R (v ∷ []) (c.touched v (subst (λ (n : ℕ). v < n) (sym barred.same_count) l)) in
                let (q, i, o) = all_among _ R r to m in
                some_holds_lem q Q (v ∷ []) i (one_holds v q (o.keeps v (holds_one v r h)));
          },
          all_weaken _ _ Q (λ q k. k.2.avoids) from,
        )

    -- Document 004, Theorem 2: where the stretch before its last vertex is safe, it is safe exactly when the barred graph has no cover of at most that many
    -- paths. (Its first case, a last vertex that is not entered or one before it that is not left, is one in which the barred graph has no cover at all.)
    pub safe_iff_barred : (most : ℕ) → Safe G most (turned (y ∷ back) []) →
        Safe G most (turned (y ∷ back) (z ∷ [])) ↔ ((R : List (List ℕ)) → PathCover H most R → ⊥)
    safe_iff_barred most safe = (
      λ whole R c.
          let (Q, d, avoid) = avoiding_cover most R c in
          let (q, m, h) = holder Q stretch (whole Q d) in
          all_among (λ q. T (holds q stretch) → ⊥) Q q avoid m h,
      λ none Q c. go none Q c (test (some_holds Q stretch)),
    )
      where
        go : ((R : List (List ℕ)) → PathCover H most R → ⊥) → (Q : List (List ℕ)) → PathCover G most Q →
            T (some_holds Q stretch) ⊎ (T (some_holds Q stretch) → ⊥) → T (some_holds Q stretch)
        go none Q c (inl t) = t
        go none Q c (inr f) =
            let (R, d) = barred_cover most Q safe c (all_from _ Q (λ q m t. f (some_holds_lem q Q stretch m t))) in
            absurd (none R d)
