-- From any node a tree grows over all nodes, with marks raised outside the tree as it needs: one node at each step, so as many steps as there are nodes.
use Prim.Native.Nat.{ℕ, zero, suc, ◌+◌, ◌≤◌}
use native.Mathlib.Omega.{arith}
use mathlib.Core.Path.{◌≡◌, refl, ◌∙◌}
use mathlib.Core.List.{List, [], ◌∷◌}
use mathlib.Core.Bool.{Bool, not, ◌&&◌}
use mathlib.Core.Logic.{◌⊎◌, inl, inr}
use lib.Dec.{T, T_not, not_T, leb, leb→le}
use lib.ListN.{length}
use Rattle.mathematics.specs.Price.{Prices, Ordered, Le}
use Rattle.mathematics.specs.Lists.{All}
use Rattle.mathematics.specs.Range.{OneOf}
use Rattle.mathematics.proofs.Basics.{and_in, and_l, and_r, all_among, all_from, all_weaken, test}
use Rattle.mathematics.proofs.Network.{Edge, Load, IsNode, Sound, slack, edges_of, Walk, stop, step}
use Rattle.mathematics.proofs.Tree.{member, outside, outside_below, outside_join, Lacks, HasAll, lacking, Tree, seed, forth, back, seed_in, under_other_marks}
use Rattle.mathematics.proofs.Shift.{raise, raise_inside, leaves, enters, raise_sound, raise_tight}

-- one of the list that passes the test, unless none does
find : {A : Type 0} (t : A → Bool) (xs : List A) → ((x : A) × OneOf xs x × T (t x)) ⊎ All (λ x. T (t x) → ⊥) xs
find t [] = inr tt
find {A} t (x ∷ xs) = go (test (t x)) (find t xs)
  where
    go : T (t x) ⊎ (T (t x) → ⊥) → ((y : A) × OneOf xs y × T (t y)) ⊎ All (λ y. T (t y) → ⊥) xs →
        ((y : A) × OneOf (x ∷ xs) y × T (t y)) ⊎ All (λ y. T (t y) → ⊥) (x ∷ xs)
    go (inl h) r = inl (x, inl refl, h)
    go (inr h) (inl r) = inl (r.0, inr r.1, r.2)
    go (inr h) (inr r) = inr (h, r)

-- the edge's load
loaded : {E : Type 0} (loads : List (Load E)) (e : Edge E) → OneOf (edges_of loads) e → (x : Load E) × OneOf loads x × (e ≡ x.edge)
loaded [] e m = absurd m
loaded (x ∷ xs) e (inl h) = (x, inl refl, h)
loaded (x ∷ xs) e (inr m) = let r = loaded xs e m in (r.0, inr r.1, r.2)

-- a walk from a node of S to a node outside leaves S by an edge
walk_leaves : {E : Type 0} (edges : List (Edge E)) (S : List ℕ) (u w : ℕ) → Walk edges u w → T (member S u) → (T (member S w) → ⊥) →
    (e : Edge E) × OneOf edges e × T (member S e.from) × (T (member S e.to) → ⊥)
walk_leaves edges S u w stop i o = absurd (o i)
walk_leaves edges S u w (step e m walk) i o =
    elim (test (member S e.to)) [ inl j ↦ walk_leaves edges S e.to w walk j o | inr j ↦ (e, m, i, j) ]

module _ (P : Prices) where
  -- of x and those of the list ys that pass the test t, one at which f is least
  record Least {A : Type 0} (f : A → P.El) (t : A → Bool) (x : A) (ys : List A) : Type 0 where
    one : A
    passes : T (t one)
    among : OneOf (x ∷ ys) one
    below_first : Le P (f one) (f x)
    below : All (λ y. T (t y) → Le P (f one) (f y)) ys

  -- marks and a tree that has one node more than S
  record Extended (live : ℕ → Bool) (N : ℕ) (loads : List (Load P.El)) (p : ℕ → P.El) (s : ℕ) (S : List ℕ) : Type 0 where
    marks : ℕ → P.El
    new : ℕ
    new_node : IsNode live N new
    not_in : T (member S new) → ⊥
    tree : Tree P loads marks s (new ∷ S)
    sound : All (Sound P live N marks) loads
    kept : marks s ≡ p s

  -- marks and a tree from s over all nodes; the mark of s is what it was
  pub record Grown (live : ℕ → Bool) (N : ℕ) (loads : List (Load P.El)) (p : ℕ → P.El) (s : ℕ) : Type 0 where
    pub marks : ℕ → P.El
    pub nodes : List ℕ
    pub tree : Tree P loads marks s nodes
    pub all_nodes : HasAll live nodes N
    pub few : length nodes ≤ N
    pub sound : All (Sound P live N marks) loads
    pub kept : marks s ≡ p s

module _ (P : Prices) (L : Ordered P) where
  least : {A : Type 0} (f : A → P.El) (t : A → Bool) (x : A) → T (t x) → (ys : List A) → Least P f t x ys
  least f t x h [] = record { one = x; passes = h; among = inl refl; below_first = L.le_refl (f x); below = tt }
  least {A} f t x h (y ∷ ys) = go (least f t x h ys) (test (t y))
    where
      skip : (r : Least P f t x ys) → (T (t y) → Le P (f r.one) (f y)) → Least P f t x (y ∷ ys)
      skip r b =
          record {
            one = r.one;
            passes = r.passes;
            among = elim r.among [ inl e ↦ inl e | inr m ↦ inr (inr m) ];
            below_first = r.below_first;
            below = (b, r.below);
          }

      take : (r : Least P f t x ys) → T (t y) → Le P (f y) (f r.one) → Least P f t x (y ∷ ys)
      take r ty b =
          record {
            one = y;
            passes = ty;
            among = inr (inl refl);
            below_first = L.le_trans (f y) (f r.one) (f x) b r.below_first;
            below = (
              λ u. L.le_refl (f y),
              all_weaken (λ w. T (t w) → Le P (f r.one) (f w)) (λ w. T (t w) → Le P (f y) (f w)) ys
                  (λ w k u. L.le_trans (f y) (f r.one) (f w) b (k u)) r.below,
            );
          }

      go : Least P f t x ys → T (t y) ⊎ (T (t y) → ⊥) → Least P f t x (y ∷ ys)
      go r (inl ty) = elim (L.le_total (f r.one) (f y)) [ inl b ↦ skip r (λ u. b) | inr b ↦ take r ty b ]
      go r (inr n) = skip r (λ ty. absurd (n ty))

  module _ (live : ℕ → Bool) (N : ℕ) (loads : List (Load P.El)) (p : ℕ → P.El) (s : ℕ) (S : List ℕ) where
    -- back along an edge that enters S and carries something
    extend_back : All (Sound P live N p) loads → Tree P loads p s S → (x : Load P.El) → OneOf loads x → T (enters P S x) → Extended P live N loads p s S
    extend_back h tree x m t =
        let f = member S x.edge.from in
        let more = and_r (not f) (member S x.edge.to && leb 1 x.amount) t in
        let carries : 1 ≤ x.amount = leb→le 1 x.amount (and_r (member S x.edge.to) (leb 1 x.amount) more) in
        let o : T f → ⊥ = T_not f (and_l (not f) (member S x.edge.to && leb 1 x.amount) t) in
        let ok = all_among (Sound P live N p) loads x h m in
        record {
          marks = p;
          new = x.edge.from;
          new_node = ok.from_node;
          not_in = o;
          tree = back tree x m (ok.tight carries) (and_l (member S x.edge.to) (leb 1 x.amount) more) o carries;
          sound = h;
          kept = refl;
        }

    -- forth along an edge of least slack that leaves S, after a shift by that slack
    extend_by : All (Sound P live N p) loads → Tree P loads p s S → All (λ x. T (enters P S x) → ⊥) loads → (x : Load P.El) → OneOf loads x → T (leaves P S x) →
        All (λ y. T (leaves P S y) → Le P (slack P p x.edge) (slack P p y.edge)) loads → Extended P live N loads p s S
    extend_by h tree none x m t below =
        let d = slack P p x.edge in
        let f = member S x.edge.from in
        let g = member S x.edge.to in
        let o : T g → ⊥ = T_not g (and_r f (not g) t) in
        let ok = all_among (Sound P live N p) loads x h m in
        record {
          marks = raise P p S d;
          new = x.edge.to;
          new_node = ok.to_node;
          not_in = o;
          tree =
              forth (under_other_marks P loads p (raise P p S d) s S tree (λ u k. raise_inside P p S d u k)) x m (raise_tight P L p S x.edge (and_l f (not g) t) o)
              (and_l f (not g) t) o;
          sound =
              all_from (Sound P live N (raise P p S d)) loads
              (λ y n. raise_sound P L live N p S d y ok.slack_holds (all_among (Sound P live N p) loads y h n)
              (all_among (λ y. T (leaves P S y) → Le P (slack P p x.edge) (slack P p y.edge)) loads y below n) (all_among (λ y. T (enters P S y) → ⊥) loads y none n));
          kept = raise_inside P p S d s (seed_in P loads p s S tree);
        }

    extend_forth : All (Sound P live N p) loads → Tree P loads p s S → All (λ x. T (enters P S x) → ⊥) loads → (x : Load P.El) → OneOf loads x → T (leaves P S x) →
        Extended P live N loads p s S
    extend_forth h tree none x m t =
        let r = least (λ (y : Load P.El). slack P p y.edge) (leaves P S) x t loads in
        extend_by h tree none r.one (elim r.among [ inl e ↦ rw e m | inr n ↦ n ]) r.passes r.below

    -- where S lacks a node that a walk from s leads to
    extend : All (Sound P live N p) loads → Tree P loads p s S → (w : ℕ) → Walk (edges_of loads) s w → (T (member S w) → ⊥) → Extended P live N loads p s S
    extend h tree w walk o = go (find (enters P S) loads)
      where
        go : ((x : Load P.El) × OneOf loads x × T (enters P S x)) ⊎ All (λ x. T (enters P S x) → ⊥) loads → Extended P live N loads p s S
        go (inl r) = extend_back h tree r.0 r.1 r.2
        go (inr none) =
            let e = walk_leaves (edges_of loads) S s w walk (seed_in P loads p s S tree) o in
            let x = loaded loads e.0 e.1 in
            extend_forth h tree none x.0 x.1
            (rw (← x.2) (and_in (member S e.0.from) (not (member S e.0.to)) e.2 (not_T (member S e.0.to) e.3)))

  from_there : (live : ℕ → Bool) (N : ℕ) (loads : List (Load P.El)) (p q : ℕ → P.El) (s : ℕ) → q s ≡ p s → Grown P live N loads q s → Grown P live N loads p s
  from_there live N loads p q s e g =
      record { marks = g.marks; nodes = g.nodes; tree = g.tree; all_nodes = g.all_nodes; few = g.few; sound = g.sound; kept = g.kept ∙ e }

  -- S is all, or there is more to do
  when_all : (live : ℕ → Bool) (N : ℕ) (loads : List (Load P.El)) (p : ℕ → P.El) (s : ℕ) (S : List ℕ) → length S + outside live S N ≤ N → All (Sound P live N p) loads →
      Tree P loads p s S → (Lacks live S N → Grown P live N loads p s) → Grown P live N loads p s
  when_all live N loads p s S count h tree more = elim (lacking live S N) [
    | inl r ↦ more r
    | inr all ↦ record { marks = p; nodes = S; tree = tree; all_nodes = all; few = omega arith; sound = h; kept = refl }
  ]

  -- as many steps as there are nodes outside
  grow_on : (steps : ℕ) (live : ℕ → Bool) (N : ℕ) (loads : List (Load P.El)) (p : ℕ → P.El) (s : ℕ) (S : List ℕ) → outside live S N ≤ steps → length S + outside live S N ≤ N →
      ((w : ℕ) → IsNode live N w → Walk (edges_of loads) s w) → All (Sound P live N p) loads → Tree P loads p s S → Grown P live N loads p s
  grow_on zero live N loads p s S few count walks h tree =
      when_all live N loads p s S count h tree (λ r. absurd (omega (arith, outside_join live S r.0 N r.1 r.2 r.3)))
  grow_on (suc steps) live N loads p s S few count walks h tree =
      when_all live N loads p s S count h tree
      (λ r.
      let e = extend live N loads p s S h tree r.0 (walks r.0 (r.1, r.2)) r.3 in
      let fewer = outside_join live S e.new N e.new_node.0 e.new_node.1 e.not_in in
      from_there live N loads p e.marks s e.kept
      (grow_on steps live N loads e.marks s (e.new ∷ S) (omega (arith, fewer)) (omega (arith, fewer)) walks e.sound e.tree))

  -- from a node with walks to all nodes a tree grows over all nodes
  pub grow : (live : ℕ → Bool) (N : ℕ) (loads : List (Load P.El)) (p : ℕ → P.El) (s : ℕ) → IsNode live N s → ((w : ℕ) → IsNode live N w → Walk (edges_of loads) s w) →
      All (Sound P live N p) loads → Grown P live N loads p s
  grow live N loads p s n walks h =
      let fewer = outside_join live [] s N n.0 n.1 (λ m. m) in
      let below = outside_below live [] N in
      grow_on N live N loads p s (s ∷ []) (omega (arith, fewer, below)) (omega (arith, fewer, below)) walks h seed
