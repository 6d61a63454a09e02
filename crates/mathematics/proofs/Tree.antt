-- Trees that grow from a node along edges of slack nil, forth, or back where the edge carries something. Each node of the tree notes the edge by which it came,
-- so a recursion on the tree follows the way from the seed to a node, and no argument about simple paths is needed.
use Prim.Native.Nat.{ℕ, zero, suc, ◌+◌, ◌≤◌, ◌<◌}
use native.Mathlib.Omega.{arith}
use native.Mathlib.Nat.{le_refl}
use mathlib.Core.Path.{◌≡◌, refl, sym, ap, ap₂, ◌∙◌}
use mathlib.Core.List.{List, [], ◌∷◌}
use mathlib.Core.Bool.{Bool, true, false, not, ◌&&◌, ◌||◌}
use mathlib.Core.Logic.{◌⊎◌, inl, inr, ◌≢◌}
use lib.Dec.{T, T_not, eqb, eqb→eq, eqb_refl}
use lib.ListN.{length}
use Rattle.mathematics.specs.Price.{Prices, Ordered}
use Rattle.mathematics.specs.Cover.{one_if}
use Rattle.mathematics.specs.Range.{OneOf}
use Rattle.mathematics.proofs.Basics.{or_cases, or_l, or_r, and_l, and_r, among_map, is_false, test}
use Rattle.mathematics.proofs.Algebra.{eq_of_sub, sub_from}
use Rattle.mathematics.proofs.Network.{Edge, Load, edges_of, slack, WayWithin, here, forward, backward}

-- u is one of the nodes S
abbrev pub member : List ℕ → ℕ → Bool
member [] u = false
member (v ∷ S) u = eqb u v || member S u

pub member_here : (v : ℕ) (S : List ℕ) → T (member (v ∷ S) v)
member_here v S = or_l (eqb v v) (member S v) (eqb_refl v)

pub member_there : (v : ℕ) (S : List ℕ) (u : ℕ) → T (member S u) → T (member (v ∷ S) u)
member_there v S u m = or_r (eqb u v) (member S u) m

pub member_cases : (v : ℕ) (S : List ℕ) (u : ℕ) → T (member (v ∷ S) u) → (u ≡ v) ⊎ T (member S u)
member_cases v S u m = elim (or_cases (eqb u v) (member S u) m) [ inl t ↦ inl (eqb→eq u v t) | inr t ↦ inr t ]

-- how many nodes below n are not among S
abbrev pub outside : (ℕ → Bool) → List ℕ → ℕ → ℕ
outside live S zero = 0
outside live S (suc n) = one_if (live n && not (member S n)) + outside live S n

pub outside_below : (live : ℕ → Bool) (S : List ℕ) (n : ℕ) → outside live S n ≤ n
outside_below live S zero = omega arith
outside_below live S (suc n) = few (live n && not (member S n)) (outside_below live S n)
  where
    few : (b : Bool) → outside live S n ≤ n → one_if b + outside live S n ≤ suc n
    few true h = omega arith
    few false h = omega arith

outside_same : (live : ℕ → Bool) (S : List ℕ) (v n : ℕ) → n ≤ v → outside live (v ∷ S) n ≡ outside live S n
outside_same live S v zero h = refl
outside_same live S v (suc n) h =
    ap₂ (λ e k. one_if (live n && not (e || member S n)) + k) (is_false (eqb n v) (λ t. apart (eqb→eq n v t))) (outside_same live S v n (omega arith))
  where
    apart : n ≡ v → ⊥
    apart e = omega arith

-- a node that joins S leaves one node fewer outside
pub outside_join : (live : ℕ → Bool) (S : List ℕ) (v n : ℕ) → v < n → T (live v) → (T (member S v) → ⊥) → suc (outside live (v ∷ S) n) ≡ outside live S n
outside_join live S v zero h l m = omega arith
outside_join live S v (suc n) h l m = elim (test (eqb n v)) [ inl t ↦ same t | inr t ↦ other t (λ k. outside_join live S v n k l m) ]
  where
    one : (l e m : Bool) → T l → T e → (T m → ⊥) → suc (one_if (l && not (e || m))) ≡ one_if (l && not m)
    one true true true l e m = absurd (m tt)
    one true true false l e m = refl
    one true false b l e m = absurd e
    one false c b l e m = absurd l

    same : T (eqb n v) → suc (outside live (v ∷ S) (suc n)) ≡ outside live S (suc n)
    same t =
        let e : n ≡ v = eqb→eq n v t in
        omega (arith, one (live n) (eqb n v) (member S n) (rw e l) t (rw e m), outside_same live S v n (omega arith))

    other : (T (eqb n v) → ⊥) → (v < n → suc (outside live (v ∷ S) n) ≡ outside live S n) → suc (outside live (v ∷ S) (suc n)) ≡ outside live S (suc n)
    other t rec =
        let d : n ≢ v = λ e. t (rw e (eqb_refl v)) in
        omega (arith, ap (λ e. one_if (live n && not (e || member S n))) (is_false (eqb n v) t), rec (omega arith))

-- a node that S lacks, unless S has them all
abbrev pub Lacks : (ℕ → Bool) → List ℕ → ℕ → Type 0
Lacks live S n = (u : ℕ) × (u < n) × T (live u) × (T (member S u) → ⊥)

abbrev pub HasAll : (ℕ → Bool) → List ℕ → ℕ → Type 0
HasAll live S n = (u : ℕ) → u < n → T (live u) → T (member S u)

pub lacking : (live : ℕ → Bool) (S : List ℕ) (n : ℕ) → Lacks live S n ⊎ HasAll live S n
lacking live S zero = inr (λ u h. absurd (omega arith))
lacking live S (suc n) = go (test (live n && not (member S n))) (lacking live S n)
  where
    last : (l m : Bool) → (T (l && not m) → ⊥) → T l → T m
    last true true h l = tt
    last true false h l = h tt
    last false m h l = absurd l

    go : T (live n && not (member S n)) ⊎ (T (live n && not (member S n)) → ⊥) → Lacks live S n ⊎ HasAll live S n → Lacks live S (suc n) ⊎ HasAll live S (suc n)
    go (inl t) r = inl (n, le_refl (suc n), and_l (live n) (not (member S n)) t, T_not (member S n) (and_r (live n) (not (member S n)) t))
    go (inr t) (inl r) = inl (r.0, omega (arith, r.1), r.2, r.3)
    go (inr t) (inr r) =
        inr (λ u h l. elim (test (eqb u n)) [
          | inl e ↦ rw (eqb→eq u n e) (last (live n) (member S n) t (rw (eqb→eq u n e) at l))
          | inr d ↦ r u (let e : u ≢ n = λ e. d (rw e (eqb_refl n)) in omega arith) l
        ])

module _ (P : Prices) where
  -- the tree of the nodes S, grown from s
  pub data Tree (loads : List (Load P.El)) (p : ℕ → P.El) (s : ℕ) : List ℕ → Type 0 where
    seed : Tree loads p s (s ∷ [])
    forth : {S : List ℕ} → Tree loads p s S → (x : Load P.El) → OneOf loads x → slack P p x.edge ≡ P.nil → T (member S x.edge.from) →
        (T (member S x.edge.to) → ⊥) → Tree loads p s (x.edge.to ∷ S)
    back : {S : List ℕ} → Tree loads p s S → (x : Load P.El) → OneOf loads x → slack P p x.edge ≡ P.nil → T (member S x.edge.to) →
        (T (member S x.edge.from) → ⊥) → 1 ≤ x.amount → Tree loads p s (x.edge.from ∷ S)

  pub seed_in : (loads : List (Load P.El)) (p : ℕ → P.El) (s : ℕ) (S : List ℕ) → Tree loads p s S → T (member S s)
  seed_in loads p s S seed = member_here s []
  seed_in loads p s S (forth {S = S₀} t x m z i o) = member_there x.edge.to S₀ s (seed_in loads p s S₀ t)
  seed_in loads p s S (back {S = S₀} t x m z i o k) = member_there x.edge.from S₀ s (seed_in loads p s S₀ t)

  -- the tree stands under all marks that are the same on its nodes
  pub under_other_marks : (loads : List (Load P.El)) (p q : ℕ → P.El) (s : ℕ) (S : List ℕ) → Tree loads p s S → ((u : ℕ) → T (member S u) → q u ≡ p u) → Tree loads q s S
  under_other_marks loads p q s S seed h = seed
  under_other_marks loads p q s S (forth {S = S₀} t x m z i o) h =
      forth (under_other_marks loads p q s S₀ t (λ u k. h u (member_there x.edge.to S₀ u k))) x m
      (rw (h x.edge.from (member_there x.edge.to S₀ x.edge.from i), h x.edge.to (member_here x.edge.to S₀)) z) i o
  under_other_marks loads p q s S (back {S = S₀} t x m z i o k) h =
      back (under_other_marks loads p q s S₀ t (λ u k. h u (member_there x.edge.from S₀ u k))) x m
      (rw (h x.edge.to (member_there x.edge.from S₀ x.edge.to i), h x.edge.from (member_here x.edge.from S₀)) z) i o k

  way_longer : (edges : List (Edge P.El)) (p : ℕ → P.El) (n u : ℕ) → WayWithin P edges p n u → WayWithin P edges p (suc n) u
  way_longer edges p n u w = (w.0, omega (arith, w.1), w.2)

  way_forward : Ordered P → (edges : List (Edge P.El)) (p : ℕ → P.El) (n : ℕ) (e : Edge P.El) → OneOf edges e → slack P p e ≡ P.nil → e.to ≢ 0 →
      WayWithin P edges p n e.from → WayWithin P edges p (suc n) e.to
  way_forward L edges p n e m z d w =
      (suc w.0, omega (arith, w.1), forward e m w.2 d (eq_of_sub P L (p e.to) (P.add e.cost (p e.from)) z ∙ L.add_comm e.cost (p e.from)))

  way_backward : Ordered P → (edges : List (Edge P.El)) (p : ℕ → P.El) (n : ℕ) (e : Edge P.El) → OneOf edges e → slack P p e ≡ P.nil → e.from ≢ 0 →
      WayWithin P edges p n e.to → WayWithin P edges p (suc n) e.from
  way_backward L edges p n e m z d w = (
    suc w.0,
    omega (arith, w.1),
    backward e m w.2 d
        (sym (sub_from P L (p e.to) e.cost (p e.from) (eq_of_sub P L (p e.to) (P.add e.cost (p e.from)) z ∙ L.add_comm e.cost (p e.from)))),
  )

  -- a tree from the root gives a way to each of its nodes, of fewer steps than it has nodes
  pub ways : Ordered P → (loads : List (Load P.El)) (p : ℕ → P.El) (S : List ℕ) → Tree loads p 0 S → (u : ℕ) → T (member S u) → WayWithin P (edges_of loads) p (length S) u
  ways L loads p S seed u h = elim (member_cases 0 [] u h) [ inl e ↦ (0, le_refl 1, rw e here) | inr f ↦ absurd f ]
  ways L loads p S (forth {S = S₀} t x m z i o) u h =
      elim (member_cases x.edge.to S₀ u h) [
        | inl e ↦ rw e (way_forward L (edges_of loads) p (length S₀) x.edge (among_map (λ (x : Load P.El). x.edge) x loads m) z
            (λ d. o (rw d (seed_in loads p 0 S₀ t))) (ways L loads p S₀ t x.edge.from i))
        | inr f ↦ way_longer (edges_of loads) p (length S₀) u (ways L loads p S₀ t u f)
      ]
  ways L loads p S (back {S = S₀} t x m z i o k) u h =
      elim (member_cases x.edge.from S₀ u h) [
        | inl e ↦ rw e (way_backward L (edges_of loads) p (length S₀) x.edge (among_map (λ (x : Load P.El). x.edge) x loads m) z
            (λ d. o (rw d (seed_in loads p 0 S₀ t))) (ways L loads p S₀ t x.edge.to i))
        | inr f ↦ way_longer (edges_of loads) p (length S₀) u (ways L loads p S₀ t u f)
      ]
