-- A bare network: edges with costs and no capacities, jobs that carry amounts between nodes, loads on the edges. The definitions that Transport.antt
-- states its theorem with, and the laws of a load that is altered at one edge.
use Prim.Native.Nat.{ℕ, suc, ◌+◌, ◌≤◌, ◌<◌}
use native.Mathlib.Omega.{arith}
use mathlib.Core.Path.{◌≡◌, refl, sym, ap, ◌∙◌}
use mathlib.Core.List.{List, [], ◌∷◌, map}
use mathlib.Core.Bool.{Bool, true, false, cond}
use mathlib.Core.Logic.{inl, inr, ◌≢◌}
use lib.Dec.{T, eqb, eqb→eq, eqb_refl}
use Rattle.mathematics.specs.Price.{Prices, Le, sub}
use Rattle.mathematics.specs.Lists.{All}
use Rattle.mathematics.specs.Range.{OneOf}
use Rattle.mathematics.proofs.Basics.{is_true, is_false}

pub record Edge (E : Type 0) : Type 0 where
  pub from : ℕ
  pub to : ℕ
  pub cost : E

-- an edge and the amount that it carries
pub record Load (E : Type 0) : Type 0 where
  pub edge : Edge E
  pub amount : ℕ

-- amount units are to be carried from source to target
pub record Job : Type 0 where
  pub source : ℕ
  pub target : ℕ
  pub amount : ℕ

-- k where u is v, and else nothing
unfoldable pub share : ℕ → ℕ → ℕ → ℕ
share u v k = cond (eqb u v) k 0

pub share_same : (u v k : ℕ) → u ≡ v → share u v k ≡ k
unfolding share
share_same u v k e = rw e (rw (is_true (eqb v v) (eqb_refl v)) refl)

pub share_other : (u v k : ℕ) → u ≢ v → share u v k ≡ 0
unfolding share
share_other u v k d = rw (is_false (eqb u v) (λ t. d (eqb→eq u v t))) refl

pub share_sum : (u v j k : ℕ) → share u v (j + k) ≡ share u v j + share u v k
unfolding share
share_sum u v j k = both (eqb u v)
  where
    both : (b : Bool) → cond b (j + k) 0 ≡ cond b j 0 + cond b k 0
    both true = refl
    both false = refl

pub share_nothing : (u v : ℕ) → share u v 0 ≡ 0
unfolding share
share_nothing u v = both (eqb u v)
  where
    both : (b : Bool) → cond {A = ℕ} b 0 0 ≡ 0
    both true = refl
    both false = refl

pub share_below : (u v k : ℕ) → share u v k ≤ k
unfolding share
share_below u v k = both (eqb u v)
  where
    both : (b : Bool) → cond b k 0 ≤ k
    both true = omega arith
    both false = omega arith

-- the nodes are the numbers below N that are live
abbrev pub IsNode : (ℕ → Bool) → ℕ → ℕ → Type 0
IsNode live N u = (u < N) × T (live u)

-- the amounts of the jobs from u, of those to u, of all
abbrev pub jobs_from : List Job → ℕ → ℕ
jobs_from [] u = 0
jobs_from (j ∷ js) u = share u j.source j.amount + jobs_from js u

abbrev pub jobs_to : List Job → ℕ → ℕ
jobs_to [] u = 0
jobs_to (j ∷ js) u = share u j.target j.amount + jobs_to js u

abbrev pub jobs_total : List Job → ℕ
jobs_total [] = 0
jobs_total (j ∷ js) = j.amount + jobs_total js

module _ {E : Type 0} where
  abbrev pub edges_of : List (Load E) → List (Edge E)
  edges_of loads = map (λ (x : Load E). x.edge) loads

  -- the amounts on the edges of which `side`, one of their ends, is u
  abbrev pub passing : (Edge E → ℕ) → List (Load E) → ℕ → ℕ
  passing side [] u = 0
  passing side (x ∷ xs) u = share u (side x.edge) x.amount + passing side xs u

  abbrev pub leaving : List (Load E) → ℕ → ℕ
  leaving loads u = passing (λ e. e.from) loads u

  abbrev pub entering : List (Load E) → ℕ → ℕ
  entering loads u = passing (λ e. e.to) loads u

  -- a way along edges from one node to another
  pub data Walk (edges : List (Edge E)) : ℕ → ℕ → Type 0 where
    stop : {u : ℕ} → Walk edges u u
    step : {w : ℕ} (e : Edge E) → OneOf edges e → Walk edges e.to w → Walk edges e.from w

  -- the edge x with the amount k
  abbrev pub with_amount : Load E → ℕ → Load E
  with_amount x k = record { edge = x.edge; amount = k }

  -- the loads with the amount k at x, one of them
  abbrev pub alter : (loads : List (Load E)) (x : Load E) → OneOf loads x → ℕ → List (Load E)
  alter [] x m k = []
  alter (y ∷ ys) x (inl e) k = with_amount x k ∷ ys
  alter (y ∷ ys) x (inr m) k = y ∷ alter ys x m k

  pub alter_edges : (loads : List (Load E)) (x : Load E) (m : OneOf loads x) (k : ℕ) → edges_of (alter loads x m k) ≡ edges_of loads
  alter_edges [] x m k = refl
  alter_edges (y ∷ ys) x (inl e) k = ap (λ (z : Load E). z.edge ∷ edges_of ys) e
  alter_edges (y ∷ ys) x (inr m) k = ap (λ zs. y.edge ∷ zs) (alter_edges ys x m k)

  -- what passes u changes by what the altered edge changes by
  alter_passing : (side : Edge E → ℕ) (loads : List (Load E)) (x : Load E) (m : OneOf loads x) (k u : ℕ) →
      passing side (alter loads x m k) u + share u (side x.edge) x.amount ≡ passing side loads u + share u (side x.edge) k
  alter_passing side [] x m k u = absurd m
  alter_passing side (y ∷ ys) x (inl e) k u = omega (arith, ap (λ (z : Load E). share u (side z.edge) z.amount) e)
  alter_passing side (y ∷ ys) x (inr m) k u = omega (arith, alter_passing side ys x m k u)

  pub alter_more : (side : Edge E → ℕ) (loads : List (Load E)) (x : Load E) (m : OneOf loads x) (k u : ℕ) →
      passing side (alter loads x m (x.amount + k)) u ≡ passing side loads u + share u (side x.edge) k
  alter_more side loads x m k u = omega (arith, alter_passing side loads x m (x.amount + k) u, share_sum u (side x.edge) x.amount k)

  pub alter_less : (side : Edge E → ℕ) (loads : List (Load E)) (x : Load E) (m : OneOf loads x) (j k u : ℕ) → j + k ≡ x.amount →
      passing side (alter loads x m j) u + share u (side x.edge) k ≡ passing side loads u
  alter_less side loads x m j k u e =
      omega (arith, alter_passing side loads x m j u, share_sum u (side x.edge) j k, ap (share u (side x.edge)) e)

  -- every other load stays
  pub alter_keeps : (loads : List (Load E)) (x : Load E) (m : OneOf loads x) (k : ℕ) (y : Load E) → y ≢ x → OneOf loads y → OneOf (alter loads x m k) y
  alter_keeps [] x m k y d n = n
  alter_keeps (z ∷ zs) x (inl e) k y d (inl f) = absurd (d (f ∙ sym e))
  alter_keeps (z ∷ zs) x (inl e) k y d (inr n) = inr n
  alter_keeps (z ∷ zs) x (inr m) k y d (inl f) = inl f
  alter_keeps (z ∷ zs) x (inr m) k y d (inr n) = inr (alter_keeps zs x m k y d n)

  pub alter_all : (Q : Load E → Type 0) (loads : List (Load E)) (x : Load E) (m : OneOf loads x) (k : ℕ) →
      All Q loads → Q (with_amount x k) → All Q (alter loads x m k)
  alter_all Q [] x m k h q = h
  alter_all Q (y ∷ ys) x (inl e) k h q = (q, h.1)
  alter_all Q (y ∷ ys) x (inr m) k h q = (h.0, alter_all Q ys x m k h.1 q)

module _ (P : Prices) where
  -- cost plus the mark that the edge comes from, less the mark that it goes to
  abbrev pub slack : (ℕ → P.El) → Edge P.El → P.El
  slack p e = sub P (P.add e.cost (p e.from)) (p e.to)

  -- The root, 0, is a node; edges go between nodes and no cost is below nothing; each node is reached from the root and reaches it.
  pub record IsNetwork (live : ℕ → Bool) (N : ℕ) (edges : List (Edge P.El)) : Type 0 where
    pub root_node : IsNode live N 0
    pub from_nodes : All (λ e. IsNode live N e.from) edges
    pub to_nodes : All (λ e. IsNode live N e.to) edges
    pub costs_hold : All (λ e. Le P P.nil e.cost) edges
    pub from_root : (u : ℕ) → IsNode live N u → Walk edges 0 u
    pub to_root : (u : ℕ) → IsNode live N u → Walk edges u 0

  -- a load that may stand: the ends of the edge are nodes, its slack is not below nothing, and is nothing where the edge carries something
  pub record Sound (live : ℕ → Bool) (N : ℕ) (p : ℕ → P.El) (x : Load P.El) : Type 0 where
    pub from_node : IsNode live N x.edge.from
    pub to_node : IsNode live N x.edge.to
    pub slack_holds : Le P P.nil (slack p x.edge)
    pub tight : 1 ≤ x.amount → slack p x.edge ≡ P.nil

  -- The mark of a node is k edge costs added or taken away, from the root's: a way of k steps from the root, node 0, each along an edge or back along one,
  -- none to the root.
  pub data Way (edges : List (Edge P.El)) (p : ℕ → P.El) : ℕ → ℕ → Type 0 where
    here : Way edges p 0 0
    forward : {k : ℕ} (e : Edge P.El) → OneOf edges e → Way edges p e.from k → e.to ≢ 0 → p e.to ≡ P.add (p e.from) e.cost → Way edges p e.to (suc k)
    backward : {k : ℕ} (e : Edge P.El) → OneOf edges e → Way edges p e.to k → e.from ≢ 0 → p e.from ≡ sub P (p e.to) e.cost → Way edges p e.from (suc k)

  -- a way of fewer than n steps
  abbrev pub WayWithin : List (Edge P.El) → (ℕ → P.El) → ℕ → ℕ → Type 0
  WayWithin edges p n u = (k : ℕ) × (k < n) × Way edges p u k
