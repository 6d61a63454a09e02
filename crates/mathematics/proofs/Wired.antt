-- The links of a graph as a network for Transport.antt: its nodes are the root and the two sides of each useful vertex, every
-- node is reached from the root and reaches it, and there is a job for each rest and each read.
use Prim.Native.Nat.{ℕ, ◌-◌, ◌/◌, ◌<◌}
use native.Mathlib.Omega.{arith}
use mathlib.Core.Path.{◌≡◌, sym, subst}
use mathlib.Core.List.{List, [], ◌∷◌, ◌++◌, map}
use mathlib.Core.Bool.{Bool, ◌||◌}
use mathlib.Core.Logic.{◌⊎◌, inl, inr, ◌≢◌}
use lib.Dec.{T, eqb, eqb→eq, eqb_refl}
use lib.ListN.{length, get_or}
use Rattle.mathematics.specs.Price.{Prices, Ordered, Le}
use Rattle.mathematics.specs.Lists.{All, last_of}
use Rattle.mathematics.specs.Graph.{Graph, is_end, has_arc, linked, WellFormed}
use Rattle.mathematics.specs.Cover.{vert, arc, cost_of}
use Rattle.mathematics.specs.Range.{OneOf, CostsHold}
use Rattle.mathematics.specs.Reach.{from_start, to_end, useful}
use Rattle.mathematics.specs.Links.{Link, opening, closing, inside, across, reading, in_node, out_node, link_from, link_to}
use Rattle.mathematics.proofs.Basics.{and_l, and_r, and_in, or_r, or_cases, all_among, all_append, all_map, all_weaken, among_map, test}
use Rattle.mathematics.proofs.Reach.{linked_first, linked_rest, joining_arc, from_start_path, to_end_path, from_start_below, useful_along, start_from_start, end_to_end}
use Rattle.mathematics.proofs.Items.{cost_own}
use Rattle.mathematics.proofs.Network.{Edge, Job, IsNode, IsNetwork, Walk, stop, step}
use Rattle.mathematics.proofs.Loads.{unequal, Load}
use Rattle.mathematics.proofs.Links.{OfGraph}
use Rattle.mathematics.proofs.Decompose.{read_load, read_loads}
use Rattle.mathematics.proofs.Base.{base, Useful, OfBase, base_of_graph, has_opening, has_closing, has_link}

-- the root, and the sides of the useful vertices
unfoldable pub live : {E : Type 0} → Graph E → ℕ → Bool
live G u = eqb u 0 || useful G ((u - 1) / 2)

abbrev pub Node : {E : Type 0} → Graph E → ℕ → Type 0
Node G u = IsNode (live G) (in_node (length G.vertices)) u

module _ {E : Type 0} (G : Graph E) (g : WellFormed G) where
  pub root_node : Node G 0
  unfolding live
  root_node = (omega arith, tt)

  useful_below : (v : ℕ) → T (useful G v) → v < length G.vertices
  useful_below v u = from_start_below G g v (and_l (from_start G v) (to_end G v) u)

  pub in_node_lem : (v : ℕ) → T (useful G v) → Node G (in_node v)
  unfolding live
  in_node_lem v u =
      let b = useful_below v u in
      let e : v ≡ (in_node v - 1) / 2 = omega arith in
      (omega arith, or_r (eqb (in_node v) 0) (useful G ((in_node v - 1) / 2)) (subst (λ (n : ℕ). T (useful G n)) e u))

  pub out_node_lem : (v : ℕ) → T (useful G v) → Node G (out_node v)
  unfolding live
  out_node_lem v u =
      let b = useful_below v u in
      let e : v ≡ (out_node v - 1) / 2 = omega arith in
      (omega arith, or_r (eqb (out_node v) 0) (useful G ((out_node v - 1) / 2)) (subst (λ (n : ℕ). T (useful G n)) e u))

  -- a node is the root or a side of a useful vertex
  pub node_cases : (u : ℕ) → Node G u → (u ≡ 0) ⊎ ((v : ℕ) × T (useful G v) × ((u ≡ in_node v) ⊎ (u ≡ out_node v)))
  unfolding live
  node_cases u (b, t) = elim (test (eqb u 0)) [ inl z ↦ inl (eqb→eq u 0 z) | inr z ↦ inr ((u - 1) / 2, side z, parity z) ]
    where
      side : (T (eqb u 0) → ⊥) → T (useful G ((u - 1) / 2))
      side z = elim (or_cases (eqb u 0) (useful G ((u - 1) / 2)) t) [ inl y ↦ absurd (z y) | inr y ↦ y ]

      parity : (T (eqb u 0) → ⊥) → (u ≡ in_node ((u - 1) / 2)) ⊎ (u ≡ out_node ((u - 1) / 2))
      parity z =
          let n : u ≢ 0 = unequal u 0 z in
          elim (test (eqb u (in_node ((u - 1) / 2)))) [ inl y ↦ inl (eqb→eq u (in_node ((u - 1) / 2)) y) | inr y ↦ inr (other n y) ]
        where
          other : u ≢ 0 → (T (eqb u (in_node ((u - 1) / 2))) → ⊥) → u ≡ out_node ((u - 1) / 2)
          other n y =
              let m : u ≢ in_node ((u - 1) / 2) = unequal u (in_node ((u - 1) / 2)) y in
              omega arith

  pub link_nodes : (l : Link) → Useful G l → Node G (link_from l) × Node G (link_to 0 l)
  link_nodes (opening v) u = (root_node, in_node_lem v u)
  link_nodes (closing v) u = (out_node_lem v u, root_node)
  link_nodes (inside v) u = (in_node_lem v u, out_node_lem v u)
  link_nodes (across u v) h = (out_node_lem u h.0, in_node_lem v h.1)
  link_nodes (reading r) h = (in_node_lem (get_or r 0 0) h.0, out_node_lem (last_of 0 r) h.1)

module _ (P : Prices) (G : Graph P.El) where
  abbrev pub link_cost : Link → P.El
  link_cost (opening v) = G.opening
  link_cost (closing v) = P.nil
  link_cost (inside v) = P.nil
  link_cost (across u v) = cost_of P G.arcs u v
  link_cost (reading r) = P.nil

  -- a link as an edge; closing links lead back to the root
  abbrev pub edge_of : Link → Edge P.El
  edge_of l = record { from = link_from l; to = link_to 0 l; cost = link_cost l }

  abbrev pub load_edge : Load Link → Edge P.El
  load_edge b = edge_of b.what

  abbrev pub edges : List (List ℕ) → List (Edge P.El)
  edges rs = map load_edge (base G rs)

  -- what a link must carry is to be brought back from its end to its beginning
  abbrev pub job_of : Load Link → Job
  job_of b = record { source = link_to 0 b.what; target = link_from b.what; amount = b.amount }

  abbrev pub jobs : List (List ℕ) → List Job
  jobs rs = map job_of (base G rs ++ read_loads rs)

  module _ (L : Ordered P) (g : WellFormed G) (rs : List (List ℕ)) where
    pub has_edge : (l : Link) → (k : ℕ) × OneOf (base G rs) (record { amount = k; what = l }) → OneOf (edges rs) (edge_of l)
    has_edge l (k, m) = among_map load_edge (record { amount = k; what = l }) (base G rs) m

    pub inside_edge : (v : ℕ) → T (useful G v) → OneOf (edges rs) (edge_of (inside v))
    inside_edge v u = has_edge (inside v) (has_link G rs (vert v) (useful_below G g v u) u)

    pub across_edge : (u v : ℕ) → T (has_arc G.arcs u v) → T (useful G u) → T (useful G v) → OneOf (edges rs) (edge_of (across u v))
    across_edge u v t x y = has_edge (across u v) (has_link G rs (arc u v) t (and_in (useful G u) (useful G v) x y))

    -- from the in side of u along linked useful vertices to the in side of the last, and on
    walk_along : (u : ℕ) (p : List ℕ) (z : ℕ) → T (linked G.arcs (u ∷ p)) → All (λ x. T (useful G x)) (u ∷ p) → Walk (edges rs) (in_node (last_of u p)) z →
        Walk (edges rs) (in_node u) z
    walk_along u [] z t h w = w
    walk_along u (v ∷ p) z t h w =
        step (edge_of (inside u)) (inside_edge u h.0)
        (step (edge_of (across u v)) (across_edge u v (linked_first G.arcs u v p t) h.0 h.1.0)
        (walk_along v p z (linked_rest G.arcs u v p t) h.1 w))

    to_in : (v : ℕ) → T (useful G v) → (z : ℕ) → Walk (edges rs) (in_node v) z → Walk (edges rs) 0 z
    to_in v u z w =
        let (s, p, start, t, e) = from_start_path G v (and_l (from_start G v) (to_end G v) u) in
        let h : All (λ x. T (useful G x)) (s ∷ p) =
        useful_along G g s p t (start_from_start G s start) (subst (λ (x : ℕ). T (to_end G x)) (sym e) (and_r (from_start G v) (to_end G v) u)) in
        step (edge_of (opening s)) (has_edge (opening s) (has_opening G rs s start h.0))
        (walk_along s p z t h (subst (λ (x : ℕ). Walk (edges rs) (in_node x) z) (sym e) w))

    home : (v : ℕ) (q : List ℕ) → T (linked G.arcs (v ∷ q)) → All (λ x. T (useful G x)) (v ∷ q) → T (is_end G (last_of v q)) → Walk (edges rs) (out_node v) 0
    home v [] t h e = step (edge_of (closing v)) (has_edge (closing v) (has_closing G rs v e h.0)) stop
    home v (w ∷ q) t h e =
        step (edge_of (across v w)) (across_edge v w (linked_first G.arcs v w q t) h.0 h.1.0)
        (step (edge_of (inside w)) (inside_edge w h.1.0) (home w q (linked_rest G.arcs v w q t) h.1 e))

    from_out : (v : ℕ) → T (useful G v) → Walk (edges rs) (out_node v) 0
    from_out v u =
        let (q, t, e) = to_end_path G v (and_r (from_start G v) (to_end G v) u) in
        home v q t (useful_along G g v q t (and_l (from_start G v) (to_end G v) u) (end_to_end G (last_of v q) e)) e

    walk_to : (u : ℕ) → Node G u → Walk (edges rs) 0 u
    walk_to u n =
        elim (node_cases G g u n) [
          | inl z ↦ subst (λ (x : ℕ). Walk (edges rs) 0 x) (sym z) stop
          | inr h ↦ side h.0 h.1 h.2
        ]
      where
        side : (v : ℕ) → T (useful G v) → (u ≡ in_node v) ⊎ (u ≡ out_node v) → Walk (edges rs) 0 u
        side v t (inl e) = subst (λ (x : ℕ). Walk (edges rs) 0 x) (sym e) (to_in v t (in_node v) stop)
        side v t (inr e) = subst (λ (x : ℕ). Walk (edges rs) 0 x) (sym e) (to_in v t (out_node v) (step (edge_of (inside v)) (inside_edge v t) stop))

    walk_from : (u : ℕ) → Node G u → Walk (edges rs) u 0
    walk_from u n =
        elim (node_cases G g u n) [
          | inl z ↦ subst (λ (x : ℕ). Walk (edges rs) x 0) (sym z) stop
          | inr h ↦ side h.0 h.1 h.2
        ]
      where
        side : (v : ℕ) → T (useful G v) → (u ≡ in_node v) ⊎ (u ≡ out_node v) → Walk (edges rs) u 0
        side v t (inl e) = subst (λ (x : ℕ). Walk (edges rs) x 0) (sym e) (step (edge_of (inside v)) (inside_edge v t) (from_out v t))
        side v t (inr e) = subst (λ (x : ℕ). Walk (edges rs) x 0) (sym e) (from_out v t)

    cost_holds : CostsHold P G → (l : Link) → OfGraph G l → Le P P.nil (link_cost l)
    cost_holds c (opening v) t = c.opening_holds
    cost_holds c (closing v) t = L.le_refl P.nil
    cost_holds c (inside v) t = L.le_refl P.nil
    cost_holds c (across u v) t =
        let (a, m, e, f) = joining_arc G.arcs u v t in
        subst (λ x. Le P P.nil x)
        (sym (cost_own P G.arcs a u v g.once m
        (and_in (eqb a.tail u) (eqb a.head v) (subst (λ (x : ℕ). T (eqb a.tail x)) e (eqb_refl a.tail))
        (subst (λ (x : ℕ). T (eqb a.head x)) f (eqb_refl a.head)))))
        (all_among (λ b. Le P P.nil b.cost) G.arcs a c.costs_hold m)
    cost_holds c (reading r) t = L.le_refl P.nil

    -- the links of the graph are a network
    pub wired : CostsHold P G → IsNetwork P (live G) (in_node (length G.vertices)) (edges rs)
    wired c =
        record {
          root_node = root_node G g;
          from_nodes =
              all_map (λ e. Node G e.from) load_edge (base G rs)
              (all_weaken (OfBase G) (λ b. Node G (link_from b.what)) (base G rs) (λ b h. (link_nodes G g b.what h.1).0) (base_of_graph G rs));
          to_nodes =
              all_map (λ e. Node G e.to) load_edge (base G rs)
              (all_weaken (OfBase G) (λ b. Node G (link_to 0 b.what)) (base G rs) (λ b h. (link_nodes G g b.what h.1).1) (base_of_graph G rs));
          costs_hold =
              all_map (λ e. Le P P.nil e.cost) load_edge (base G rs)
              (all_weaken (OfBase G) (λ b. Le P P.nil (link_cost b.what)) (base G rs) (λ b h. cost_holds c b.what h.0) (base_of_graph G rs));
          from_root = walk_to;
          to_root = walk_from;
        }

    -- jobs go from node to node
    job_nodes : All (λ r. Useful G (reading r)) rs → All (λ b. Node G (link_from b.what) × Node G (link_to 0 b.what)) (base G rs ++ read_loads rs)
    job_nodes h =
        all_append Ends (base G rs) (read_loads rs)
        (all_weaken (OfBase G) Ends (base G rs) (λ b k. link_nodes G g b.what k.1) (base_of_graph G rs))
        (all_map Ends read_load rs (all_weaken (λ r. Useful G (reading r)) (λ r. Ends (read_load r)) rs (λ r k. link_nodes G g (reading r) k) h))
      where
        Ends : Load Link → Type 0
        Ends b = Node G (link_from b.what) × Node G (link_to 0 b.what)

    pub job_sources : All (λ r. Useful G (reading r)) rs → All (λ j. Node G j.source) (jobs rs)
    job_sources h =
        all_map (λ j. Node G j.source) job_of (base G rs ++ read_loads rs)
        (all_weaken (λ b. Node G (link_from b.what) × Node G (link_to 0 b.what)) (λ b. Node G (link_to 0 b.what)) (base G rs ++ read_loads rs)
        (λ b k. k.1) (job_nodes h))

    pub job_targets : All (λ r. Useful G (reading r)) rs → All (λ j. Node G j.target) (jobs rs)
    job_targets h =
        all_map (λ j. Node G j.target) job_of (base G rs ++ read_loads rs)
        (all_weaken (λ b. Node G (link_from b.what) × Node G (link_to 0 b.what)) (λ b. Node G (link_from b.what)) (base G rs ++ read_loads rs)
        (λ b k. k.0) (job_nodes h))
