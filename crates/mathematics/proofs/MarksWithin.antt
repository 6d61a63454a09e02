-- Marks stay small: a node's mark is the opening price or nothing with arc costs added or taken away, one for each step of its way from the root; and
-- among finitely many nodes one has the greatest mark and one the least.
use Prim.Native.Nat.{ℕ, zero, suc, ◌≤◌, ◌<◌}
use native.Mathlib.Omega.{arith}
use mathlib.Core.Path.{◌≡◌, refl, sym, ap, ap₂, subst, ◌∙◌}
use mathlib.Core.List.{List, [], ◌∷◌, ◌++◌, map}
use mathlib.Core.Bool.{true, false, cond}
use mathlib.Core.Logic.{◌⊎◌, inl, inr, ◌≢◌}
use lib.Dec.{T, eqb, eqb→eq}
use lib.ListN.{length, length-append}
use Rattle.mathematics.specs.Price.{Prices, Ordered, Le, sub}
use Rattle.mathematics.specs.Lists.{All}
use Rattle.mathematics.specs.Graph.{Arc, Graph, WellFormed}
use Rattle.mathematics.specs.Cover.{cost_of}
use Rattle.mathematics.specs.Range.{OneOf, Step, climb, MarkWithin}
use Rattle.mathematics.specs.Links.{Link, opening, closing, inside, across, reading, in_node, link_from, link_to}
use Rattle.mathematics.proofs.Basics.{all_among, all_append, all_weaken, among_map, test}
use Rattle.mathematics.proofs.Algebra
use Rattle.mathematics.proofs.Reach.{joining_arc}
use Rattle.mathematics.proofs.Items.{cost_own, joins_own}
use Rattle.mathematics.proofs.Network.{Edge, Way, here, forward, backward}
use Rattle.mathematics.proofs.Loads.{unequal, passing, all_passing}
use Rattle.mathematics.proofs.Links.{OfGraph}
use Rattle.mathematics.proofs.Base.{base, base_of_graph, OfBase, among_passing}
use Rattle.mathematics.proofs.Wired.{live, Node, root_node, link_cost, edge_of, load_edge, edges}

-- what is among the images is the image of one of the list
pub among_image : {A B : Type 0} (f : A → B) (xs : List A) (y : B) → OneOf (map f xs) y → (x : A) × OneOf xs x × (y ≡ f x)
among_image f [] y m = absurd m
among_image f (x ∷ xs) y (inl e) = (x, inl refl, e)
among_image f (x ∷ xs) y (inr m) = let (z, o, e) = among_image f xs y m in (z, inr o, e)

module _ (P : Prices) where
  climb_append : (x : P.El) (ss : List (Step P.El)) (s : Step P.El) →
      climb P x (ss ++ (s ∷ [])) ≡ cond s.up (P.add (climb P x ss) s.cost) (sub P (climb P x ss) s.cost)
  climb_append x [] s = refl
  climb_append x (r ∷ ss) s = climb_append (cond r.up (P.add x r.cost) (sub P x r.cost)) ss s

module _ (P : Prices) (G : Graph P.El) where
  pub within_equal : (j k : ℕ) (x y : P.El) → j ≤ k → y ≡ x → MarkWithin P G j x → MarkWithin P G k y
  within_equal j k x y h e w = record { opened = w.opened; steps = w.steps; few = omega (arith, w.few); of_arcs = w.of_arcs; reaches = e ∙ w.reaches }

  within_opening : (k : ℕ) (x : P.El) → x ≡ G.opening → MarkWithin P G k x
  within_opening k x e = record { opened = true; steps = []; few = omega arith; of_arcs = tt; reaches = e }

  within_nil : (k : ℕ) (x : P.El) → x ≡ P.nil → MarkWithin P G k x
  within_nil k x e = record { opened = false; steps = []; few = omega arith; of_arcs = tt; reaches = e }

  within_step : (k : ℕ) (x y : P.El) (s : Step P.El) → OneOf (map (λ (a : Arc P.El). a.cost) G.arcs) s.cost →
      y ≡ cond s.up (P.add x s.cost) (sub P x s.cost) →
      MarkWithin P G k x → MarkWithin P G (suc k) y
  within_step k x y s m e w =
      record {
        opened = w.opened;
        steps = w.steps ++ (s ∷ []);
        few = omega (arith, w.few, length-append w.steps (s ∷ []));
        of_arcs = all_append (λ r. OneOf (map (λ (a : Arc P.El). a.cost) G.arcs) r.cost) w.steps (s ∷ []) w.of_arcs (m, tt);
        reaches =
            e ∙
            (ap (λ z. cond s.up (P.add z s.cost) (sub P z s.cost)) w.reaches ∙
            sym (climb_append P (cond w.opened G.opening P.nil) w.steps s));
      }

module _ (P : Prices) (L : Ordered P) (G : Graph P.El) (g : WellFormed G) (p : ℕ → P.El) (root : p 0 ≡ P.nil) where
  arc_cost_lem : (u v : ℕ) → OfGraph G (across u v) → OneOf (map (λ (a : Arc P.El). a.cost) G.arcs) (cost_of P G.arcs u v)
  arc_cost_lem u v t =
      let (a, m, e, f) = joining_arc G.arcs u v t in
      subst (OneOf (map (λ (a : Arc P.El). a.cost) G.arcs))
      (sym (ap₂ (cost_of P G.arcs) (sym e) (sym f) ∙ cost_own P G.arcs a a.tail a.head g.once m (joins_own a)))
      (among_map (λ (a : Arc P.El). a.cost) a G.arcs m)

  along_link : (k : ℕ) (l : Link) → OfGraph G l → link_to 0 l ≢ 0 → p (link_to 0 l) ≡ P.add (p (link_from l)) (link_cost P G l) →
      MarkWithin P G k (p (link_from l)) →
      MarkWithin P G (suc k) (p (link_to 0 l))
  along_link k (opening v) o n e w = within_opening P G (suc k) (p (in_node v)) (e ∙ (ap (λ x. P.add x G.opening) root ∙ Algebra.nil_add P L G.opening))
  along_link k (closing v) o n e w = absurd (n refl)
  along_link k (inside v) o n e w = within_equal P G k (suc k) _ _ (omega arith) (e ∙ L.add_nil _) w
  along_link k (across u v) o n e w = within_step P G k _ _ (record { up = true; cost = cost_of P G.arcs u v }) (arc_cost_lem u v o) e w
  along_link k (reading r) o n e w = within_equal P G k (suc k) _ _ (omega arith) (e ∙ L.add_nil _) w

  back_link : (k : ℕ) (l : Link) → OfGraph G l → link_from l ≢ 0 → p (link_from l) ≡ sub P (p (link_to 0 l)) (link_cost P G l) → MarkWithin P G k (p (link_to 0 l)) →
      MarkWithin P G (suc k) (p (link_from l))
  back_link k (opening v) o n e w = absurd (n refl)
  back_link k (closing v) o n e w = within_equal P G k (suc k) _ _ (omega arith) (e ∙ Algebra.sub_nil P L _) w
  back_link k (inside v) o n e w = within_equal P G k (suc k) _ _ (omega arith) (e ∙ Algebra.sub_nil P L _) w
  back_link k (across u v) o n e w = within_step P G k _ _ (record { up = false; cost = cost_of P G.arcs u v }) (arc_cost_lem u v o) e w
  back_link k (reading r) o n e w = within_equal P G k (suc k) _ _ (omega arith) (e ∙ Algebra.sub_nil P L _) w

  module _ (rs : List (List ℕ)) where
    link_of_lem : (e : Edge P.El) → OneOf (edges P G rs) e → (l : Link) × OfGraph G l × (e ≡ edge_of P G l)
    link_of_lem e m =
        let (b, o, q) = among_image (load_edge P G) (base G rs) e m in
        (b.what, (all_among (OfBase G) (base G rs) b (base_of_graph G rs) o).0, q)

    forward_edge : (k : ℕ) (e : Edge P.El) → OneOf (edges P G rs) e → e.to ≢ 0 → p e.to ≡ P.add (p e.from) e.cost →
        MarkWithin P G k (p e.from) → MarkWithin P G (suc k) (p e.to)
    forward_edge k e m =
        let (l, o, q) = link_of_lem e m in
        subst (λ (d : Edge P.El). d.to ≢ 0 → p d.to ≡ P.add (p d.from) d.cost → MarkWithin P G k (p d.from) → MarkWithin P G (suc k)
        (p d.to)) (sym q) (along_link k l o)

    backward_edge : (k : ℕ) (e : Edge P.El) → OneOf (edges P G rs) e → e.from ≢ 0 → p e.from ≡ sub P (p e.to) e.cost →
        MarkWithin P G k (p e.to) → MarkWithin P G (suc k) (p e.from)
    backward_edge k e m =
        let (l, o, q) = link_of_lem e m in
        subst (λ (d : Edge P.El). d.from ≢ 0 → p d.from ≡ sub P (p d.to) d.cost → MarkWithin P G k (p d.to) → MarkWithin P G (suc k)
        (p d.from)) (sym q) (back_link k l o)

    -- the mark of a node, by its way from the root
    pub way_within : {u k : ℕ} → Way P (edges P G rs) p u k → MarkWithin P G k (p u)
    way_within here = within_nil P G 0 (p 0) root
    way_within (forward {k = k} e m w n q) = forward_edge k e m n q (way_within w)
    way_within (backward {k = k} e m w n q) = backward_edge k e m n q (way_within w)

-- ---- the greatest and the least

below : ℕ → List ℕ
below zero = []
below (suc k) = k ∷ below k

below_has : (k u : ℕ) → u < k → OneOf (below k) u
unfolding below
below_has zero u h = absurd (omega arith)
below_has (suc k) u h = elim (test (eqb u k)) [ inl t ↦ inl (eqb→eq u k t) | inr t ↦ inr (below_has k u (other t)) ]
  where
    other : (T (eqb u k) → ⊥) → u < k
    other t =
        let n : u ≢ k = unequal u k t in
        omega arith

below_all : (k : ℕ) → All (λ u. u < k) (below k)
unfolding below
below_all zero = tt
below_all (suc k) = (omega arith, all_weaken (λ u. u < k) (λ u. u < suc k) (below k) (λ u h. omega arith) (below_all k))

-- one of finitely many is furthest, by an order that compares any two
furthest : (R : ℕ → ℕ → Type 0) → ((a b : ℕ) → R a b ⊎ R b a) → ((a b c : ℕ) → R a b → R b c → R a c) → (Q : ℕ → Type 0) (u : ℕ) (us : List ℕ) → Q u →
    All Q us →
    (m : ℕ) × Q m × R u m × All (λ v. R v m) us
furthest R total trans Q u [] q qs = (u, q, elim (total u u) [ inl r ↦ r | inr r ↦ r ], tt)
furthest R total trans Q u (v ∷ us) q qs =
    let (m, k, r, all) = furthest R total trans Q u us q qs.1 in
    pick m k r all (total v m)
  where
    pick : (m : ℕ) → Q m → R u m → All (λ v. R v m) us → R v m ⊎ R m v → (m : ℕ) × Q m × R u m × All (λ v. R v m) (v ∷ us)
    pick m k r all (inl s) = (m, k, r, (s, all))
    pick m k r all (inr s) =
        (v, qs.0, trans u m v r s, (elim (total v v) [ inl t ↦ t | inr t ↦ t ], all_weaken (λ w. R w m) (λ w. R w v) us (λ w t. trans w m v t s) all))

module _ {E : Type 0} (G : Graph E) (g : WellFormed G) where
  -- among the nodes one is furthest
  furthest_node : (R : ℕ → ℕ → Type 0) → ((a b : ℕ) → R a b ⊎ R b a) → ((a b c : ℕ) → R a b → R b c → R a c) → (m : ℕ) × Node G m × ((u : ℕ) → Node G u → R u m)
  furthest_node R total trans =
      let nodes : List ℕ = passing (live G) (below (in_node (length G.vertices))) in
      let (m, n, r, all) =
      furthest R total trans (Node G) 0 nodes (root_node G g)
      (all_passing (live G) (λ u. u < in_node (length G.vertices)) (below (in_node (length G.vertices)))
      (below_all (in_node (length G.vertices)))) in (
        m,
        n,
        λ u k. all_among (λ v. R v m) nodes u all
            (among_passing (live G) (below (in_node (length G.vertices))) u (below_has (in_node (length G.vertices)) u k.0) k.1),
      )

module _ (P : Prices) (L : Ordered P) (G : Graph P.El) (g : WellFormed G) (p : ℕ → P.El) where
  -- Marks below and above those of all nodes, and the lower not above the opening price; each is as small as a node's mark.
  pub record Extremes (k : ℕ) : Type 0 where
    pub low : P.El
    pub high : P.El
    pub low_least : (u : ℕ) → Node G u → Le P low (p u)
    pub high_most : (u : ℕ) → Node G u → Le P (p u) high
    pub low_below_opening : Le P low G.opening
    pub low_within : MarkWithin P G k low
    pub high_within : MarkWithin P G k high

  pub extremes : (k : ℕ) → ((u : ℕ) → Node G u → MarkWithin P G k (p u)) → Extremes k
  extremes k within =
      let (t, n, most) = furthest_node G g (λ a b. Le P (p a) (p b)) (λ a b. L.le_total (p a) (p b)) (λ a b c. L.le_trans (p a) (p b) (p c)) in
      let (b, o, least) = furthest_node G g (λ a b. Le P (p b) (p a)) (λ a b. L.le_total (p b) (p a)) (λ a b c r s. L.le_trans (p c) (p b) (p a) s r) in
      elim (L.le_total G.opening (p b)) [
        | inl h ↦ record {
          low = G.opening;
          high = p t;
          low_least = λ u m. L.le_trans G.opening (p b) (p u) h (least u m);
          high_most = most;
          low_below_opening = L.le_refl G.opening;
          low_within = within_opening P G k G.opening refl;
          high_within = within t n;
        }
        | inr h ↦ record {
          low = p b;
          high = p t;
          low_least = least;
          high_most = most;
          low_below_opening = h;
          low_within = within b o;
          high_within = within t n;
        }
      ]
