-- Marks for the vertices from marks for the nodes of the network: a useful vertex takes those of its two sides; one that no start reaches takes the
-- greatest, one that a start reaches and that reaches no end the least. Then no slack is below nothing.
use Prim.Native.Nat.{ℕ, suc, ◌+◌}
use native.Mathlib.Omega.{arith}
use mathlib.Core.Path.{◌≡◌, refl, sym, ap, ap₂, subst, subst₂, ◌∙◌}
use mathlib.Core.List.{List, [], ◌∷◌}
use mathlib.Core.Bool.{Bool, true, false, cond, ◌&&◌}
use mathlib.Core.Logic.{◌⊎◌, inl, inr}
use lib.Dec.{T}
use lib.ListN.{get_or}
use Rattle.mathematics.specs.Price.{Prices, Ordered, Le, sub}
use Rattle.mathematics.specs.Graph.{Vertex, Arc, Graph, no_vertex, is_start, is_end, has_arc, WellFormed}
use Rattle.mathematics.specs.Cover.{cost_of}
use Rattle.mathematics.specs.Bound.{Marks, start_slack, end_slack, vertex_slack, arc_slack, vertex_slacks_hold, arc_slack_holds, VertexSlacksHold, SlacksHold}
use Rattle.mathematics.specs.Range.{OneOf, CostsHold}
use Rattle.mathematics.specs.Reach.{from_start, to_end, useful}
use Rattle.mathematics.specs.Links.{opening, closing, inside, across, in_node, out_node}
pub use Rattle.mathematics.specs.Links.{side_mark}
use Rattle.mathematics.proofs.Basics.{and_l, and_r, and_in, all_among, all_from, is_true, is_false, test}
use Rattle.mathematics.proofs.Algebra
use Rattle.mathematics.proofs.Reach.{arc_joins, from_start_arc, to_end_arc, start_from_start, end_to_end}
use Rattle.mathematics.proofs.Items.{cost_own, joins_own}
use Rattle.mathematics.proofs.Network.{slack}
use Rattle.mathematics.proofs.Wired.{Node, root_node, in_node_lem, out_node_lem, edge_of}

abbrev pub marks_of : {E F : Type 0} → Graph F → (ℕ → E) → E → E → Marks E
marks_of G p low high = record { into = λ v. side_mark G low high (p (in_node v)) v; out = λ v. side_mark G low high (p (out_node v)) v }

-- which of the three marks it is
side_cases : {E F : Type 0} (G : Graph F) (low high own : E) (v : ℕ) →
    (T (useful G v) × (side_mark G low high own v ≡ own)) ⊎
    ((T (from_start G v) × (T (to_end G v) → ⊥) × (side_mark G low high own v ≡ low)) ⊎ ((T (from_start G v) → ⊥) × (side_mark G low high own v ≡ high)))
side_cases {E} G low high own v = go (from_start G v) (to_end G v)
  where
    go : (a b : Bool) →
        (T (a && b) × (cond (a && b) own (cond a low high) ≡ own)) ⊎
        ((T a × (T b → ⊥) × (cond (a && b) own (cond a low high) ≡ low)) ⊎ ((T a → ⊥) × (cond (a && b) own (cond a low high) ≡ high)))
    go true true = inl (tt, refl)
    go true false = inr (inl (tt, λ h. h, refl))
    go false b = inr (inr (λ h. h, refl))

-- what holds of all three holds of it
pub side_among : {E F : Type 0} (Q : E → Type 0) (G : Graph F) (low high own : E) (v : ℕ) → (T (useful G v) → Q own) → Q low → Q high →
    Q (side_mark G low high own v)
side_among Q G low high own v a b c =
    elim (side_cases G low high own v) [
      | inl h ↦ subst Q (sym h.1) (a h.0)
      | inr d ↦ elim d [ inl h ↦ subst Q (sym h.2) b | inr h ↦ subst Q (sym h.1) c ]
    ]

pub side_useful : {E F : Type 0} (G : Graph F) (low high own : E) (v : ℕ) → T (useful G v) → side_mark G low high own v ≡ own
side_useful G low high own v u = ap (λ b. cond b own (cond (from_start G v) low high)) (is_true (useful G v) u)

cond_holds : (b t : Bool) → (T b → T t) → T (cond b t true)
cond_holds true t h = h tt
cond_holds false t h = tt

-- slacks hold at all vertices where they do at each
vertices_hold : (P : Prices) (G : Graph P.El) (m : Marks P.El) (k : ℕ) (xs : List Vertex) →
    ((j : ℕ) → T (vertex_slacks_hold P G m (k + j) (get_or xs j no_vertex))) →
    VertexSlacksHold P G m k xs
vertices_hold P G m k [] h = tt
vertices_hold P G m k (x ∷ xs) h = (
  subst (λ (n : ℕ). T (vertex_slacks_hold P G m n x)) (omega arith) (h 0),
  vertices_hold P G m (suc k) xs (λ j. subst (λ (n : ℕ). T (vertex_slacks_hold P G m n (get_or xs j no_vertex))) (omega arith) (h (suc j))),
)

module _ (P : Prices) (L : Ordered P) (G : Graph P.El) (g : WellFormed G) (p : ℕ → P.El) (low high : P.El) where
  -- What is asked of the marks of nodes: no slack of a link is below nothing, and low and high lie at the ends.
  pub record Spread : Type 0 where
    pub root_nil : p 0 ≡ P.nil
    pub open_holds : (v : ℕ) → T (is_start G v) → T (useful G v) → Le P P.nil (slack P p (edge_of P G (opening v)))
    pub close_holds : (v : ℕ) → T (is_end G v) → T (useful G v) → Le P P.nil (slack P p (edge_of P G (closing v)))
    pub inside_holds : (v : ℕ) → T (useful G v) → Le P P.nil (slack P p (edge_of P G (inside v)))
    pub across_holds : (u v : ℕ) → T (has_arc G.arcs u v) → T (useful G u) → T (useful G v) → Le P P.nil (slack P p (edge_of P G (across u v)))
    pub low_least : (u : ℕ) → Node G u → Le P low (p u)
    pub high_most : (u : ℕ) → Node G u → Le P (p u) high
    pub low_below_opening : Le P low G.opening

  abbrev m : Marks P.El
  m = marks_of G p low high

  -- ---- the slack of a used link is that of the marks

  pub open_slack : p 0 ≡ P.nil → (v : ℕ) → T (useful G v) → slack P p (edge_of P G (opening v)) ≡ start_slack P G (marks_of G p low high) v
  open_slack z v u =
      ap₂ (λ x y. sub P (P.add G.opening x) y) z (sym (side_useful G low high (p (in_node v)) v u)) ∙ ap (λ x. sub P x (m.into v)) (L.add_nil G.opening)

  pub close_slack : p 0 ≡ P.nil → (v : ℕ) → T (useful G v) → slack P p (edge_of P G (closing v)) ≡ end_slack P (marks_of G p low high) v
  close_slack z v u =
      ap (λ x. sub P (P.add P.nil (p (out_node v))) x) z ∙
      (Algebra.sub_nil P L (P.add P.nil (p (out_node v))) ∙ (Algebra.nil_add P L (p (out_node v)) ∙ sym (side_useful G low high (p (out_node v)) v u)))

  pub inside_slack : (v : ℕ) → T (useful G v) → slack P p (edge_of P G (inside v)) ≡ vertex_slack P (marks_of G p low high) v
  inside_slack v u =
      ap (λ x. sub P x (p (out_node v))) (Algebra.nil_add P L (p (in_node v))) ∙
      ap₂ (λ x y. sub P x y) (sym (side_useful G low high (p (in_node v)) v u)) (sym (side_useful G low high (p (out_node v)) v u))

  pub across_slack : (u v : ℕ) → T (useful G u) → T (useful G v) →
      slack P p (edge_of P G (across u v)) ≡ sub P (P.add (cost_of P G.arcs u v) ((marks_of G p low high).out u)) ((marks_of G p low high).into v)
  across_slack u v x y =
      ap₂ (λ a b. sub P (P.add (cost_of P G.arcs u v) a) b) (sym (side_useful G low high (p (out_node u)) u x))
      (sym (side_useful G low high (p (in_node v)) v y))

  -- ---- no slack is below nothing

  module _ (k : Spread) where
    low_high : Le P low high
    low_high = L.le_trans low (p 0) high (k.low_least 0 (root_node G g)) (k.high_most 0 (root_node G g))

    start_holds : (v : ℕ) → T (is_start G v) → Le P P.nil (start_slack P G m v)
    start_holds v t = go (side_cases G low high (p (in_node v)) v)
      where
        go : (T (useful G v) × (m.into v ≡ p (in_node v))) ⊎ ((T (from_start G v) × (T (to_end G v) → ⊥) × (m.into v ≡ low)) ⊎ ((T (from_start G v) → ⊥) × (m.into v ≡ high))) → Le P P.nil (start_slack P G m v)
        go (inl c) = subst (Le P P.nil) (open_slack k.root_nil v c.0) (k.open_holds v t c.0)
        go (inr (inl c)) = subst (λ x. Le P P.nil (sub P G.opening x)) (sym c.2) (Algebra.sub_holds P L low G.opening k.low_below_opening)
        go (inr (inr c)) = absurd (c.0 (start_from_start G v t))

    end_holds : (v : ℕ) → T (is_end G v) → Le P P.nil (end_slack P m v)
    end_holds v t = go (side_cases G low high (p (out_node v)) v)
      where
        go : (T (useful G v) × (m.out v ≡ p (out_node v))) ⊎ ((T (from_start G v) × (T (to_end G v) → ⊥) × (m.out v ≡ low)) ⊎ ((T (from_start G v) → ⊥) × (m.out v ≡ high))) → Le P P.nil (end_slack P m v)
        go (inl c) = subst (Le P P.nil) (close_slack k.root_nil v c.0) (k.close_holds v t c.0)
        go (inr (inl c)) = absurd (c.1 (end_to_end G v t))
        go (inr (inr c)) = subst₂ (Le P) k.root_nil (sym c.1) (k.high_most 0 (root_node G g))

    vertex_holds : (v : ℕ) → Le P P.nil (vertex_slack P m v)
    vertex_holds v =
        elim (test (useful G v)) [
          | inl u ↦ subst (Le P P.nil) (inside_slack v u) (k.inside_holds v u)
          | inr n ↦ Algebra.sub_holds P L (m.out v) (m.into v)
              (Algebra.le_of_eq P L (m.out v) (m.into v) (useless (p (out_node v)) n ∙ sym (useless (p (in_node v)) n)))
        ]
      where
        useless : (own : P.El) → (T (useful G v) → ⊥) → side_mark G low high own v ≡ cond (from_start G v) low high
        useless own n = ap (λ b. cond b own (cond (from_start G v) low high)) (is_false (useful G v) n)

    -- the four kinds of arc between useful vertices and others
    arc_order : (c : P.El) → Le P P.nil c → (u v : ℕ) → T (has_arc G.arcs u v) →
        (T (useful G u) → T (useful G v) → Le P (m.into v) (P.add c (m.out u))) → Le P (m.into v) (P.add c (m.out u))
    arc_order c nn u v t both = go (side_cases G low high (p (in_node v)) v) (side_cases G low high (p (out_node u)) u)
      where
        reached : T (from_start G u) → T (from_start G v)
        reached = from_start_arc G g u v t

        ends : T (to_end G v) → T (to_end G u)
        ends = to_end_arc G g u v t

        dearer : (x y : P.El) → Le P x y → Le P x (P.add c y)
        dearer x y h = L.le_trans x y (P.add c y) h (subst (Le P y) (L.add_comm y c) (Algebra.le_add_more P L y c nn))

        go : (T (useful G v) × (m.into v ≡ p (in_node v))) ⊎ ((T (from_start G v) × (T (to_end G v) → ⊥) × (m.into v ≡ low)) ⊎ ((T (from_start G v) → ⊥) × (m.into v ≡ high))) →
            (T (useful G u) × (m.out u ≡ p (out_node u))) ⊎
            ((T (from_start G u) × (T (to_end G u) → ⊥) × (m.out u ≡ low)) ⊎ ((T (from_start G u) → ⊥) × (m.out u ≡ high))) → Le P (m.into v)
            (P.add c (m.out u))
        go (inl a) (inl b) = both b.0 a.0
        go (inl a) (inr (inl b)) = absurd (b.1 (ends (and_r (from_start G v) (to_end G v) a.0)))
        go (inl a) (inr (inr b)) = dearer (m.into v) (m.out u) (subst₂ (Le P) (sym a.1) (sym b.1) (k.high_most (in_node v) (in_node_lem G g v a.0)))
        go (inr (inl a)) (inl b) = dearer (m.into v) (m.out u) (subst₂ (Le P) (sym a.2) (sym b.1) (k.low_least (out_node u) (out_node_lem G g u b.0)))
        go (inr (inl a)) (inr (inl b)) = dearer (m.into v) (m.out u) (subst₂ (Le P) (sym a.2) (sym b.2) (L.le_refl low))
        go (inr (inl a)) (inr (inr b)) = dearer (m.into v) (m.out u) (subst₂ (Le P) (sym a.2) (sym b.1) low_high)
        go (inr (inr a)) (inl b) = absurd (a.0 (reached (and_l (from_start G u) (to_end G u) b.0)))
        go (inr (inr a)) (inr (inl b)) = absurd (a.0 (reached b.0))
        go (inr (inr a)) (inr (inr b)) = dearer (m.into v) (m.out u) (subst₂ (Le P) (sym a.1) (sym b.1) (L.le_refl high))

    arc_holds : CostsHold P G → (a : Arc P.El) → OneOf G.arcs a → Le P P.nil (arc_slack P m a)
    arc_holds c a o =
        Algebra.sub_holds P L (m.into a.head) (P.add a.cost (m.out a.tail))
        (arc_order a.cost (all_among (λ b. Le P P.nil b.cost) G.arcs a c.costs_hold o) a.tail a.head joined
        (λ x y. Algebra.le_of_sub P L (m.into a.head) (P.add a.cost (m.out a.tail))
        (subst (λ z. Le P P.nil (sub P (P.add z (m.out a.tail)) (m.into a.head)))
        (cost_own P G.arcs a a.tail a.head g.once o (joins_own a))
        (subst (Le P P.nil) (across_slack a.tail a.head x y) (k.across_holds a.tail a.head joined x y)))))
      where
        joined : T (has_arc G.arcs a.tail a.head)
        joined = arc_joins G.arcs a o

    -- "Slacks, all of which must be at least 0"
    pub slacks_hold : CostsHold P G → SlacksHold P G (marks_of G p low high)
    slacks_hold c =
        record {
          vertices_hold =
              vertices_hold P G m 0 G.vertices (λ j. subst (λ (n : ℕ). T (vertex_slacks_hold P G m n (get_or G.vertices j no_vertex))) (omega arith) (at j));
          arcs_hold = all_from (λ a. T (arc_slack_holds P m a)) G.arcs (arc_holds c);
        }
      where
        at : (v : ℕ) → T (vertex_slacks_hold P G m v (get_or G.vertices v no_vertex))
        at v =
            and_in (cond (is_start G v) (P.leb P.nil (start_slack P G m v)) true)
            (cond (is_end G v) (P.leb P.nil (end_slack P m v)) true && P.leb P.nil (vertex_slack P m v))
            (cond_holds (is_start G v) (P.leb P.nil (start_slack P G m v)) (start_holds v))
            (and_in (cond (is_end G v) (P.leb P.nil (end_slack P m v)) true) (P.leb P.nil (vertex_slack P m v))
            (cond_holds (is_end G v) (P.leb P.nil (end_slack P m v)) (end_holds v)) (vertex_holds v))
