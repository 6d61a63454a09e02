-- Telescoping: the price of a copy and the term of a read are sums of slacks along their vertices and arcs, whatever the marks; and where no slack
-- is below 0, no term of the bound is negative.
use Prim.Native.Nat.{ℕ, zero, suc, ◌+◌, ◌≤◌, ◌<◌}
use native.Mathlib.Nat.{zero-add, add-zero}
use native.Mathlib.Omega.{arith}
use mathlib.Core.Path.{◌≡◌, refl, sym, ap, subst, subst₂, ◌∙◌}
use mathlib.Core.List.{List, [], ◌∷◌}
use mathlib.Core.Bool.{Bool, true, false, cond}
use lib.Dec.{T}
use lib.ListN.{length, get_or}
use Rattle.mathematics.specs.Price.{Prices, Le, sub, times, Ordered}
use Rattle.mathematics.specs.Lists.{All, last_of}
use Rattle.mathematics.specs.Graph.{Vertex, Arc, Graph, no_vertex, is_start, is_end, linked, WellFormed}
use Rattle.mathematics.specs.Cover.{Item, vert, arc, trail, cost_of, arc_costs, copy_price}
use Rattle.mathematics.specs.Bound.{rest, Marks, start_slack, end_slack, vertex_slack, arc_slack, vertex_slacks_hold, arc_slack_holds, VertexSlacksHold, SlacksHold, read_term, TermsHold, slacks_along, slacks_at_ends}
use Rattle.mathematics.specs.Range.{OneOf}
pub use Rattle.mathematics.specs.Bound.{item_slack}
use Rattle.mathematics.proofs.Basics.{and_l, and_r, all_among, all_weaken}
use Rattle.mathematics.proofs.Algebra
use Rattle.mathematics.proofs.Reach.{joining_arc, start_below, end_below}
use Rattle.mathematics.proofs.Items.{Known, joins_own, cost_own, known_read}

module _ (P : Prices) (L : Ordered P) where
  -- one vertex u and the arc from u to v in front: c is the arc's cost, the rest is into and out of marks
  step : (iu ou c iv C X : P.El) → P.add C iv ≡ X → P.add (P.add c C) iu ≡ P.add (sub P iu ou) (P.add (sub P (P.add c ou) iv) X)
  step iu ou c iv C X e =
      sym
      (ap (λ x. P.add (sub P iu ou) (P.add (sub P (P.add c ou) iv) x)) (sym e ∙ L.add_comm C iv)
      ∙ (ap (P.add (sub P iu ou)) (sym (L.add_assoc (sub P (P.add c ou) iv) iv C) ∙ ap (λ x. P.add x C) (Algebra.sub_add P L (P.add c ou) iv))
      ∙ (sort (sub P iu ou) c ou C ∙ ap (P.add (P.add c C)) (Algebra.sub_add P L iu ou))))
    where
      sort : (a b d e : P.El) → P.add a (P.add (P.add b d) e) ≡ P.add (P.add b e) (P.add a d)
      sort a b d e = simp (L.add_assoc, L.add_comm, Algebra.left_comm P L)

  -- the costs of the arcs along v ∷ p
  costs_telescope : (G : Graph P.El) (m : Marks P.El) (v : ℕ) (p : List ℕ) →
      P.add (arc_costs P G.arcs (v ∷ p)) (m.into v) ≡ P.add (slacks_along P G m (v ∷ p)) (m.out (last_of v p))
  costs_telescope G m v [] =
      Algebra.nil_add P L (m.into v) ∙
      (sym (Algebra.sub_add P L (m.into v) (m.out v)) ∙ ap (λ x. P.add x (m.out v)) (sym (L.add_nil (vertex_slack P m v))))
  costs_telescope G m u (v ∷ p) =
      step (m.into u) (m.out u) (cost_of P G.arcs u v) (m.into v) (arc_costs P G.arcs (v ∷ p))
      (P.add (slacks_along P G m (v ∷ p)) (m.out (last_of v p))) (costs_telescope G m v p) ∙
      regroup (vertex_slack P m u) (item_slack P G m (arc u v)) (slacks_along P G m (v ∷ p)) (m.out (last_of v p))
    where
      regroup : (a b c d : P.El) → P.add a (P.add b (P.add c d)) ≡ P.add (P.add a (P.add b c)) d
      regroup a b c d = simp L.add_assoc

  -- the price of one copy is the start slack, the end slack and the slacks along it
  pub path_price_telescopes : (G : Graph P.El) (m : Marks P.El) (v : ℕ) (p : List ℕ) →
      copy_price P G (v ∷ p) ≡ P.add (slacks_at_ends P G m (v ∷ p)) (slacks_along P G m (v ∷ p))
  path_price_telescopes G m v p =
      ap (λ x. P.add x (arc_costs P G.arcs (v ∷ p))) (sym (Algebra.sub_add P L G.opening (m.into v))) ∙
      (L.add_assoc (start_slack P G m v) (m.into v) (arc_costs P G.arcs (v ∷ p)) ∙
      (ap (P.add (start_slack P G m v)) (L.add_comm (m.into v) (arc_costs P G.arcs (v ∷ p)) ∙ costs_telescope G m v p) ∙
      sort (start_slack P G m v) (slacks_along P G m (v ∷ p)) (m.out (last_of v p))))
    where
      sort : (a b c : P.El) → P.add a (P.add b c) ≡ P.add (P.add a c) b
      sort a b c = simp (L.add_assoc, L.add_comm)

  -- the term of a read is the slacks along it
  pub read_term_telescopes : (G : Graph P.El) (m : Marks P.El) (r : List ℕ) → read_term P G m r ≡ slacks_along P G m r
  read_term_telescopes G m [] = refl
  read_term_telescopes G m (v ∷ r) =
      Algebra.sub_from P L (P.add (arc_costs P G.arcs (v ∷ r)) (m.into v)) (m.out (last_of v r)) (slacks_along P G m (v ∷ r)) (costs_telescope G m v r)

  -- the slack of the arc a, of which no other arc of the graph has the ends
  pub arc_slack_own : (G : Graph P.El) (m : Marks P.El) → WellFormed G → (a : Arc P.El) → OneOf G.arcs a →
      item_slack P G m (arc a.tail a.head) ≡ arc_slack P m a
  arc_slack_own G m g a k =
      ap (λ x. sub P (P.add x (m.out a.tail)) (m.into a.head)) (cost_own P G.arcs a a.tail a.head g.once k (joins_own a))

  then_holds : (b c : Bool) → T (cond b c true) → T b → T c
  then_holds true c h t = h
  then_holds false c h t = absurd t

  vertex_test : (G : Graph P.El) (m : Marks P.El) (k : ℕ) (xs : List Vertex) → VertexSlacksHold P G m k xs → (j : ℕ) → j < length xs →
      T (vertex_slacks_hold P G m (k + j) (get_or xs j no_vertex))
  vertex_test G m k [] h j l = absurd (omega arith)
  vertex_test G m k (x ∷ xs) h zero l = rw (add-zero k) h.0
  vertex_test G m k (x ∷ xs) h (suc j) l =
      let e : suc k + j ≡ k + suc j = omega arith in
      subst (λ n. T (vertex_slacks_hold P G m n (get_or xs j no_vertex))) e (vertex_test G m (suc k) xs h.1 j (omega arith))

  module _ (G : Graph P.El) (m : Marks P.El) (s : SlacksHold P G m) where
    at_vertex : (v : ℕ) → v < length G.vertices → T (vertex_slacks_hold P G m v (get_or G.vertices v no_vertex))
    at_vertex v h =
        subst (λ n. T (vertex_slacks_hold P G m n (get_or G.vertices v no_vertex))) (zero-add v) (vertex_test G m 0 G.vertices s.vertices_hold v h)

    pub start_slack_holds : (v : ℕ) → T (is_start G v) → Le P P.nil (start_slack P G m v)
    start_slack_holds v t =
        then_holds (is_start G v) _ (and_l (cond (is_start G v) (P.leb P.nil (start_slack P G m v)) true) _ (at_vertex v (start_below G v t))) t

    pub end_slack_holds : (v : ℕ) → T (is_end G v) → Le P P.nil (end_slack P m v)
    end_slack_holds v t =
        let h = at_vertex v (end_below G v t) in
        then_holds (is_end G v) _
        (and_l (cond (is_end G v) (P.leb P.nil (end_slack P m v)) true) _ (and_r (cond (is_start G v) (P.leb P.nil (start_slack P G m v)) true) _ h)) t

    -- the slack of each vertex and arc of the graph is not below 0
    pub item_slack_holds : WellFormed G → (i : Item) → Known G i → Le P P.nil (item_slack P G m i)
    item_slack_holds g (vert v) k =
        and_r (cond (is_end G v) (P.leb P.nil (end_slack P m v)) true) _
        (and_r (cond (is_start G v) (P.leb P.nil (start_slack P G m v)) true) _ (at_vertex v k))
    item_slack_holds g (arc u v) k =
        let (a, among, tails, heads) = joining_arc G.arcs u v k in
        subst₂ (λ x y. Le P P.nil (item_slack P G m (arc x y))) tails heads
        (subst (Le P P.nil) (sym (arc_slack_own G m g a among)) (all_among (λ b. T (arc_slack_holds P m b)) G.arcs a s.arcs_hold among))

    slacks_along_hold : WellFormed G → (p : List ℕ) → All (Known G) (trail p) → Le P P.nil (slacks_along P G m p)
    slacks_along_hold g p k =
        Algebra.sum_holds P L (item_slack P G m) (trail p)
        (all_weaken (Known G) (λ i. Le P P.nil (item_slack P G m i)) (trail p) (item_slack_holds g) k)

    -- "Where no slack is below 0, no term of the bound is negative."
    pub bound_terms_hold : WellFormed G → (rs : List (List ℕ)) → All (λ r. (2 ≤ length r) × T (linked G.arcs r)) rs → TermsHold P rs G m
    bound_terms_hold g rs h =
        record {
          vertex_terms_hold = λ v l.
              Algebra.times_holds P L (rest rs (vert v) (get_or G.vertices v no_vertex).demand) (vertex_slack P m v) (item_slack_holds g (vert v) l);
          arc_terms_hold =
              all_weaken (λ a. T (arc_slack_holds P m a))
              (λ (a : Arc P.El). Le P P.nil (times P (rest rs (arc a.tail a.head) a.demand) (arc_slack P m a))) G.arcs
              (λ a t. Algebra.times_holds P L (rest rs (arc a.tail a.head) a.demand) (arc_slack P m a) t) s.arcs_hold;
          read_terms_hold =
              all_weaken (λ r. (2 ≤ length r) × T (linked G.arcs r)) (λ r. Le P P.nil (read_term P G m r)) rs
              (λ r k. subst (Le P P.nil) (sym (read_term_telescopes G m r)) (slacks_along_hold g r (known_read G g.rises r k.0 k.1))) h;
        }
