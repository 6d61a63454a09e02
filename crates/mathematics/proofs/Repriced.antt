-- #108: a graph with other prices has the same paths, covers and prepared reads; plain numbers are pairs whose first part is nothing; and a cover of lowest
-- price by pairs is one with the fewest copies and, among those, the lowest arc cost.
use Prim.Native.Nat.{ℕ, zero, suc, ◌+◌, ◌-◌, ◌≤◌, ◌<◌}
use native.Mathlib.Omega.{arith}
use mathlib.Core.Path.{◌≡◌, refl, sym, ap, ap₂, subst, ◌∙◌}
use mathlib.Core.List.{List, [], ◌∷◌, ◌++◌, map}
use mathlib.Core.Bool.{Bool, true, false, cond, ◌&&◌, ◌||◌}
use mathlib.Core.Logic.{◌⊎◌, inl, inr, ◌↔◌}
use lib.Dec.{T, eqb, ltb, ltb→lt, nltb→le, not_T}
use lib.ListN.{length}
use lib.IntN.{ℤ, pos, ◌+ℤ◌}
use lib.Signed.{le_z}
use Rattle.mathematics.specs.Price.{Prices, Le, sub, times, whole, Pair, pair_leb, pairs}
use Rattle.mathematics.specs.Lists.{All, Distinct, holds, last_of}
use Rattle.mathematics.specs.Graph.{Vertex, Arc, Graph, WellFormed, Rises, is_start, is_end, joins, has_arc, linked, is_path}
use Rattle.mathematics.specs.Cover.{vert, arc, through, Ask, vertex_asks, arc_ask, asks, total, total_weight, Weighted, IsCover, cost_of, arc_costs, copy_price, price, IsLowest}
use Rattle.mathematics.specs.Exists.{ItemOnPath, Coverable}
use Rattle.mathematics.specs.Reach.{some_into, some_out, from_start_in, to_end_in, from_start, to_end, useful}
use Rattle.mathematics.specs.Range.{CostsHold}
use Rattle.mathematics.specs.Prepare.{prepare}
use Rattle.mathematics.specs.Bound.{rest, Marks, vertex_slack, arc_slack, vertex_slacks_hold, arc_slack_holds, VertexSlacksHold, SlacksHold, vertex_terms, arc_terms, read_term, read_terms, bound}
use Rattle.mathematics.specs.Direction.{LowestPrice, Each, ArcRaised, AsksMore}
use Rattle.mathematics.specs.Repriced.{repriced_arc, repriced, repriced_marks, plain, fewest_first, plainly, total_arc_cost, FewestThenCheapest}
use Rattle.mathematics.proofs.Basics.{all_weaken, all_map, all_unmap, test, is_true, is_false}
use Rattle.mathematics.proofs.Algebra
use Rattle.mathematics.proofs.PriceKinds.{whole_ordered}

-- ---- what does not depend on prices

module _ {E F : Type 0} (f : E → F) where
  repriced_arcs : (arcs : List (Arc E)) (u v : ℕ) → has_arc (map (repriced_arc f) arcs) u v ≡ has_arc arcs u v
  repriced_arcs [] u v = refl
  repriced_arcs (a ∷ arcs) u v = ap (λ t. joins a u v || t) (repriced_arcs arcs u v)

  pub repriced_linked : (arcs : List (Arc E)) (p : List ℕ) → linked (map (repriced_arc f) arcs) p ≡ linked arcs p
  repriced_linked arcs [] = refl
  repriced_linked arcs (v ∷ []) = refl
  repriced_linked arcs (u ∷ v ∷ p) = ap₂ (λ (s t : Bool). s && t) (repriced_arcs arcs u v) (repriced_linked arcs (v ∷ p))

  arc_asks : (arcs : List (Arc E)) → map arc_ask (map (repriced_arc f) arcs) ≡ map arc_ask arcs
  arc_asks [] = refl
  arc_asks (a ∷ arcs) = ap (λ l. arc_ask a ∷ l) (arc_asks arcs)

  some_into_lem : (g h : ℕ → Bool) → ((u : ℕ) → g u ≡ h u) → (arcs : List (Arc E)) (v : ℕ) → some_into g (map (repriced_arc f) arcs) v ≡ some_into h arcs v
  some_into_lem g h e [] v = refl
  some_into_lem g h e (a ∷ arcs) v = ap₂ (λ (s t : Bool). (eqb a.head v && s) || t) (e a.tail) (some_into_lem g h e arcs v)

  some_out_lem : (g h : ℕ → Bool) → ((u : ℕ) → g u ≡ h u) → (arcs : List (Arc E)) (v : ℕ) → some_out g (map (repriced_arc f) arcs) v ≡ some_out h arcs v
  some_out_lem g h e [] v = refl
  some_out_lem g h e (a ∷ arcs) v = ap₂ (λ (s t : Bool). (eqb a.tail v && s) || t) (e a.head) (some_out_lem g h e arcs v)

  module _ (o : F) (G : Graph E) where
    pub repriced_path : (p : List ℕ) → is_path (repriced f o G) p ≡ is_path G p
    repriced_path [] = refl
    repriced_path (v ∷ p) = ap (λ t. is_start G v && (t && is_end G (last_of v p))) (repriced_linked G.arcs (v ∷ p))

    pub repriced_asks : asks (repriced f o G) ≡ asks G
    repriced_asks = ap (λ l. vertex_asks 0 G.vertices ++ l) (arc_asks G.arcs)

    -- the same covers
    pub repriced_cover : (W : List Weighted) → IsCover (repriced f o G) W ↔ IsCover G W
    repriced_cover W = (
      λ c. record {
        are_paths = all_weaken _ _ W (λ (w : Weighted) t. subst T (repriced_path w.path) t) c.are_paths;
        weights = c.weights;
        distinct = c.distinct;
        demands_met = subst (All (λ a. a.demand ≤ total a.item W)) repriced_asks c.demands_met;
        reads_met = c.reads_met;
      },
      λ c. record {
        are_paths = all_weaken _ _ W (λ (w : Weighted) t. subst T (sym (repriced_path w.path)) t) c.are_paths;
        weights = c.weights;
        distinct = c.distinct;
        demands_met = subst (All (λ a. a.demand ≤ total a.item W)) (sym repriced_asks) c.demands_met;
        reads_met = c.reads_met;
      },
    )

    pub repriced_formed : WellFormed G → WellFormed (repriced f o G)
    repriced_formed g =
        record {
          rises = all_map (Rises (length G.vertices)) (repriced_arc f) G.arcs g.rises;
          once = subst (Distinct {A = ℕ × ℕ}) (sym (same_ends G.arcs)) g.once;
          reads_linked = all_weaken _ _ G.reads (λ r h. (h.0, subst T (sym (repriced_linked G.arcs r)) h.1)) g.reads_linked;
        }
      where
        same_ends : (arcs : List (Arc E)) → map {B = ℕ × ℕ} (λ (a : Arc F). (a.tail, a.head)) (map (repriced_arc f) arcs) ≡ map {B = ℕ × ℕ} (λ (a : Arc E). (a.tail, a.head)) arcs
        same_ends [] = refl
        same_ends (a ∷ arcs) = ap (λ (l : List (ℕ × ℕ)). (a.tail, a.head) ∷ l) (same_ends arcs)

    -- a cover exists for the one exactly when it does for the other
    pub repriced_coverable : Coverable (repriced f o G) ↔ Coverable G
    repriced_coverable = (
      λ c. record {
        items_lie =
            all_weaken _ _ (asks G) (λ (a : Ask) h d. moved (λ p. 1 ≤ through a.item p) (h d))
            (subst (All (λ a. 1 ≤ a.demand → ItemOnPath (repriced f o G) a.item)) repriced_asks c.items_lie);
        reads_lie = all_weaken _ _ G.reads (λ (r : List ℕ) h. moved (λ p. T (holds p r)) h) c.reads_lie;
      },
      λ c. record {
        items_lie =
            subst (All (λ a. 1 ≤ a.demand → ItemOnPath (repriced f o G) a.item)) (sym repriced_asks)
            (all_weaken _ _ (asks G) (λ (a : Ask) h d. back (λ p. 1 ≤ through a.item p) (h d)) c.items_lie);
        reads_lie = all_weaken _ _ G.reads (λ (r : List ℕ) h. back (λ p. T (holds p r)) h) c.reads_lie;
      },
    )
      where
        moved : (Q : List ℕ → Type 0) → (p : List ℕ) × T (is_path (repriced f o G) p) × Q p → (p : List ℕ) × T (is_path G p) × Q p
        moved Q (p, t, q) = (p, subst T (repriced_path p) t, q)

        back : (Q : List ℕ → Type 0) → (p : List ℕ) × T (is_path G p) × Q p → (p : List ℕ) × T (is_path (repriced f o G) p) × Q p
        back Q (p, t, q) = (p, subst T (sym (repriced_path p)) t, q)

    -- the same vertices are reached from a start and reach an end
    from_start_in_lem : (steps v : ℕ) → from_start_in (repriced f o G) steps v ≡ from_start_in G steps v
    from_start_in_lem zero v = refl
    from_start_in_lem (suc steps) v =
        ap (λ t. is_start G v || t) (some_into_lem (from_start_in (repriced f o G) steps) (from_start_in G steps) (from_start_in_lem steps) G.arcs v)

    to_end_in_lem : (steps v : ℕ) → to_end_in (repriced f o G) steps v ≡ to_end_in G steps v
    to_end_in_lem zero v = refl
    to_end_in_lem (suc steps) v =
        ap (λ t. is_end G v || t) (some_out_lem (to_end_in (repriced f o G) steps) (to_end_in G steps) (to_end_in_lem steps) G.arcs v)

    pub repriced_from_start : (v : ℕ) → from_start (repriced f o G) v ≡ from_start G v
    unfolding from_start
    repriced_from_start v = from_start_in_lem v v

    pub repriced_useful : (v : ℕ) → useful (repriced f o G) v ≡ useful G v
    unfolding from_start to_end
    repriced_useful v = ap₂ (λ (s t : Bool). s && t) (from_start_in_lem v v) (to_end_in_lem (length G.vertices - v) v)

-- ---- prices of one kind carried to another: f keeps nothing, sums, opposites and the order

pub record Carries (P Q : Prices) (f : P.El → Q.El) : Type 0 where
  pub nil_carried : f P.nil ≡ Q.nil
  pub add_carried : (a b : P.El) → f (P.add a b) ≡ Q.add (f a) (f b)
  pub neg_carried : (a : P.El) → f (P.neg a) ≡ Q.neg (f a)
  pub leb_carried : (a b : P.El) → Q.leb (f a) (f b) ≡ P.leb a b

module _ (P Q : Prices) (f : P.El → Q.El) (c : Carries P Q f) where
  times_carried : (k : ℕ) (a : P.El) → times Q k (f a) ≡ f (times P k a)
  times_carried zero a = sym c.nil_carried
  times_carried (suc k) a = ap (Q.add (f a)) (times_carried k a) ∙ sym (c.add_carried a (times P k a))

  cost_carried : (arcs : List (Arc P.El)) (u v : ℕ) → cost_of Q (map (repriced_arc f) arcs) u v ≡ f (cost_of P arcs u v)
  cost_carried [] u v = sym c.nil_carried
  cost_carried (a ∷ arcs) u v = ap (cond (joins a u v) (f a.cost)) (cost_carried arcs u v) ∙ chosen (joins a u v) a.cost (cost_of P arcs u v)
    where
      chosen : (t : Bool) (x y : P.El) → cond t (f x) (f y) ≡ f (cond t x y)
      chosen true x y = refl
      chosen false x y = refl

  pub costs_carried : (arcs : List (Arc P.El)) (p : List ℕ) → arc_costs Q (map (repriced_arc f) arcs) p ≡ f (arc_costs P arcs p)
  costs_carried arcs [] = sym c.nil_carried
  costs_carried arcs (v ∷ []) = sym c.nil_carried
  costs_carried arcs (u ∷ v ∷ p) =
      ap₂ Q.add (cost_carried arcs u v) (costs_carried arcs (v ∷ p)) ∙ sym (c.add_carried (cost_of P arcs u v) (arc_costs P arcs (v ∷ p)))

  module _ (G : Graph P.El) where
    pub price_carried : (W : List Weighted) → price Q (repriced f (f G.opening) G) W ≡ f (price P G W)
    price_carried [] = sym c.nil_carried
    price_carried (w ∷ W) =
        ap₂ Q.add
        (ap (times Q w.weight) (ap (Q.add (f G.opening)) (costs_carried G.arcs w.path) ∙ sym (c.add_carried G.opening (arc_costs P G.arcs w.path))) ∙
        times_carried w.weight (copy_price P G w.path))
        (price_carried W) ∙
        sym (c.add_carried (times P w.weight (copy_price P G w.path)) (price P G W))

    -- a cover is of lowest price in the one kind exactly when it is in the other
    pub lowest_carried : (W : List Weighted) → IsLowest Q (repriced f (f G.opening) G) W ↔ IsLowest P G W
    lowest_carried W = (
      λ l. record {
        cover = (repriced_cover f (f G.opening) G W).0 l.cover;
        lowest = λ U u. subst T (same U) (l.lowest U ((repriced_cover f (f G.opening) G U).1 u));
      },
      λ l. record {
        cover = (repriced_cover f (f G.opening) G W).1 l.cover;
        lowest = λ U u. subst T (sym (same U)) (l.lowest U ((repriced_cover f (f G.opening) G U).0 u));
      },
    )
      where
        same : (U : List Weighted) →
            Q.leb (price Q (repriced f (f G.opening) G) W) (price Q (repriced f (f G.opening) G) U) ≡ P.leb (price P G W) (price P G U)
        same U = ap₂ Q.leb (price_carried W) (price_carried U) ∙ c.leb_carried (price P G W) (price P G U)

    -- ---- marks, slacks and bound

    module _ (m : Marks P.El) where
      sub_carried : (a b : P.El) → sub Q (f a) (f b) ≡ f (sub P a b)
      sub_carried a b = ap (Q.add (f a)) (sym (c.neg_carried b)) ∙ sym (c.add_carried a (P.neg b))

      arc_slack_carried : (a : Arc P.El) → arc_slack Q (repriced_marks f m) (repriced_arc f a) ≡ f (arc_slack P m a)
      arc_slack_carried a =
          ap (λ x. sub Q x (f (m.into a.head))) (sym (c.add_carried a.cost (m.out a.tail))) ∙
          sub_carried (P.add a.cost (m.out a.tail)) (m.into a.head)

      holds_carried : (x : Q.El) (a : P.El) → x ≡ f a → Q.leb Q.nil x ≡ P.leb P.nil a
      holds_carried x a e = ap₂ Q.leb (sym c.nil_carried) e ∙ c.leb_carried P.nil a

      vertex_slacks_carried : (v : ℕ) (x : Vertex) →
          vertex_slacks_hold Q (repriced f (f G.opening) G) (repriced_marks f m) v x ≡ vertex_slacks_hold P G m v x
      vertex_slacks_carried v x =
          ap₂ (λ (s t : Bool). cond x.start s true && t) (holds_carried _ _ (sub_carried G.opening (m.into v)))
          (ap₂ (λ (s t : Bool). cond x.end s true && t) (holds_carried _ _ refl) (holds_carried _ _ (sub_carried (m.into v) (m.out v))))

      all_slacks_carried : (v : ℕ) (xs : List Vertex) →
          VertexSlacksHold Q (repriced f (f G.opening) G) (repriced_marks f m) v xs ≡ VertexSlacksHold P G m v xs
      all_slacks_carried v [] = refl
      all_slacks_carried v (x ∷ xs) = ap₂ (λ (s : Bool) (X : Type 0). T s × X) (vertex_slacks_carried v x) (all_slacks_carried (suc v) xs)

      -- no slack is below nothing in the one kind exactly when none is in the other
      pub slacks_carried : SlacksHold Q (repriced f (f G.opening) G) (repriced_marks f m) ↔ SlacksHold P G m
      slacks_carried = (
        λ h. record {
          vertices_hold = subst (λ (X : Type 0). X) (all_slacks_carried 0 G.vertices) h.vertices_hold;
          arcs_hold =
              all_weaken _ _ G.arcs (λ (a : Arc P.El) t. subst T (holds_carried _ _ (arc_slack_carried a)) t)
              (all_unmap (λ a. T (arc_slack_holds Q (repriced_marks f m) a)) (repriced_arc f) G.arcs h.arcs_hold);
        },
        λ h. record {
          vertices_hold = subst (λ (X : Type 0). X) (sym (all_slacks_carried 0 G.vertices)) h.vertices_hold;
          arcs_hold =
              all_map (λ a. T (arc_slack_holds Q (repriced_marks f m) a)) (repriced_arc f) G.arcs
              (all_weaken _ _ G.arcs (λ (a : Arc P.El) t. subst T (sym (holds_carried _ _ (arc_slack_carried a))) t) h.arcs_hold);
        },
      )

      vertex_terms_carried : (rs : List (List ℕ)) (v : ℕ) (xs : List Vertex) → vertex_terms Q rs (repriced_marks f m) v xs ≡ f (vertex_terms P rs m v xs)
      vertex_terms_carried rs v [] = sym c.nil_carried
      vertex_terms_carried rs v (x ∷ xs) =
          let k = rest rs (vert v) x.demand in
          ap₂ Q.add (ap (times Q k) (sub_carried (m.into v) (m.out v)) ∙ times_carried k (vertex_slack P m v)) (vertex_terms_carried rs (suc v) xs) ∙
          sym (c.add_carried (times P k (vertex_slack P m v)) (vertex_terms P rs m (suc v) xs))

      arc_terms_carried : (rs : List (List ℕ)) (arcs : List (Arc P.El)) →
          arc_terms Q rs (repriced_marks f m) (map (repriced_arc f) arcs) ≡ f (arc_terms P rs m arcs)
      arc_terms_carried rs [] = sym c.nil_carried
      arc_terms_carried rs (a ∷ arcs) =
          let k = rest rs (arc a.tail a.head) a.demand in
          ap₂ Q.add (ap (times Q k) (arc_slack_carried a) ∙ times_carried k (arc_slack P m a)) (arc_terms_carried rs arcs) ∙
          sym (c.add_carried (times P k (arc_slack P m a)) (arc_terms P rs m arcs))

      read_term_carried : (r : List ℕ) → read_term Q (repriced f (f G.opening) G) (repriced_marks f m) r ≡ f (read_term P G m r)
      read_term_carried [] = sym c.nil_carried
      read_term_carried (v ∷ r) =
          ap (λ x. sub Q x (f (m.out (last_of v r))))
          (ap (λ x. Q.add x (f (m.into v))) (costs_carried G.arcs (v ∷ r)) ∙ sym (c.add_carried (arc_costs P G.arcs (v ∷ r)) (m.into v))) ∙
          sub_carried (P.add (arc_costs P G.arcs (v ∷ r)) (m.into v)) (m.out (last_of v r))

      read_terms_carried : (rs : List (List ℕ)) → read_terms Q (repriced f (f G.opening) G) (repriced_marks f m) rs ≡ f (read_terms P G m rs)
      read_terms_carried [] = sym c.nil_carried
      read_terms_carried (r ∷ rs) = ap₂ Q.add (read_term_carried r) (read_terms_carried rs) ∙ sym (c.add_carried (read_term P G m r) (read_terms P G m rs))

      pub bound_carried : bound Q (repriced f (f G.opening) G) (repriced_marks f m) ≡ f (bound P G m)
      unfolding bound
      bound_carried =
          let rs = prepare G.reads in
          ap₂ Q.add (vertex_terms_carried rs 0 G.vertices)
          (ap₂ Q.add (arc_terms_carried rs G.arcs) (read_terms_carried rs) ∙ sym (c.add_carried (arc_terms P rs m G.arcs) (read_terms P G m rs))) ∙
          sym (c.add_carried (vertex_terms P rs m 0 G.vertices) (P.add (arc_terms P rs m G.arcs) (read_terms P G m rs)))

-- ---- plain numbers as pairs

plain_carries : Carries whole pairs plain
plain_carries = record { nil_carried = refl; add_carried = λ a b. refl; neg_carried = λ a. refl; leb_carried = λ a b. refl }

-- copies of a pair that has one in its first part
times_copy : (k : ℕ) (x : ℤ) → times pairs k (record { first = pos 1; second = x }) ≡ record { first = pos k; second = times whole k x }
times_copy zero x = refl
times_copy (suc k) x =
    let e : 1 + k ≡ suc k = omega arith in
    ap (pairs.add (record { first = pos 1; second = x })) (times_copy k x) ∙ ap (λ (n : ℕ). record { first = pos n; second = x +ℤ times whole k x }) e

-- t is whether (a, ..) is at most (b, ..), with x for whether the second part is: fewer copies, as many, or more
abbrev Ways : ℕ → ℕ → Bool → Bool → Type 0
Ways a b x t = ((a < b) × (t ≡ true)) ⊎ (((a ≡ b) × (t ≡ x)) ⊎ ((b < a) × (t ≡ false)))

ways : (a b : ℕ) (x : Bool) → Ways a b x (cond (ltb a b) true (cond (ltb b a) false x))
ways a b x = at (test (ltb a b)) (test (ltb b a))
  where
    at : T (ltb a b) ⊎ (T (ltb a b) → ⊥) → T (ltb b a) ⊎ (T (ltb b a) → ⊥) → Ways a b x (cond (ltb a b) true (cond (ltb b a) false x))
    at (inl t) k = inl (ltb→lt a b t, rw (is_true (ltb a b) t))
    at (inr f) (inl t) = inr (inr (ltb→lt b a t, rw (is_false (ltb a b) f, is_true (ltb b a) t)))
    at (inr f) (inr g) =
        let e : a ≡ b = omega (arith, nltb→le a b (not_T (ltb a b) f), nltb→le b a (not_T (ltb b a) g)) in
        inr (inl (e, rw (is_false (ltb a b) f, is_false (ltb b a) g)))

-- a number of copies in the first part: at most is fewer copies, or as many and the second part at most
pair_parts : (a b : ℕ) (x y : ℤ) → Le pairs (record { first = pos a; second = x }) (record { first = pos b; second = y }) → (a ≤ b) × (b ≡ a → Le whole x y)
pair_parts a b x y h = at (pair_leb (record { first = pos a; second = x }) (record { first = pos b; second = y })) h (ways a b (le_z x y))
  where
    at : (t : Bool) → T t → Ways a b (le_z x y) t → (a ≤ b) × (b ≡ a → Le whole x y)
    at t h (inl (l, e)) = (omega arith, λ d. absurd (omega arith))
    at t h (inr (inl (l, e))) = (omega arith, λ d. subst T e h)
    at t h (inr (inr (l, e))) = absurd (subst T e h)

parts_pair : (a b : ℕ) (x y : ℤ) → a ≤ b → (b ≡ a → Le whole x y) → Le pairs (record { first = pos a; second = x }) (record { first = pos b; second = y })
parts_pair a b x y k h = at (pair_leb (record { first = pos a; second = x }) (record { first = pos b; second = y })) (ways a b (le_z x y))
  where
    at : (t : Bool) → Ways a b (le_z x y) t → T t
    at t (inl (l, e)) = subst T (sym e) tt
    at t (inr (inl (l, e))) = subst T (sym e) (h (sym l))
    at t (inr (inr (l, e))) = absurd (omega arith)

module _ (G : Graph ℤ) where
  pub plainly_price : (W : List Weighted) → price pairs (plainly G) W ≡ plain (price whole G W)
  plainly_price W = price_carried whole pairs plain plain_carries G W

  pub plainly_lowest : (W : List Weighted) → IsLowest pairs (plainly G) W ↔ IsLowest whole G W
  plainly_lowest W = lowest_carried whole pairs plain plain_carries G W

  pub plainly_lowest_price : (x : ℤ) → LowestPrice pairs (plainly G) (plain x) ↔ LowestPrice whole G x
  plainly_lowest_price x = (
    λ h. (h.0, (plainly_lowest h.0).0 h.1, ap (λ (p : Pair). p.second) (sym (plainly_price h.0) ∙ h.2)),
    λ h. (h.0, (plainly_lowest h.0).1 h.1, plainly_price h.0 ∙ ap plain h.2),
  )

  pub plainly_bound : (m : Marks ℤ) → bound pairs (plainly G) (repriced_marks plain m) ≡ plain (bound whole G m)
  plainly_bound m = bound_carried whole pairs plain plain_carries G m

  pub plainly_slacks : (m : Marks ℤ) → SlacksHold pairs (plainly G) (repriced_marks plain m) ↔ SlacksHold whole G m
  plainly_slacks m = slacks_carried whole pairs plain plain_carries G m

  pub plainly_costs_hold : CostsHold whole G → CostsHold pairs (plainly G)
  plainly_costs_hold h =
      record { opening_holds = h.opening_holds; costs_hold = all_map (λ a. Le pairs pairs.nil a.cost) (repriced_arc plain) G.arcs h.costs_hold }

  -- ---- fewest first

  pub fewest_costs_hold : CostsHold whole G → CostsHold pairs (fewest_first G)
  fewest_costs_hold h =
      record { opening_holds = tt; costs_hold = all_map (λ a. Le pairs pairs.nil a.cost) (repriced_arc plain) G.arcs h.costs_hold }

  -- "a copy costs one in the first part", so the first part of a cover's price is its number of copies, and the second its arc cost
  pub fewest_price : (W : List Weighted) → price pairs (fewest_first G) W ≡ record { first = pos (total_weight W); second = total_arc_cost G W }
  fewest_price [] = refl
  fewest_price (w ∷ W) =
      ap₂ pairs.add
      (ap (times pairs w.weight)
      (ap (pairs.add (record { first = pos 1; second = pos 0 })) (costs_carried whole pairs plain plain_carries G.arcs w.path) ∙
      ap (λ (x : ℤ). record { first = pos 1; second = x }) (Algebra.nil_add whole whole_ordered (arc_costs whole G.arcs w.path))) ∙
      times_copy w.weight (arc_costs whole G.arcs w.path))
      (fewest_price W)

  -- document 02: "covers compared by total copies, then by total arc cost": lowest by pairs means that no cover has fewer copies, and none with as many a lower
  -- arc cost
  pub fewest_lowest : (W : List Weighted) → IsLowest pairs (fewest_first G) W ↔ FewestThenCheapest G W
  fewest_lowest W = (
    λ l. record {
      cover = (same_cover W).0 l.cover;
      fewest = λ U u. (below l U u).0;
      cheapest = λ U u. (below l U u).1;
    },
    λ b. record {
      cover = (same_cover W).1 b.cover;
      lowest = λ U u. above b U ((same_cover U).0 u);
    },
  )
    where
      same_cover : (U : List Weighted) → IsCover (fewest_first G) U ↔ IsCover G U
      same_cover U = repriced_cover plain (record { first = pos 1; second = pos 0 }) G U

      same : (U : List Weighted) →
          pair_leb (price pairs (fewest_first G) W) (price pairs (fewest_first G) U) ≡
          pair_leb (record { first = pos (total_weight W); second = total_arc_cost G W }) (record { first = pos (total_weight U); second = total_arc_cost G U })
      same U = ap₂ pair_leb (fewest_price W) (fewest_price U)

      below : IsLowest pairs (fewest_first G) W → (U : List Weighted) → IsCover G U →
          (total_weight W ≤ total_weight U) × (total_weight U ≡ total_weight W → Le whole (total_arc_cost G W) (total_arc_cost G U))
      below l U u =
          pair_parts (total_weight W) (total_weight U) (total_arc_cost G W) (total_arc_cost G U) (subst T (same U) (l.lowest U ((same_cover U).1 u)))

      above : FewestThenCheapest G W → (U : List Weighted) → IsCover G U → Le pairs (price pairs (fewest_first G) W) (price pairs (fewest_first G) U)
      above b U u =
          subst T (sym (same U)) (parts_pair (total_weight W) (total_weight U) (total_arc_cost G W) (total_arc_cost G U) (b.fewest U u) (b.cheapest U u))

-- ---- #113 for both kinds: what asks more in plain numbers asks more by pairs

raised_carried : (xs ys : List (Arc ℤ)) → Each (ArcRaised whole) xs ys → Each (ArcRaised pairs) (map (repriced_arc plain) xs) (map (repriced_arc plain) ys)
raised_carried [] [] h = tt
raised_carried [] (y ∷ ys) h = absurd h
raised_carried (x ∷ xs) [] h = absurd h
raised_carried (x ∷ xs) (y ∷ ys) h = (
  record {
    tail_kept = h.0.tail_kept;
    head_kept = h.0.head_kept;
    cost_raised = h.0.cost_raised;
    demand_raised = h.0.demand_raised;
  },
  raised_carried xs ys h.1,
)

module _ (G H : Graph ℤ) (more : AsksMore whole G H) where
  -- graph versions 1 to 4,
  pub plainly_asks_more : AsksMore pairs (plainly G) (plainly H)
  plainly_asks_more =
      record {
        opening_no_less = more.opening_no_less;
        vertices_raised = more.vertices_raised;
        arcs_raised = raised_carried G.arcs H.arcs more.arcs_raised;
        reads_kept = more.reads_kept;
      }

  -- and version 5, where the opening price is not used
  pub fewest_asks_more : AsksMore pairs (fewest_first G) (fewest_first H)
  fewest_asks_more =
      record {
        opening_no_less = tt;
        vertices_raised = more.vertices_raised;
        arcs_raised = raised_carried G.arcs H.arcs more.arcs_raised;
        reads_kept = more.reads_kept;
      }
