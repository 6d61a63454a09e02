-- A cover is a set: its paths put into ascending order are the same weighted paths, a cover of the same graph at the same price.
use Rattle.std.proofs.Common.{ℕ, ◌+◌, ◌*◌, ◌≤◌, arith, ◌≡◌, refl, sym, ap, ap₂, subst, ◌∙◌, List, [], ◌∷◌, Bool, true, false, cond, ◌⊎◌, inl, inr, ◌≢◌, ◌↔◌, T, ltb, ltb→lt, nltb→le, length}
use lib.Dec.{not_T}
use Rattle.mathematics.specs.Price.{Prices, Le, Ordered}
use Rattle.mathematics.specs.Lists.{All, Distinct, some_holds}
use Rattle.mathematics.specs.Graph.{Graph, WellFormed, is_path}
use Rattle.mathematics.specs.Cover.{Item, Ask, Weighted, through, asks, total, total_weight, paths, price, IsCover, IsLowest}
use Rattle.mathematics.specs.Range.{OneOf}
use Rattle.mathematics.proofs.Basics.{test, all_among, all_from, all_weaken, all_map, all_unmap, among_map}
use Rattle.mathematics.proofs.Merge.{some_holds_lem}
use Rattle.mathematics.proofs.Existence.{held_by_some}
use Rattle.mathematics.proofs.Totals.{equal_totals_equal_price}
use Rattle.forms.specs.AnswerFaults.{list_before}
use Rattle.checker.specs.Encode.{insert_path, sorted}
use Rattle.checker.specs.Acceptable.{Ascending}
use Rattle.checker.proofs.Ascending.{before_less, before_same, ascending_distinct}

-- of two lists that differ one comes before the other
before_other : (p q : List ℕ) → p ≢ q → (T (list_before p q) → ⊥) → T (list_before q p)
before_other [] [] d f = absurd (d refl)
before_other [] (y ∷ q) d f = absurd (f tt)
before_other (x ∷ p) [] d f = tt
before_other (x ∷ p) (y ∷ q) d f = at (test (ltb y x)) (test (ltb x y)) (before_other p q)
  where
    at : T (ltb y x) ⊎ (T (ltb y x) → ⊥) → T (ltb x y) ⊎ (T (ltb x y) → ⊥) →
        (p ≢ q → (T (list_before p q) → ⊥) → T (list_before q p)) → T (list_before (y ∷ q) (x ∷ p))
    at (inl l) c rest = before_less y x q p (ltb→lt y x l)
    at (inr n) (inl l) rest = absurd (f (before_less x y p q (ltb→lt x y l)))
    at (inr n) (inr k) rest =
        let same : x ≡ y = omega (arith, nltb→le y x (not_T (ltb y x) n), nltb→le x y (not_T (ltb x y) k)) in
        before_same y x q p (sym same) (rest (λ e. d (ap₂ {C = List ℕ} (λ a l. a ∷ l) same e)) (λ t. f (before_same x y p q same t)))

-- the weighted path w stands between those that come before it and those that come after
insert_ascends : (before : List ℕ) (w : Weighted) (W : List Weighted) → T (list_before before w.path) → All (λ q. w.path ≢ q) (paths W) →
    Ascending before (paths W) → Ascending before (paths (insert_path w W))
insert_ascends before w [] l d h = (l, tt)
insert_ascends before w (x ∷ W) l d h = at (list_before w.path x.path) refl (insert_ascends x.path w W)
  where
    at : (b : Bool) → list_before w.path x.path ≡ b →
        (T (list_before x.path w.path) → All (λ q. w.path ≢ q) (paths W) → Ascending x.path (paths W) → Ascending x.path (paths (insert_path w W))) →
        Ascending before (paths (cond b (w ∷ x ∷ W) (x ∷ insert_path w W)))
    at true e rest = (l, (subst T (sym e) tt, h.1))
    at false e rest = (h.0, rest (before_other w.path x.path d.0 (λ t. subst T e t)) d.1 h.1)

-- whoever is in the list with w put in is w or was in it
insert_among : (w : Weighted) (W : List Weighted) (y : Weighted) → OneOf (insert_path w W) y ↔ OneOf (w ∷ W) y
insert_among w [] y = (λ m. m, λ m. m)
insert_among w (x ∷ W) y = at (list_before w.path x.path) (insert_among w W y)
  where
    at : (b : Bool) → OneOf (insert_path w W) y ↔ OneOf (w ∷ W) y → OneOf (cond b (w ∷ x ∷ W) (x ∷ insert_path w W)) y ↔ OneOf (w ∷ x ∷ W) y
    at true rest = (λ m. m, λ m. m)
    at false rest = (
      λ m. elim m [ inl e ↦ inr (inl e) | inr k ↦ elim (rest.0 k) [ inl e ↦ inl e | inr n ↦ inr (inr n) ] ],
      λ m. elim m [ inl e ↦ inr (rest.1 (inl e)) | inr k ↦ elim k [ inl e ↦ inl e | inr n ↦ inr (rest.1 (inr n)) ] ],
    )

-- the same weighted paths
pub sorted_among : (W : List Weighted) (y : Weighted) → OneOf (sorted W) y ↔ OneOf W y
sorted_among [] y = (λ m. m, λ m. m)
sorted_among (w ∷ W) y =
    let rest = sorted_among W y in
    let put = insert_among w (sorted W) y in (
      λ m. elim (put.0 m) [ inl e ↦ inl e | inr n ↦ inr (rest.0 n) ],
      λ m. put.1 (elim m [ inl e ↦ inl e | inr n ↦ inr (rest.1 n) ]),
    )

sorted_all : (Q : Weighted → Type 0) (W : List Weighted) → All Q W → All Q (sorted W)
sorted_all Q W h = all_from Q (sorted W) (λ y m. all_among Q W y h ((sorted_among W y).0 m))

-- a number that each weighted path adds to: its sum does not depend on the order
module _ (f : Weighted → ℕ) where
  abbrev sum : List Weighted → ℕ
  sum [] = 0
  sum (w ∷ W) = f w + sum W

  insert_sum : (w : Weighted) (W : List Weighted) → sum (insert_path w W) ≡ f w + sum W
  insert_sum w [] = refl
  insert_sum w (x ∷ W) = at (list_before w.path x.path) (insert_sum w W)
    where
      at : (b : Bool) → sum (insert_path w W) ≡ f w + sum W → sum (cond b (w ∷ x ∷ W) (x ∷ insert_path w W)) ≡ f w + (f x + sum W)
      at true e = refl
      at false e = omega arith

  sorted_sum : (W : List Weighted) → sum (sorted W) ≡ sum W
  sorted_sum [] = refl
  sorted_sum (w ∷ W) = insert_sum w (sorted W) ∙ ap (λ k. f w + k) (sorted_sum W)

count_sum : (W : List Weighted) → length W ≡ sum (λ w. 1) W
count_sum [] = refl
count_sum (w ∷ W) = let e = count_sum W in omega arith

weight_sum : (W : List Weighted) → total_weight W ≡ sum (λ w. w.weight) W
weight_sum [] = refl
weight_sum (w ∷ W) = ap (λ k. w.weight + k) (weight_sum W)

total_sum : (i : Item) (W : List Weighted) → total i W ≡ sum (λ w. w.weight * through i w.path) W
total_sum i [] = refl
total_sum i (w ∷ W) = ap (λ k. w.weight * through i w.path + k) (total_sum i W)

-- as many paths, as many copies, and as many through each item
pub sorted_length : (W : List Weighted) → length (sorted W) ≡ length W
sorted_length W = count_sum (sorted W) ∙ (sorted_sum (λ w. 1) W ∙ sym (count_sum W))

pub sorted_weight : (W : List Weighted) → total_weight (sorted W) ≡ total_weight W
sorted_weight W = weight_sum (sorted W) ∙ (sorted_sum (λ w. w.weight) W ∙ sym (weight_sum W))

sorted_total : (i : Item) (W : List Weighted) → total i (sorted W) ≡ total i W
sorted_total i W = total_sum i (sorted W) ∙ (sorted_sum (λ w. w.weight * through i w.path) W ∙ sym (total_sum i W))

module _ {E : Type 0} (G : Graph E) where
  -- the empty list comes before every path
  path_after_nothing : (p : List ℕ) → T (is_path G p) → T (list_before [] p)
  path_after_nothing [] t = t
  path_after_nothing (v ∷ p) t = tt

  -- distinct paths, put in order, ascend
  pub sorted_ascends : (W : List Weighted) → All (λ w. T (is_path G w.path)) W → Distinct (paths W) → Ascending [] (paths (sorted W))
  sorted_ascends [] h d = tt
  sorted_ascends (w ∷ W) h d =
      insert_ascends [] w (sorted W) (path_after_nothing w.path h.0)
      (all_map (λ q. w.path ≢ q) (λ (x : Weighted). x.path) (sorted W)
      (sorted_all (λ x. w.path ≢ x.path) W (all_unmap (λ q. w.path ≢ q) (λ (x : Weighted). x.path) W d.0)))
      (sorted_ascends W h.1 d.1)

  sorted_holds : (W : List Weighted) (r : List ℕ) → T (some_holds (paths W) r) → T (some_holds (paths (sorted W)) r)
  sorted_holds W r t =
      let h = held_by_some r W t in
      some_holds_lem h.0.path (paths (sorted W)) r (among_map (λ (x : Weighted). x.path) h.0 (sorted W) ((sorted_among W h.0).1 h.1)) h.2

  -- a cover put in order is a cover
  pub sorted_cover : (W : List Weighted) → IsCover G W → IsCover G (sorted W)
  sorted_cover W c =
      record {
        are_paths = sorted_all (λ w. T (is_path G w.path)) W c.are_paths;
        weights = sorted_all (λ w. 1 ≤ w.weight) W c.weights;
        distinct = ascending_distinct [] (paths (sorted W)) (sorted_ascends W c.are_paths c.distinct);
        demands_met = all_weaken (λ a. a.demand ≤ total a.item W) (λ a. a.demand ≤ total a.item (sorted W)) (asks G)
            (λ (a : Ask) l. subst (λ k. a.demand ≤ k) (sym (sorted_total a.item W)) l) c.demands_met;
        reads_met = all_weaken (λ r. T (some_holds (paths W) r)) (λ r. T (some_holds (paths (sorted W)) r)) G.reads (λ r t. sorted_holds W r t) c.reads_met;
      }

module _ (P : Prices) (L : Ordered P) (G : Graph P.El) (g : WellFormed G) where
  pub sorted_price : (W : List Weighted) → IsCover G W → price P G (sorted W) ≡ price P G W
  sorted_price W c =
      equal_totals_equal_price P L G g (sorted W) W (sorted_cover G W c).are_paths c.are_paths (λ i. sorted_total i W) (sorted_weight W)

  -- and where it was of lowest price it still is
  pub sorted_lowest : (W : List Weighted) → IsLowest P G W → IsLowest P G (sorted W)
  sorted_lowest W h =
      record {
        cover = sorted_cover G W h.cover;
        lowest = λ U u. subst (λ x. Le P x (price P G U)) (sym (sorted_price W h.cover)) (h.lowest U u);
      }
