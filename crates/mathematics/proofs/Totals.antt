-- Prices and the bound as sums over the asks. What the paths of a list cost, or the slacks along them, is found from the totals of the items alone;
-- so is the bound, from the rests and the numbers of reads.
use Prim.Native.Nat.{ℕ, suc, ◌+◌, ◌*◌, ◌≤◌}
use mathlib.Core.Path.{◌≡◌, refl, sym, ap, ap₂, ◌∙◌}
use mathlib.Core.List.{List, [], ◌∷◌, map}
use lib.Dec.{T}
use lib.ListN.{length}
use Rattle.mathematics.specs.Price.{Prices, times, Ordered, sum_by}
use Rattle.mathematics.specs.Lists.{All}
use Rattle.mathematics.specs.Graph.{Vertex, Arc, Graph, is_path, linked, WellFormed}
use Rattle.mathematics.specs.Cover.{Item, vert, arc, trail, count_of, Ask, vertex_asks, arc_ask, asks, Weighted, total, total_weight, cost_of, arc_costs, copy_price, price}
use Rattle.mathematics.specs.Bound.{reads_through, rest, Marks, arc_slack, vertex_terms, arc_terms, read_terms, bound_with, item_slack, slacks_along, slacks_at_ends}
use Rattle.mathematics.proofs.Basics.{all_from, all_weaken}
use Rattle.mathematics.proofs.Algebra
use Rattle.mathematics.proofs.Items.{Known, known_path, known_read, sum_by_count}
use Rattle.mathematics.proofs.Telescope.{path_price_telescopes, read_term_telescopes, arc_slack_own}

-- an ask's rest and the reads through its item: its demand, or the reads where those are more
abbrev pub owed : List (List ℕ) → Ask → ℕ
owed rs a = rest rs a.item a.demand + reads_through a.item rs

-- f of each asking item, as often as c says
abbrev pub counted_sum : (P : Prices) {E : Type 0} → (Item → P.El) → Graph E → (Ask → ℕ) → P.El
counted_sum P f G c = sum_by P (λ a. times P (c a) (f a.item)) (asks G)

module _ (P : Prices) (L : Ordered P) (f : Item → P.El) {E : Type 0} (G : Graph E) where
  pub counted_add : (c d : Ask → ℕ) → P.add (counted_sum P f G c) (counted_sum P f G d) ≡ counted_sum P f G (λ a. c a + d a)
  counted_add c d =
      sym (Algebra.sum_add P L (λ a. times P (c a) (f a.item)) (λ a. times P (d a) (f a.item)) (asks G)) ∙
      Algebra.sum_equal P L _ _ (asks G) (all_from _ (asks G) (λ a m. sym (Algebra.times_sum P L (c a) (d a) (f a.item))))

  counted_times : (k : ℕ) (c : Ask → ℕ) → times P k (counted_sum P f G c) ≡ counted_sum P f G (λ a. k * c a)
  counted_times k c =
      sym (Algebra.sum_times P L k (λ a. times P (c a) (f a.item)) (asks G)) ∙
      Algebra.sum_equal P L _ _ (asks G) (all_from _ (asks G) (λ a m. Algebra.times_times P L k (c a) (f a.item)))

  counted_same : (c d : Ask → ℕ) → ((a : Ask) → c a ≡ d a) → counted_sum P f G c ≡ counted_sum P f G d
  counted_same c d h = Algebra.sum_equal P L _ _ (asks G) (all_from _ (asks G) (λ a m. ap (λ k. times P k (f a.item)) (h a)))

  -- Σ over weighted paths of weight · (f along the path), by the totals
  along_paths : WellFormed G → (W : List Weighted) → All (λ w. All (Known G) (trail w.path)) W →
      sum_by P (λ w. times P w.weight (sum_by P f (trail w.path))) W ≡ counted_sum P f G (λ a. total a.item W)
  along_paths g [] h = sym (Algebra.sum_nil P L (asks G))
  along_paths g (w ∷ W) h =
      ap₂ P.add
      (ap (times P w.weight) (sum_by_count P L f G g (trail w.path) h.0) ∙ counted_times w.weight (λ a. count_of a.item (trail w.path)))
      (along_paths g W h.1) ∙
      counted_add (λ a. w.weight * count_of a.item (trail w.path)) (λ a. total a.item W)

  -- Σ over reads of (f along the read), by the numbers of reads
  along_reads : WellFormed G → (rs : List (List ℕ)) → All (λ r. All (Known G) (trail r)) rs →
      sum_by P (λ r. sum_by P f (trail r)) rs ≡ counted_sum P f G (λ a. reads_through a.item rs)
  along_reads g [] h = sym (Algebra.sum_nil P L (asks G))
  along_reads g (r ∷ rs) h =
      ap₂ P.add (sum_by_count P L f G g (trail r) h.0) (along_reads g rs h.1) ∙
      counted_add (λ a. count_of a.item (trail r)) (λ a. reads_through a.item rs)

-- what an item adds to a copy's price: a vertex nothing, an arc its cost
abbrev pub item_cost : (P : Prices) → Graph P.El → Item → P.El
item_cost P G (vert v) = P.nil
item_cost P G (arc u v) = cost_of P G.arcs u v

all_known : {E : Type 0} (G : Graph E) → WellFormed G → (W : List Weighted) → All (λ w. T (is_path G w.path)) W → All (λ w. All (Known G) (trail w.path)) W
all_known G g W h = all_weaken _ _ W (λ w t. known_path G g.rises w.path t) h

module _ (P : Prices) (L : Ordered P) (G : Graph P.El) where
  costs_along : (p : List ℕ) → arc_costs P G.arcs p ≡ sum_by P (item_cost P G) (trail p)
  costs_along [] = refl
  costs_along (v ∷ []) = sym (L.add_nil P.nil)
  costs_along (u ∷ v ∷ p) = ap (P.add (cost_of P G.arcs u v)) (costs_along (v ∷ p)) ∙ sym (Algebra.nil_add P L _)

  price_split : (W : List Weighted) →
      price P G W ≡ P.add (times P (total_weight W) G.opening) (sum_by P (λ w. times P w.weight (sum_by P (item_cost P G) (trail w.path))) W)
  price_split [] = sym (L.add_nil P.nil)
  price_split (w ∷ W) =
      ap₂ P.add
      (ap (λ x. times P w.weight (P.add G.opening x)) (costs_along w.path) ∙
      Algebra.times_add P L w.weight G.opening (sum_by P (item_cost P G) (trail w.path)))
      (price_split W) ∙
      (Algebra.swap_middle P L _ _ _ _ ∙ ap (λ x. P.add x (sum_by P (λ v. times P v.weight (sum_by P (item_cost P G) (trail v.path))) (w ∷ W)))
      (sym (Algebra.times_sum P L w.weight (total_weight W) G.opening)))

  -- the price, from the number of copies and the totals of the items
  pub price_from_totals : WellFormed G → (W : List Weighted) → All (λ w. T (is_path G w.path)) W →
      price P G W ≡ P.add (times P (total_weight W) G.opening) (counted_sum P (item_cost P G) G (λ a. total a.item W))
  price_from_totals g W h = price_split W ∙ ap (P.add (times P (total_weight W) G.opening)) (along_paths P L (item_cost P G) G g W (all_known G g W h))

  -- equal totals and equally many copies have equal price
  pub equal_totals_equal_price : WellFormed G → (U W : List Weighted) → All (λ w. T (is_path G w.path)) U → All (λ w. T (is_path G w.path)) W →
      ((i : Item) → total i U ≡ total i W) → total_weight U ≡ total_weight W → price P G U ≡ price P G W
  equal_totals_equal_price g U W h_u h_w same copies =
      price_from_totals g U h_u ∙
      (ap₂ P.add (ap (λ k. times P k G.opening) copies)
      (counted_same P L (item_cost P G) G (λ a. total a.item U) (λ a. total a.item W) (λ a. same a.item)) ∙
      sym (price_from_totals g W h_w))

  module _ (m : Marks P.El) where
    copy_price_lem : (p : List ℕ) → T (is_path G p) → copy_price P G p ≡ P.add (slacks_at_ends P G m p) (slacks_along P G m p)
    copy_price_lem [] t = absurd t
    copy_price_lem (v ∷ p) t = path_price_telescopes P L G m v p

    slacks_split : (W : List Weighted) → All (λ w. T (is_path G w.path)) W →
        price P G W ≡ P.add (sum_by P (λ w. times P w.weight (slacks_at_ends P G m w.path)) W)
        (sum_by P (λ w. times P w.weight (slacks_along P G m w.path)) W)
    slacks_split [] h = sym (L.add_nil P.nil)
    slacks_split (w ∷ W) h =
        ap₂ P.add
        (ap (times P w.weight) (copy_price_lem w.path h.0) ∙
        Algebra.times_add P L w.weight (slacks_at_ends P G m w.path) (slacks_along P G m w.path))
        (slacks_split W h.1) ∙
        Algebra.swap_middle P L _ _ _ _

    -- the price of a list of weighted paths, exactly, whatever the marks: slacks at the ends of the copies, and of each item its total times its slack
    pub price_from_slacks : WellFormed G → (W : List Weighted) → All (λ w. T (is_path G w.path)) W →
        price P G W ≡ P.add (sum_by P (λ w. times P w.weight (slacks_at_ends P G m w.path)) W) (counted_sum P (item_slack P G m) G (λ a. total a.item W))
    price_from_slacks g W h =
        slacks_split W h ∙ ap (P.add (sum_by P (λ w. times P w.weight (slacks_at_ends P G m w.path)) W))
        (along_paths P L (item_slack P G m) G g W (all_known G g W h))

    vertex_terms_sum : (rs : List (List ℕ)) (k : ℕ) (xs : List Vertex) →
        vertex_terms P rs m k xs ≡ sum_by P (λ a. times P (rest rs a.item a.demand) (item_slack P G m a.item)) (vertex_asks k xs)
    vertex_terms_sum rs k [] = refl
    vertex_terms_sum rs k (x ∷ xs) = ap (P.add _) (vertex_terms_sum rs (suc k) xs)

    arc_terms_sum : (rs : List (List ℕ)) (arcs : List (Arc P.El)) → All (λ a. item_slack P G m (arc a.tail a.head) ≡ arc_slack P m a) arcs →
        arc_terms P rs m arcs ≡ sum_by P (λ a. times P (rest rs a.item a.demand) (item_slack P G m a.item)) (map arc_ask arcs)
    arc_terms_sum rs [] h = refl
    arc_terms_sum rs (a ∷ arcs) h =
        ap₂ P.add (ap (times P (rest rs (arc a.tail a.head) a.demand)) (sym h.0)) (arc_terms_sum rs arcs h.1)

    read_terms_sum : (rs : List (List ℕ)) → read_terms P G m rs ≡ sum_by P (λ r. sum_by P (item_slack P G m) (trail r)) rs
    read_terms_sum [] = refl
    read_terms_sum (r ∷ rs) = ap₂ P.add (read_term_telescopes P L G m r) (read_terms_sum rs)

    -- the bound, of each item its rest and its reads times its slack
    pub bound_from_slacks : WellFormed G → (rs : List (List ℕ)) → All (λ r. (2 ≤ length r) × T (linked G.arcs r)) rs →
        bound_with P rs G m ≡ counted_sum P (item_slack P G m) G (λ a. owed rs a)
    bound_from_slacks g rs h =
        sym (L.add_assoc (vertex_terms P rs m 0 G.vertices) (arc_terms P rs m G.arcs) (read_terms P G m rs)) ∙
        (ap₂ P.add
        (ap₂ P.add (vertex_terms_sum rs 0 G.vertices) (arc_terms_sum rs G.arcs (all_from _ G.arcs (arc_slack_own P L G m g))) ∙
        sym (Algebra.sum_append P L (λ a. times P (rest rs a.item a.demand) (item_slack P G m a.item)) (vertex_asks 0 G.vertices)
        (map arc_ask G.arcs)))
        (read_terms_sum rs ∙ along_reads P L (item_slack P G m) G g rs (all_weaken _ _ rs (λ r k. known_read G g.rises r k.0 k.1) h)) ∙
        counted_add P L (item_slack P G m) G (λ a. rest rs a.item a.demand) (λ a. reads_through a.item rs))
