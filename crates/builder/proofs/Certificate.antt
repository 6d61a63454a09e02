-- The certificate of a build: where marks and loads are settled and the paths W carry the loads, W is a cover at the price of the loads, the final marks are in
-- range and show it, and so the answer form of both is accepted by the checker.
use Prim.Native.Nat.{ℕ, zero, suc, ◌+◌, ◌*◌, ◌-◌, ◌≤◌, ◌<◌}
use native.Mathlib.Omega.{arith}
use native.Mathlib.Nat.{zero-mul, suc-mul}
use mathlib.Core.Path.{◌≡◌, refl, sym, ap, ap₂, subst, ◌∙◌}
use mathlib.Core.List.{List, [], ◌∷◌, map}
use mathlib.Core.Bool.{Bool, true, false, cond}
use mathlib.Core.Logic.{◌⊎◌, inl, inr}
use borrow.Author.Tests.{lt-ltb, le-ltb}
use lib.Dec.{T, le→leb}
use lib.IntN.{ℤ, pos, sub_ℕ, ◌+ℤ◌, +ℤ_idl}
use lib.ListN.{length, get_or}
use Rattle.mathematics.specs.Price.{whole, Le, sub, times}
use Rattle.mathematics.specs.Lists.{All, last_of, some_holds}
use Rattle.mathematics.specs.Graph.{Graph, is_start, is_end, is_path, has_arc, WellFormed}
use Rattle.mathematics.specs.Cover.{vert, Ask, vertex_asks, arc_ask, asks, Weighted, total, total_weight, paths, cost_of, IsCover, price}
use Rattle.mathematics.specs.Bound.{Marks, reads_through, SlacksHold, bound}
use Rattle.mathematics.specs.Reach.{from_start, useful}
use Rattle.mathematics.proofs.Basics.{and_l, and_r, and_in, all_weaken}
use Rattle.mathematics.proofs.Algebra.{sum_by, le_of_sub, times_nil, sum_append, sum_equal, sum_nil}
use Rattle.mathematics.proofs.PriceKinds.{whole_ordered}
use Rattle.mathematics.proofs.Reach.{start_below, end_below, path_start, path_end_lem}
use Rattle.mathematics.proofs.Items.{cost_own, joins_own}
use Rattle.mathematics.proofs.Prepared.{prepared_linked, prepared_fewer, prepared_cover_is_cover}
use Rattle.mathematics.proofs.WithReads.{with_reads, path_with_reads}
use Rattle.mathematics.proofs.Telescope.{item_slack}
use Rattle.mathematics.proofs.Totals.{owed, item_cost, price_from_totals}
use Rattle.mathematics.proofs.LowerBound.{EndsMeet, bound_met}
use Rattle.mathematics.proofs.Lowest.{Shows}
use Rattle.mathematics.proofs.Network.{slack}
use Rattle.mathematics.proofs.Links.{Link, opening, closing, inside, across, in_node, out_node, link_from, link_to, AtEnds}
use Rattle.mathematics.proofs.Wired.{Node, node_cases, link_cost, edge_of}
use Rattle.mathematics.proofs.Marked.{marks_of, side_among, Spread, open_slack, close_slack, inside_slack, across_slack, slacks_hold}
use Rattle.forms.specs.Layout.{max_paths, max_weight}
use Rattle.forms.specs.Bytes.{tabulate}
use Rattle.forms.specs.GraphForm.{vertex_count, arc_count, opening_price, arc_at, arc_tail, arc_head, arc_cost, vertex_demand, arc_demand}
use Rattle.forms.specs.GraphOf.{vertex_of, arc_of, graph_of, arc_item}
use Rattle.forms.specs.GraphReads.{Reads}
use Rattle.forms.specs.GraphFaults.{nothing_refused, graph_verdict}
use Rattle.forms.specs.AnswerFaults.{list_before}
use Rattle.checker.specs.Check.{check_verdict}
use Rattle.checker.specs.Encode.{encode_answer}
use Rattle.forms.proofs.LayoutLaws.{path_limit_lem}
use Rattle.forms.proofs.GraphFacts.{graph_well_formed, graph_costs_hold, graph_within}
use Rattle.checker.proofs.GraphReads.{number_zero_iff_reads}
use Rattle.forms.proofs.ArcNumbers.{arc_among, arc_number_lem}
use Rattle.forms.proofs.GraphRange.{vertices_length}
use Rattle.checker.specs.Accepted.{InRange}
use Rattle.checker.specs.Acceptable.{Ascending, MarksFit}
use Rattle.checker.proofs.Ascending.{ascending_distinct}
use Rattle.checker.proofs.Completeness.{shown_form_accepted}
use Rattle.certify.proofs.CertifyLawsSlack.{low_difference, held_difference, held_sum_less_held, not_below}
use Rattle.network.specs.Network.{nth, sum_to, base, span, highest}
use Rattle.paths.specs.Slots.{prepared_of, plain_slots, all_slots, inside_slot, across_slot, opening_slot, closing_slot, link_at, in_use, edge_cost, copies_of}
use Rattle.paths.specs.Peel.{Ascend, Peeled}
use Rattle.builder.specs.Finish.{Settled, arc_worth, price_from, held_mark, final_marks}
use Rattle.network.proofs.NetworkLaws.{sum_same}
use Rattle.paths.proofs.SlotKinds
use Rattle.wiring.proofs.SlotLaws

-- ---- numbers held with something added

difference_holds : (a b : ℕ) → b ≤ a → Le whole (pos 0) (sub_ℕ a b)
difference_holds a b h = subst T (sym (not_below a b)) (le→leb b a h)

-- the lesser number is the lesser price
held_order : (a b l : ℕ) → a ≤ b → Le whole (sub_ℕ a l) (sub_ℕ b l)
held_order a b l h =
    le_of_sub whole whole_ordered (sub_ℕ a l) (sub_ℕ b l)
    (subst (Le whole (pos 0)) (sym (held_difference b a l)) (difference_holds b a h))

no_difference : (a b : ℕ) → a ≡ b → sub_ℕ a b ≡ pos 0
no_difference a b e = low_difference a b (omega arith) ∙ ap pos (let z : a - b ≡ 0 = omega arith in z)

in_range : (x : ℕ) → x ≤ highest → base ≤ x + span → InRange (sub_ℕ x base)
in_range x h k = (held_order 0 x base (omega arith), held_order x (2 * base) base (omega arith))

-- k copies at c each
times_pos : (k c : ℕ) → times whole k (pos c) ≡ pos (k * c)
times_pos zero c = ap pos (let e : 0 ≡ 0 * c = omega (arith, zero-mul c) in e)
times_pos (suc k) c = ap (λ x. pos c +ℤ x) (times_pos k c) ∙ ap pos (let e : c + k * c ≡ suc k * c = omega (arith, suc-mul k c) in e)

-- a sum over what asks, to which vertices bring nothing and each arc what w says
arcs_sum : (s : List ℕ) (f : Ask → ℤ) (w : ℕ → ℕ) (k i : ℕ) → ((a : ℕ) → i ≤ a → a < i + k → f (arc_ask (arc_of s a)) ≡ pos (w a)) →
    sum_by whole f (map arc_ask (tabulate (arc_of s) k i)) ≡ pos (sum_to k (λ j. w (i + j)))
arcs_sum s f w zero i h = refl
arcs_sum s f w (suc k) i h =
    ap₂ ◌+ℤ◌ (h i (omega arith) (omega arith)) (arcs_sum s f w k (suc i) (λ a l b. h a (omega arith) (omega arith))) ∙
    ap pos (sym (SlotLaws.sum_front k (λ j. w (i + j)) ∙
    ap₂ (λ (x y : ℕ). x + y) (ap w (let e : i + 0 ≡ i = omega arith in e))
    (sum_same k (λ j. w (i + suc j)) (λ j. w (suc i + j)) (λ j l. ap w (let e : i + suc j ≡ suc i + j = omega arith in e)))))

asks_sum : (s : List ℕ) (f : Ask → ℤ) (w : ℕ → ℕ) → ((v : ℕ) → v < vertex_count s → f (record { item = vert v; demand = vertex_demand s v }) ≡ pos 0) →
    ((a : ℕ) → a < arc_count s → f (record { item = arc_item s a; demand = arc_demand s (arc_at s a) }) ≡ pos (w a)) →
    sum_by whole f (asks (graph_of s)) ≡ pos (sum_to (arc_count s) w)
unfolding graph_of
asks_sum s f w hv ha =
    sum_append whole whole_ordered f (vertex_asks 0 (tabulate (vertex_of s) (vertex_count s) 0)) (map arc_ask (tabulate (arc_of s) (arc_count s) 0)) ∙
    (ap₂ ◌+ℤ◌
    (sum_equal whole whole_ordered f (λ (a : Ask). pos 0) (vertex_asks 0 (tabulate (vertex_of s) (vertex_count s) 0))
    (SlotLaws.vertex_asks_lem s (λ a. f a ≡ pos 0) (vertex_count s) 0 (λ v l b. hv v (omega arith))) ∙
    sum_nil whole whole_ordered (vertex_asks 0 (tabulate (vertex_of s) (vertex_count s) 0)))
    (arcs_sum s f w (arc_count s) 0 (λ a l b. ha a (omega arith))) ∙
    (+ℤ_idl _ ∙ ap pos (sum_same (arc_count s) (λ j. w (0 + j)) w (λ j l. ap w (let e : 0 + j ≡ j = omega arith in e)))))

-- "464 (64+256+64+64+16)": an answer may have as many paths as the graph has edges
pub slots_few : (s : List ℕ) → Reads s → all_slots s ≤ max_paths s
slots_few s right =
    let h = right.arcs.header in
    omega (arith, h.few_vertices, h.few_arcs, prepared_fewer (graph_of s).reads, (graph_within s right).few_reads, path_limit_lem s)

module _ (s : List ℕ) (right : Reads s) (mark added full : List ℕ) (S : Settled s mark added full) where
  abbrev G : Graph ℤ
  G = graph_of s

  g : WellFormed (graph_of s)
  g = graph_well_formed s right

  -- the mark of a node as a price
  abbrev p : ℕ → ℤ
  p u = sub_ℕ (nth mark u) base

  abbrev low : ℤ
  low = sub_ℕ (base - span) base

  abbrev high : ℤ
  high = sub_ℕ highest base

  abbrev M : Marks ℤ
  M = marks_of (graph_of s) p low high

  -- ---- slacks of links

  link_cost_lem : (e : ℕ) → e < plain_slots s → T (in_use s (link_at s e)) → link_cost whole (graph_of s) (link_at s e) ≡ pos (edge_cost s e)
  unfolding graph_of
  link_cost_lem e h u = kind (SlotKinds.slot_kind s e h)
    where
      across_cost : (a : ℕ) → a < arc_count s → e ≡ across_slot s a → edge_cost s e ≡ arc_cost s (arc_at s a)
      across_cost a b q =
          let k : vertex_count s + arc_count s - (e + 1) ≡ a = omega arith in
          SlotLaws.used_cost s e u ∙ simp (le-ltb e (vertex_count s) (omega arith), lt-ltb e (vertex_count s + arc_count s) (omega arith), k)

      opening_cost : (v : ℕ) → v < vertex_count s → e ≡ opening_slot s v → (graph_of s).opening ≡ pos (edge_cost s e)
      opening_cost v b q =
          ap pos
          (sym
          (SlotLaws.used_cost s e u ∙
          simp (le-ltb e (vertex_count s) (omega arith), le-ltb e (vertex_count s + arc_count s) (omega arith), lt-ltb e (2 * vertex_count s + arc_count s) (omega arith))))

      closing_cost : (v : ℕ) → v < vertex_count s → e ≡ closing_slot s v → edge_cost s e ≡ 0
      closing_cost v b q =
          SlotLaws.used_cost s e u ∙
          simp (le-ltb e (vertex_count s) (omega arith), le-ltb e (vertex_count s + arc_count s) (omega arith), le-ltb e (2 * vertex_count s + arc_count s) (omega arith))

      kind : SlotKinds.SlotKind s e → link_cost whole (graph_of s) (link_at s e) ≡ pos (edge_cost s e)
      kind (SlotKinds.is_inside v b q l) = ap (link_cost whole (graph_of s)) l ∙ ap pos (sym (SlotLaws.used_cost s e u ∙ simp (lt-ltb e (vertex_count s) (omega arith))))
      kind (SlotKinds.is_across a b q l) =
          ap (link_cost whole (graph_of s)) l ∙
          (cost_own whole (graph_of s).arcs (arc_of s a) (arc_tail s (arc_at s a)) (arc_head s (arc_at s a)) g.once (arc_among s a b) (joins_own (arc_of s a)) ∙
          ap pos (sym (across_cost a b q)))
      kind (SlotKinds.is_opening v b q l) = ap (link_cost whole (graph_of s)) l ∙ opening_cost v b q
      kind (SlotKinds.is_closing v b q l) = ap (link_cost whole (graph_of s)) l ∙ ap pos (sym (closing_cost v b q))

  link_slack : (e : ℕ) → e < plain_slots s → T (in_use s (link_at s e)) →
      slack whole p (edge_of whole (graph_of s) (link_at s e)) ≡ sub_ℕ (edge_cost s e + nth mark (link_from (link_at s e))) (nth mark (link_to 0 (link_at s e)))
  link_slack e h u =
      ap (λ c. sub whole (c +ℤ p (link_from (link_at s e))) (p (link_to 0 (link_at s e)))) (link_cost_lem e h u) ∙
      held_sum_less_held (edge_cost s e) (nth mark (link_from (link_at s e))) (nth mark (link_to 0 (link_at s e))) base

  -- a link in use has no slack below 0
  edge_holds : (l : Link) (e : ℕ) → e < plain_slots s → link_at s e ≡ l → T (in_use s l) → Le whole (pos 0) (slack whole p (edge_of whole (graph_of s) l))
  edge_holds l e h q u =
      subst (λ k. T (in_use s k) → Le whole (pos 0) (slack whole p (edge_of whole (graph_of s) k))) q
      (λ w. subst (Le whole (pos 0)) (sym (link_slack e h w)) (difference_holds _ _ (S.slacks e h w))) u

  -- and none at all where it has an added load
  edge_tight : (l : Link) (e : ℕ) → e < plain_slots s → link_at s e ≡ l → 1 ≤ nth added e → slack whole p (edge_of whole (graph_of s) l) ≡ pos 0
  edge_tight l e h q k =
      subst (λ k. slack whole p (edge_of whole (graph_of s) k) ≡ pos 0) q
      (link_slack e h (S.added_in_use e h k) ∙ no_difference _ _ (sym (S.tight e h k)))

  added_used : (l : Link) (e : ℕ) → e < plain_slots s → link_at s e ≡ l → 1 ≤ nth added e → T (in_use s l)
  added_used l e h q k = subst (λ k. T (in_use s k)) q (S.added_in_use e h k)

  -- ---- the marks show no slack below 0

  vertex_below : (v : ℕ) → v < length (graph_of s).vertices → v < vertex_count s
  vertex_below v h = subst (λ k. v < k) (vertices_length s) h

  side_near : (u : ℕ) → Node (graph_of s) u → (nth mark u ≤ highest) × (base ≤ nth mark u + span)
  side_near u n = pick (node_cases (graph_of s) g u n)
    where
      pick : (u ≡ 0) ⊎ ((v : ℕ) × T (useful (graph_of s) v) × ((u ≡ in_node v) ⊎ (u ≡ out_node v))) → (nth mark u ≤ highest) × (base ≤ nth mark u + span)
      pick (inl z) = let e : nth mark u ≡ base = ap (nth mark) z ∙ S.at_root in (omega arith, omega arith)
      pick (inr (v, t, inl e)) = subst (λ x. (nth mark x ≤ highest) × (base ≤ nth mark x + span)) (sym e) (S.in_near v t)
      pick (inr (v, t, inr e)) = subst (λ x. (nth mark x ≤ highest) × (base ≤ nth mark x + span)) (sym e) (S.out_near v t)

  root_nil : p 0 ≡ pos 0
  root_nil = no_difference (nth mark 0) base S.at_root

  across_used : (u v : ℕ) → T (has_arc (graph_of s).arcs u v) → (a : ℕ) × (a < arc_count s) × (link_at s (across_slot s a) ≡ across u v)
  across_used u v t =
      let (a, b, tail, head) = arc_number_lem s u v t in (a, b, SlotKinds.at_across s a b ∙ ap₂ across tail head)

  low_below_opening : Le whole low (graph_of s).opening
  unfolding graph_of
  low_below_opening = tt

  spread : Spread whole whole_ordered (graph_of s) g p low high
  unfolding in_use
  spread =
      record {
        root_nil = root_nil;
        open_holds = λ v t u.
            let b = vertex_below v (start_below (graph_of s) v t) in
            edge_holds (opening v) (opening_slot s v) (omega arith) (SlotKinds.at_opening s v b) (and_in (is_start (graph_of s) v) (useful (graph_of s) v) t u);
        close_holds = λ v t u.
            let b = vertex_below v (end_below (graph_of s) v t) in
            edge_holds (closing v) (closing_slot s v) (omega arith) (SlotKinds.at_closing s v b) (and_in (is_end (graph_of s) v) (useful (graph_of s) v) t u);
        inside_holds = λ v u.
            let b = SlotLaws.useful_below s right v u in
            edge_holds (inside v) (inside_slot s v) (omega arith) (SlotKinds.at_inside s v b) u;
        across_holds = λ u v t x y.
            let (a, b, q) = across_used u v t in
            edge_holds (across u v) (across_slot s a) (omega arith) q (and_in (useful (graph_of s) u) (useful (graph_of s) v) x y);
        low_least = λ u n. held_order (base - span) (nth mark u) base (let h = side_near u n in omega arith);
        high_most = λ u n. held_order (nth mark u) highest base (side_near u n).0;
        low_below_opening = low_below_opening;
      }

  shown : SlacksHold whole (graph_of s) M
  shown = slacks_hold whole whole_ordered (graph_of s) g p low high spread (graph_costs_hold s)

  -- ---- the paths are a cover that meets the bound

  module _ (W : List Weighted) (taken : Peeled s full W) where
    ask_total : (a : Ask) (e : ℕ) → SlotLaws.OwnSlot s a e → total a.item W ≡ owed (prepared_of s) a + nth added e
    ask_total a e own =
        omega (
          arith,
          taken.totals a.item ∙ SlotLaws.item_worth s full S.reads a e own,
          S.plain e own.below,
          own.at_first,
        )

    -- an item's total is what it owes, or its slack is nothing
    abbrev Meets : Ask → Type 0
    Meets a = (total a.item W ≡ owed (prepared_of s) a) ⊎ (item_slack whole (graph_of s) M a.item ≡ pos 0)

    meets_at : (a : Ask) (e : ℕ) → SlotLaws.OwnSlot s a e → (1 ≤ nth added e → item_slack whole (graph_of s) M a.item ≡ pos 0) → Meets a
    meets_at a e own tight = pick (nth added e) refl
      where
        pick : (k : ℕ) → nth added e ≡ k → Meets a
        pick zero z = inl (omega (arith, ask_total a e own))
        pick (suc k) z = inr (tight (omega arith))

    meets : All Meets (asks (graph_of s))
    unfolding in_use
    meets =
        SlotLaws.all_asks s Meets
        (λ v h. meets_at _ (inside_slot s v) (SlotLaws.vertex_slot s v h)
        (λ k. sym (inside_slack whole whole_ordered (graph_of s) g p low high v (added_used (inside v) (inside_slot s v) (omega arith) (SlotKinds.at_inside s v h) k)) ∙
        edge_tight (inside v) (inside_slot s v) (omega arith) (SlotKinds.at_inside s v h) k))
        (λ a h. meets_at _ (across_slot s a) (SlotLaws.arc_slot s right.arcs a h)
        (λ k.
        let x = arc_tail s (arc_at s a) in
        let y = arc_head s (arc_at s a) in
        let used = added_used (across x y) (across_slot s a) (omega arith) (SlotKinds.at_across s a h) k in
        sym (across_slack whole whole_ordered (graph_of s) g p low high x y (and_l (useful (graph_of s) x) (useful (graph_of s) y) used)
        (and_r (useful (graph_of s) x) (useful (graph_of s) y) used)) ∙
        edge_tight (across x y) (across_slot s a) (omega arith) (SlotKinds.at_across s a h) k))

    ends_meet : (q : List ℕ) → AtEnds (λ v. 1 ≤ nth full (opening_slot s v)) (λ v. 1 ≤ nth full (closing_slot s v)) q → T (is_path (graph_of s) q) →
        EndsMeet whole (graph_of s) M q
    unfolding in_use
    ends_meet [] h t = tt
    ends_meet (v ∷ q) h t = (
      sym (open_slack whole whole_ordered (graph_of s) g p low high root_nil v
          (and_r (is_start (graph_of s) v) (useful (graph_of s) v) (added_used (opening v) e eb (SlotKinds.at_opening s v vb) opened))) ∙
          edge_tight (opening v) e eb (SlotKinds.at_opening s v vb) opened,
      sym (close_slack whole whole_ordered (graph_of s) g p low high root_nil w
          (and_r (is_end (graph_of s) w) (useful (graph_of s) w) (added_used (closing w) f fb (SlotKinds.at_closing s w wb) closed))) ∙
          edge_tight (closing w) f fb (SlotKinds.at_closing s w wb) closed,
    )
      where
        w : ℕ
        w = last_of v q

        vb : v < vertex_count s
        vb = vertex_below v (start_below (graph_of s) v (path_start (graph_of s) v q t))

        wb : w < vertex_count s
        wb = vertex_below w (end_below (graph_of s) w (path_end_lem (graph_of s) v q t))

        e : ℕ
        e = opening_slot s v

        f : ℕ
        f = closing_slot s w

        eb : e < plain_slots s
        eb = omega (arith, vb)

        fb : f < plain_slots s
        fb = omega (arith, wb)

        opened : 1 ≤ nth added e
        opened = omega (arith, h.0, S.plain e eb, SlotLaws.first_end s e (omega arith) eb)

        closed : 1 ≤ nth added f
        closed = omega (arith, h.1, S.plain f fb, SlotLaws.first_end s f (omega arith) fb)

    price_met : price whole (graph_of s) W ≡ bound whole (graph_of s) M
    unfolding bound
    price_met =
        bound_met whole whole_ordered (graph_of s) g M (prepared_of s) (prepared_linked (graph_of s) g) W taken.are_paths
        (all_both W taken.at_ends taken.are_paths) meets
      where
        all_both : (U : List Weighted) → All (λ w. AtEnds (λ v. 1 ≤ nth full (opening_slot s v)) (λ v. 1 ≤ nth full (closing_slot s v)) w.path) U →
            All (λ w. T (is_path (graph_of s) w.path)) U → All (λ w. EndsMeet whole (graph_of s) M w.path) U
        all_both [] h k = tt
        all_both (w ∷ U) h k = (ends_meet w.path h.0 k.0, all_both U h.1 k.1)

    ascending : Ascending [] (paths W)
    ascending = go W taken.are_paths taken.ascend
      where
        some : (q : List ℕ) → T (is_path (graph_of s) q) → T (list_before [] q)
        some [] t = absurd t
        some (v ∷ q) t = tt

        after : (w : Weighted) (U : List Weighted) → Ascend (w ∷ U) → Ascending w.path (paths U)
        after w [] h = tt
        after w (x ∷ U) h = (h.0, after x U h.1)

        go : (U : List Weighted) → All (λ w. T (is_path (graph_of s) w.path)) U → Ascend U → Ascending [] (paths U)
        go [] h a = tt
        go (w ∷ U) h a = (some w.path h.0, after w U a)

    covers : IsCover (graph_of s) W
    covers =
        prepared_cover_is_cover (graph_of s) W
        (record {
          are_paths =
              all_weaken (λ w. T (is_path (graph_of s) w.path)) (λ w. T (is_path (with_reads (graph_of s) (prepared_of s)) w.path)) W
              (λ w t. subst T (sym (path_with_reads (graph_of s) (prepared_of s) w.path)) t) taken.are_paths;
          weights = taken.weights;
          distinct = ascending_distinct [] (paths W) ascending;
          demands_met =
              all_weaken (λ a. (e : ℕ) × SlotLaws.OwnSlot s a e) (λ a. a.demand ≤ total a.item W) (asks (graph_of s))
              (λ a h. omega (arith, ask_total a h.0 h.1)) (SlotLaws.own_slots s right.arcs);
          reads_met = each (prepared_of s) taken.held;
        })
      where
        each : (rs : List (List ℕ)) → ((r : ℕ) → r < length rs → T (some_holds (paths W) (get_or rs r []))) → All (λ r. T (some_holds (paths W) r)) rs
        each [] h = tt
        each (r ∷ rs) h = (h 0 (omega arith), each rs (λ k l. h (suc k) (omega arith)))

    -- ---- the price

    copies_are : total_weight W ≡ copies_of s full
    copies_are = taken.copies ∙ SlotLaws.opens_worth s full

    arc_price : (a : ℕ) → a < arc_count s →
        times whole (total (arc_item s a) W) (cost_of whole (graph_of s).arcs (arc_tail s (arc_at s a)) (arc_head s (arc_at s a))) ≡ pos (arc_worth s full a)
    arc_price a h =
        ap₂ (times whole) (taken.totals (arc_item s a) ∙ SlotLaws.item_worth s full S.reads _ (across_slot s a) (SlotLaws.arc_slot s right.arcs a h))
        (cost_own whole (graph_of s).arcs (arc_of s a) (arc_tail s (arc_at s a)) (arc_head s (arc_at s a)) g.once (arc_among s a h) (joins_own (arc_of s a))) ∙
        times_pos (nth full (across_slot s a) + reads_through (arc_item s a) (prepared_of s)) (arc_cost s (arc_at s a))

    -- "The price of a cover is the sum of weight times price over its paths", found from the loads
    price_is : price whole (graph_of s) W ≡ pos (price_from s full)
    unfolding price_from graph_of
    price_is =
        price_from_totals whole whole_ordered (graph_of s) g W taken.are_paths ∙
        (ap₂ ◌+ℤ◌ (ap (λ k. times whole k (pos (opening_price s))) copies_are ∙ times_pos (copies_of s full) (opening_price s))
        (asks_sum s (λ a. times whole (total a.item W) (item_cost whole (graph_of s) a.item)) (arc_worth s full)
        (λ v h. times_nil whole whole_ordered (total (vert v) W)) arc_price))

  -- ---- the final marks

  marks_are : final_marks s mark ≡ M
  unfolding held_mark
  marks_are = λ i. record { into = λ v. side (useful (graph_of s) v) (from_start (graph_of s) v) (nth mark (in_node v)) i; out = λ v. side (useful (graph_of s) v) (from_start (graph_of s) v) (nth mark (out_node v)) i }
    where
      side : (a b : Bool) (x : ℕ) → sub_ℕ (cond a x (cond b (base - span) highest)) base ≡ cond a (sub_ℕ x base) (cond b low high)
      side true b x = refl
      side false true x = refl
      side false false x = refl

  marks_fit : MarksFit s (final_marks s mark)
  unfolding held_mark
  marks_fit v h = (
    side_among (λ x. InRange (sub_ℕ x base)) (graph_of s) (base - span) highest (nth mark (in_node v)) v
        (λ u. in_range (nth mark (in_node v)) (S.in_near v u).0 (S.in_near v u).1) (tt, tt) (tt, tt),
    side_among (λ x. InRange (sub_ℕ x base)) (graph_of s) (base - span) highest (nth mark (out_node v)) v
        (λ u. in_range (nth mark (out_node v)) (S.out_near v u).0 (S.out_near v u).1) (tt, tt) (tt, tt),
  )

-- Where marks and loads are settled and the paths W carry the loads, of which no more copies open than an answer may hold, the answer form of W at the price
-- of the loads, with the final marks, is accepted.
pub certificate_accepted : (s : List ℕ) → (graph_verdict s).number ≡ 0 → (mark added full : List ℕ) → Settled s mark added full → (W : List Weighted) → Peeled s full W →
    copies_of s full ≤ max_weight s → check_verdict s (encode_answer s (price_from s full) (final_marks s mark) W) ≡ nothing_refused
certificate_accepted s reads mark added full S W taken few =
    let right = (number_zero_iff_reads s).0 reads in
    shown_form_accepted s right W (covers s right mark added full S W taken) reads (omega (arith, taken.few, slots_few s right))
    (omega (arith, copies_are s right mark added full S W taken)) (ascending s right mark added full S W taken) (final_marks s mark) (marks_fit s right mark added full S)
    (subst (λ m. Shows whole (graph_of s) m W) (sym (marks_are s right mark added full S))
    (shown s right mark added full S, sym (price_met s right mark added full S W taken))) (price_from s full) (price_is s right mark added full S W taken)
