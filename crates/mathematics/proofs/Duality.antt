-- Strong duality: where a cover exists there are a cover and marks with the cover's price equal to the marks' bound, few paths, few copies and small marks.
-- Document 01, "Numbers allowed": "a lowest-price cover and marks inside them always exist where a cover does". The transport of Transport.antt on the
-- network of Wired.antt gives the marks and what each link carries; Decompose.antt reads the cover off it.
use Prim.Native.Nat.{ℕ, zero, suc, ◌+◌, ◌*◌, ◌≤◌, ◌<◌}
use native.Mathlib.Omega.{arith}
use mathlib.Core.Path.{◌≡◌, refl, sym, ap, subst, ◌∙◌}
use mathlib.Core.List.{List, [], ◌∷◌, ◌++◌, map}
use mathlib.Core.Bool.{Bool, true, false}
use mathlib.Core.Logic.{◌⊎◌, inl, inr}
use lib.Dec.{T}
use lib.ListN.{length, length-map}
use Rattle.mathematics.specs.Price.{Prices, Ordered, Le}
use Rattle.mathematics.specs.Lists.{All, some_holds}
use Rattle.mathematics.specs.Graph.{Graph, is_path, linked, WellFormed, with_reads}
use Rattle.mathematics.specs.Cover.{Item, vert, arc, same_item, one_if, Ask, asks, total, total_weight, paths, IsCover, price}
use Rattle.mathematics.specs.Prepare.{prepare}
use Rattle.mathematics.specs.Bound.{Marks, start_slack, end_slack, SlacksHold, bound_with, bound, item_slack}
use Rattle.mathematics.specs.Exists.{Coverable}
use Rattle.mathematics.specs.Range.{OneOf, start_count, end_count, sum_of_demands, MarkWithin, CostsHold}
use Rattle.mathematics.specs.Links.{Link, opening, closing, inside, across, reading, in_node, out_node, passes, opens, AtEnds}
pub use Rattle.mathematics.specs.Range.{Best}
use Rattle.mathematics.proofs.Basics.{all_among, all_from, all_map, all_unmap, all_weaken}
use Rattle.mathematics.proofs.Merge.{merge, merge_total, merge_weight, merge_length, merge_weights, merge_all, merge_distinct, merge_holds}
use Rattle.mathematics.proofs.Existence.{held_by_some}
use Rattle.mathematics.proofs.WithReads.{path_with_reads}
use Rattle.mathematics.proofs.Prepared.{prepared_linked, prepared_fewer, prepared_cover_is_cover}
use Rattle.mathematics.proofs.Totals.{owed}
use Rattle.mathematics.proofs.LowerBound.{EndsMeet, bound_met}
use Rattle.mathematics.proofs.Network
use Rattle.mathematics.proofs.Network.{slack, leaving}
use Rattle.mathematics.proofs.Transport.{Transport, transport}
use Rattle.mathematics.proofs.Loads.{Load, worth, one, worth_append}
use Rattle.mathematics.proofs.Links.{OfGraph, Used}
use Rattle.mathematics.proofs.Decompose
use Rattle.mathematics.proofs.Decompose.{read_loads, worth_some, Decomposed, decompose}
use Rattle.mathematics.proofs.Base.{same_item_lem, useful_item, base, base_short, base_opens, base_amount, base_passes, Useful, Unasked, OfBase, base_of_graph, has_opening, has_closing}
use Rattle.mathematics.proofs.Wired.{live, Node, in_node_lem, out_node_lem, edge_of, load_edge, edges, jobs, has_edge, inside_edge, across_edge, wired, job_sources, job_targets}
use Rattle.mathematics.proofs.Marked.{marks_of, side_among, open_slack, close_slack, inside_slack, across_slack, Spread, slacks_hold}
use Rattle.mathematics.proofs.MarksWithin.{among_image, within_equal, way_within, Extremes, extremes}
use Rattle.mathematics.proofs.Filled.{Filling, as_must, as_added, as_full, full_worth, as_load, fill, jobs_total_worth, full_balanced, opens_leaving}
use Rattle.mathematics.proofs.Lying.{idle_asks, prepared_useful}

module _ (P : Prices) (G : Graph P.El) where
  -- What a transport for the reads rs leaves: what the links carry, and marks of the nodes.
  record Carried (rs : List (List ℕ)) : Type 0 where
    fillings : List Filling
    node_marks : ℕ → P.El
    musts : map as_must fillings ≡ base G rs
    sound : All (λ f. Network.Sound P (live G) (in_node (length G.vertices)) node_marks (as_load P G f)) fillings
    balance : Decompose.AllBalanced G (map as_full fillings ++ read_loads rs)
    opened : worth opens (map as_full fillings) ≤ worth one (base G rs) + length rs
    root_nil : node_marks 0 ≡ P.nil
    small : (u : ℕ) → Node G u → MarkWithin P G (2 * length G.vertices) (node_marks u)

counted : (b : Bool) → 1 ≤ one_if b + 0 → T b
counted true k = tt
counted false k = absurd (omega arith)

all_both : {A : Type 0} (Q R : A → Type 0) (xs : List A) → All Q xs → All R xs → All (λ x. Q x × R x) xs
all_both Q R [] h k = tt
all_both Q R (x ∷ xs) h k = ((h.0, k.0), all_both Q R xs h.1 k.1)

module _ (P : Prices) (L : Ordered P) (G : Graph P.El) (g : WellFormed G) (costs : CostsHold P G) (rs : List (List ℕ)) where
  reads_amount : (qs : List (List ℕ)) → worth one (read_loads qs) ≡ length qs
  reads_amount [] = refl
  reads_amount (q ∷ qs) = omega (arith, reads_amount qs)

  from_transport : Transport P (live G) (in_node (length G.vertices)) (edges P G rs) (jobs P G rs) → Carried P G rs
  from_transport t =
      let (fs, must, loads) = fill P G (base G rs) t.loads t.same_edges in
      record {
        fillings = fs;
        node_marks = t.marks;
        musts = must;
        sound =
            all_unmap (Network.Sound P (live G) (in_node (length G.vertices)) t.marks) (as_load P G) fs
            (subst (All (Network.Sound P (live G) (in_node (length G.vertices)) t.marks)) (sym loads) t.sound);
        balance = full_balanced P G fs rs (rw (must, loads) t.balance);
        opened =
            omega (
              arith,
              full_worth opens fs,
              ap (worth opens) must,
              base_opens G rs,
              opens_leaving P G fs,
              ap (λ xs. leaving xs 0) loads,
              t.root_sends,
              jobs_total_worth P G (base G rs ++ read_loads rs),
              worth_append one (base G rs) (read_loads rs),
              reads_amount rs,
            );
        root_nil = t.root_mark;
        small = λ u n.
            let (k, few, w) = t.ways_to u n in
            within_equal P G k (2 * length G.vertices) (t.marks u) (t.marks u) (omega arith) refl
            (way_within P L G g t.marks t.root_mark rs w);
      }

  -- the transport on the network of the links
  carry : All (λ r. Useful G (reading r)) rs → Carried P G rs
  carry h =
      from_transport
      (transport P L (live G) (in_node (length G.vertices)) (edges P G rs) (wired P G L g rs costs) (jobs P G rs) (job_sources P G L g rs h)
      (job_targets P G L g rs h))

  module _ (c : Carried P G rs) where
    abbrev p : ℕ → P.El
    p = c.node_marks

    edges_hold : All (λ e. Le P P.nil (slack P p e)) (edges P G rs)
    edges_hold =
        subst (λ bs. All (λ e. Le P P.nil (slack P p e)) (map (load_edge P G) bs)) c.musts
        (all_map (λ e. Le P P.nil (slack P p e)) (load_edge P G) (map as_must c.fillings)
        (all_map (λ b. Le P P.nil (slack P p (load_edge P G b))) as_must c.fillings
        (all_weaken (λ f. Network.Sound P (live G) (in_node (length G.vertices)) p (as_load P G f)) (λ f. Le P P.nil (slack P p (edge_of P G f.link)))
        c.fillings
        (λ f h. h.slack_holds) c.sound)))

    edge_holds : (l : Link) → OneOf (edges P G rs) (edge_of P G l) → Le P P.nil (slack P p (edge_of P G l))
    edge_holds l m = all_among (λ e. Le P P.nil (slack P p e)) (edges P G rs) (edge_of P G l) edges_hold m

    ends : Extremes P L G g p (2 * length G.vertices)
    ends = extremes P L G g p (2 * length G.vertices) c.small

    marks : Marks P.El
    marks = marks_of G p ends.low ends.high

    spread : Spread P L G g p ends.low ends.high
    spread =
        record {
          root_nil = c.root_nil;
          open_holds = λ v s u. edge_holds (opening v) (has_edge P G L g rs (opening v) (has_opening G rs v s u));
          close_holds = λ v s u. edge_holds (closing v) (has_edge P G L g rs (closing v) (has_closing G rs v s u));
          inside_holds = λ v u. edge_holds (inside v) (inside_edge P G L g rs v u);
          across_holds = λ u v t x y. edge_holds (across u v) (across_edge P G L g rs u v t x y);
          low_least = ends.low_least;
          high_most = ends.high_most;
          low_below_opening = ends.low_below_opening;
        }

    shown : SlacksHold P G marks
    unfolding marks
    shown = slacks_hold P L G g p ends.low ends.high spread costs

    marks_within : (v : ℕ) → v < length G.vertices →
        MarkWithin P G (2 * length G.vertices) (marks.into v) × MarkWithin P G (2 * length G.vertices) (marks.out v)
    unfolding marks
    marks_within v b = (
      side_among (MarkWithin P G (2 * length G.vertices)) G ends.low ends.high (p (in_node v)) v (λ u. c.small (in_node v) (in_node_lem G g v u))
          ends.low_within ends.high_within,
      side_among (MarkWithin P G (2 * length G.vertices)) G ends.low ends.high (p (out_node v)) v (λ u. c.small (out_node v) (out_node_lem G g v u))
          ends.low_within ends.high_within,
    )

    -- ---- the cover

    Opens : ℕ → Type 0
    Opens v = start_slack P G marks v ≡ P.nil

    Closes : ℕ → Type 0
    Closes v = end_slack P marks v ≡ P.nil

    abbrev Known : Filling → Type 0
    Known f = OfBase G (as_must f) × Network.Sound P (live G) (in_node (length G.vertices)) p (as_load P G f)

    all_known : All Known c.fillings
    all_known =
        all_both (λ f. OfBase G (as_must f)) (λ f. Network.Sound P (live G) (in_node (length G.vertices)) p (as_load P G f)) c.fillings
        (all_unmap (OfBase G) as_must c.fillings (subst (All (OfBase G)) (sym c.musts) (base_of_graph G rs))) c.sound

    -- an opening or closing link that carries something is tight
    used : (l : Link) (k j : ℕ) → Useful G l → Unasked l k → (1 ≤ j → slack P p (edge_of P G l) ≡ P.nil) → 1 ≤ k + j → Used Opens Closes l
    unfolding marks Opens Closes
    used (opening v) k j u z t h = sym (open_slack P L G g p ends.low ends.high c.root_nil v u) ∙ t (omega arith)
    used (closing v) k j u z t h = sym (close_slack P L G g p ends.low ends.high c.root_nil v u) ∙ t (omega arith)
    used (inside v) k j u z t h = tt
    used (across u v) k j x z t h = tt
    used (reading r) k j u z t h = tt

    loads_sound : All (Decompose.Sound G Opens Closes) (map as_full c.fillings)
    loads_sound =
        all_map (Decompose.Sound G Opens Closes) as_full c.fillings
        (all_weaken Known (λ f. Decompose.Sound G Opens Closes (as_full f)) c.fillings
        (λ f h. (h.0.0, used f.link f.must f.added h.0.1 h.0.2 h.1.tight)) all_known)

    decomposed : All (λ r. OfGraph G (reading r)) rs → Decomposed G Opens Closes (map as_full c.fillings) rs
    decomposed t = decompose G Opens Closes g.rises (map as_full c.fillings) rs loads_sound t c.balance

    -- what is added to an item's link shows that its slack is nothing
    link_tight : (i : Item) (l : Link) (k : ℕ) → 1 ≤ passes i l → Useful G l → Unasked l k → slack P p (edge_of P G l) ≡ P.nil → item_slack P G marks i ≡ P.nil
    unfolding marks
    link_tight i (opening v) k h u z t = absurd (omega arith)
    link_tight i (closing v) k h u z t = absurd (omega arith)
    link_tight i (inside v) k h u z t =
        subst (λ j. item_slack P G marks j ≡ P.nil) (sym (same_item_lem i (vert v) (counted (same_item i (vert v)) h)))
        (sym (inside_slack P L G g p ends.low ends.high v u) ∙ t)
    link_tight i (across u v) k h x z t =
        subst (λ j. item_slack P G marks j ≡ P.nil) (sym (same_item_lem i (arc u v) (counted (same_item i (arc u v)) h)))
        (sym (across_slack P L G g p ends.low ends.high u v x.0 x.1) ∙ t)
    link_tight i (reading r) k h u z t = absurd z

    added_tight : (i : Item) → 1 ≤ worth (passes i) (map as_added c.fillings) → item_slack P G marks i ≡ P.nil
    added_tight i h =
        let (x, m, j, k) = worth_some (passes i) (map as_added c.fillings) h in
        let (f, n, e) = among_image as_added c.fillings x m in
        let known : Known f = all_among Known c.fillings f all_known n in
        link_tight i f.link f.must (subst (λ (y : Load Link). 1 ≤ passes i y.what) e k) known.0.1 known.0.2
        (known.1.tight (subst (λ (y : Load Link). 1 ≤ y.amount) e j))

    module _ (idle : All (λ a. (T (useful_item G a.item) → ⊥) → a.demand ≡ 0) (asks G))
        (reads_linked : All (λ r. (2 ≤ length r) × T (linked G.arcs r)) rs) (d : Decomposed G Opens Closes (map as_full c.fillings) rs) where
      ask_total : (a : Ask) → OneOf (asks G) a → total a.item (merge d.cover) ≡ owed rs a + worth (passes a.item) (map as_added c.fillings)
      ask_total a m =
          omega (
            arith,
            merge_total a.item d.cover,
            d.totals a.item,
            full_worth (passes a.item) c.fillings,
            ap (worth (passes a.item)) c.musts,
            base_passes G rs g idle a m,
          )

      held : (r : List ℕ) → T (some_holds (paths d.cover) r) → T (some_holds (paths (merge d.cover)) r)
      held r h =
          let (w, m, k) = held_by_some r d.cover h in
          merge_holds r w d.cover m (all_among (λ w. 1 ≤ w.weight) d.cover w d.weights m) k

      merged_paths : All (λ w. T (is_path G w.path)) (merge d.cover)
      merged_paths =
          merge_all (λ p. T (is_path G p)) d.cover
          (all_weaken (λ w. T (is_path G w.path)) (λ w. 1 ≤ w.weight → T (is_path G w.path)) d.cover (λ w h k. h) d.are_paths)

      covers : IsCover (with_reads G rs) (merge d.cover)
      covers =
          record {
            are_paths =
                all_weaken (λ w. T (is_path G w.path)) (λ w. T (is_path (with_reads G rs) w.path)) (merge d.cover)
                (λ w t. subst T (sym (path_with_reads G rs w.path)) t) merged_paths;
            weights = merge_weights d.cover;
            distinct = merge_distinct d.cover;
            demands_met = all_from (λ a. a.demand ≤ total a.item (merge d.cover)) (asks G) (λ a m. omega (arith, ask_total a m));
            reads_met = all_weaken (λ r. T (some_holds (paths d.cover) r)) (λ r. T (some_holds (paths (merge d.cover)) r)) rs held d.held;
          }

      at_ends : (q : List ℕ) → AtEnds Opens Closes q → EndsMeet P G marks q
      unfolding Opens Closes
      at_ends [] h = absurd h
      at_ends (v ∷ q) h = h

      price_met : price P G (merge d.cover) ≡ bound_with P rs G marks
      price_met =
          bound_met P L G g marks rs reads_linked (merge d.cover) merged_paths
          (merge_all (EndsMeet P G marks) d.cover
          (all_weaken (λ w. AtEnds Opens Closes w.path) (λ w. 1 ≤ w.weight → EndsMeet P G marks w.path) d.cover (λ w h k. at_ends w.path h)
          d.at_ends))
          (all_from (λ a. (total a.item (merge d.cover) ≡ owed rs a) ⊎ (item_slack P G marks a.item ≡ P.nil)) (asks G) meets)
        where
          meets : (a : Ask) → OneOf (asks G) a → (total a.item (merge d.cover) ≡ owed rs a) ⊎ (item_slack P G marks a.item ≡ P.nil)
          meets a m = pick (worth (passes a.item) (map as_added c.fillings)) refl
            where
              pick : (n : ℕ) → worth (passes a.item) (map as_added c.fillings) ≡ n →
                  (total a.item (merge d.cover) ≡ owed rs a) ⊎ (item_slack P G marks a.item ≡ P.nil)
              pick zero e = inl (omega (arith, ask_total a m))
              pick (suc n) e = inr (added_tight a.item (omega arith))

      few_paths : length (merge d.cover) ≤ length G.vertices + length G.arcs + start_count G.vertices + end_count G.vertices + length rs
      few_paths =
          omega (
            arith,
            merge_length d.cover,
            d.few,
            length-map c.fillings as_full,
            length-map c.fillings as_must,
            ap length c.musts,
            base_short G rs,
          )

      few_copies : total_weight (merge d.cover) ≤ sum_of_demands (asks G) + length rs
      few_copies = omega (arith, merge_weight d.cover, d.copies, c.opened, base_amount G rs)

-- Theorem 6. Where a cover exists there are a cover and marks of equal price and bound, inside the limits: "a lowest-price cover and marks inside them always
-- exist where a cover does".
pub strong_duality : (P : Prices) → Ordered P → (G : Graph P.El) → WellFormed G → CostsHold P G → Coverable G → Best P G
unfolding bound
strong_duality P L G g costs coverable =
    let rs = prepare G.reads in
    let useful-reads = prepared_useful G g coverable in
    let c = carry P L G g costs rs (all_weaken (λ r. OfGraph G (reading r) × Useful G (reading r)) (λ r. Useful G (reading r)) rs (λ r h. h.1) useful-reads) in
    let d =
    decomposed P L G g costs rs c
    (all_weaken (λ r. OfGraph G (reading r) × Useful G (reading r)) (λ r. OfGraph G (reading r)) rs (λ r h. h.0) useful-reads) in
    let idle = idle_asks G g coverable in
    let fewer = prepared_fewer G.reads in
    record {
      cover = merge d.cover;
      marks = marks P L G g costs rs c;
      is_cover = prepared_cover_is_cover G (merge d.cover) (covers P L G g costs rs c idle (prepared_linked G g) d);
      slacks_hold = shown P L G g costs rs c;
      price_is_bound = price_met P L G g costs rs c idle (prepared_linked G g) d;
      few_paths = omega (arith, few_paths P L G g costs rs c idle (prepared_linked G g) d);
      few_copies = omega (arith, few_copies P L G g costs rs c idle (prepared_linked G g) d);
      marks_within = marks_within P L G g costs rs c;
    }
