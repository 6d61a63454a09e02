-- The working network of a graph form that reads, as it is laid: its shape (ends are live nodes, costs are low, each live node is reached from the root and
-- reaches it at no more than `reach`); where a cover exists, only edges in use carry something at first; and what carrying the surpluses asks for.
use Prim.Native.Nat.{ℕ, zero, suc, ◌+◌, ◌*◌, ◌-◌, ◌/◌, ◌≤◌, ◌<◌}
use native.Mathlib.Omega.{arith}
use mathlib.Core.Path.{◌≡◌, refl, sym, ap, subst, subst₂, ◌∙◌}
use mathlib.Core.List.{List, [], ◌∷◌, map}
use mathlib.Core.Bool.{Bool, true, false, cond}
use mathlib.Core.Logic.{◌⊎◌, inl, inr, ⊎_elim, ◌≢◌}
use borrow.Author.Tests.{lt-ltb, le-ltb}
use lib.Dec.{T, ltb}
use lib.ListN.{length, get_or}
use Rattle.mathematics.specs.Lists.{All, last_of}
use Rattle.mathematics.specs.Graph.{is_start, is_end, has_arc, linked, WellFormed}
use Rattle.mathematics.specs.Cover.{Ask, vert, vertex_asks, arc_ask}
use Rattle.mathematics.specs.Exists.{Coverable}
use Rattle.mathematics.specs.Reach.{from_start, to_end, useful}
use Rattle.mathematics.proofs.Basics.{and_l, and_r, and_in, is_true, test, all_among, all_left, all_right, all_unmap, at_all}
use Rattle.mathematics.proofs.Reach.{linked_first, linked_rest, start_from_start, end_to_end, from_start_path, to_end_path, useful_along}
use Rattle.mathematics.proofs.Prepared.{prepared_fewer}
use Rattle.mathematics.proofs.Base.{useful_item, Useful}
use Rattle.mathematics.proofs.Lying.{idle_asks, prepared_useful}
use Rattle.mathematics.proofs.Links.{Link, opening, closing, inside, across, reading, in_node, out_node, link_from, link_to, OfGraph}
use Rattle.forms.specs.Bytes.{tabulate}
use Rattle.forms.specs.GraphForm.{vertex_count, arc_count, opening_price, vertex_demand, arc_at, arc_cost, arc_demand}
use Rattle.forms.specs.GraphOf.{vertex_of, arc_of, graph_of, arc_item}
use Rattle.forms.specs.GraphReads.{Reads}
use Rattle.forms.proofs.ArcNumbers.{arc_among, arc_number_lem}
use Rattle.forms.proofs.GraphFacts.{graph_well_formed, graph_room}
use Rattle.network.specs.Network.{nth, live_at, sum_to, Way, stop, step, base, span, Shape, Summable, Waiting, leaving, entering, share, most_nodes, most_edges, most_moved, most_cost, most_steps, step_cost}
use Rattle.paths.specs.Slots.{prepared_of, plain_slots, all_slots, across_slot, opening_slot, closing_slot, reading_slot, link_at, live_node, in_use, edge_from, edge_to, edge_cost, first_load}
use Rattle.wiring.specs.Lay.{EdgesLaid, LoadsLaid, LiveLaid, Balanced}
use Rattle.reads.specs.ReadTable.{table_rows}
use Rattle.forms.specs.Limits.{room_vertices, max_demand}
use Rattle.network.proofs.NetworkLaws.{same_or_not, below_or_not, sum_same, sum_none, sum_ones, sum_low, share_other}
use Rattle.paths.proofs.SlotKinds.{SlotKind, is_inside, is_across, is_opening, is_closing, slot_kind, at_reading}
use Rattle.wiring.proofs.SlotLaws.{first_inside, first_across, first_end, useful_below, sum_split, sum_most}
use Rattle.wiring.proofs.LayLaws.{EdgeIs, inside_edge, across_edge, opening_edge, closing_edge, listed, few_plain}
use Rattle.wiring.proofs.LayLawsLoad.{live_root, live_in, live_out, first_behind}
use Rattle.wiring.proofs.LayLawsBalance.{balance_same, balance_low}

low_cond : (c : ℕ) (t : Bool) (x y : ℕ) → x ≤ c → y ≤ c → cond t x y ≤ c
low_cond c true x y h k = h
low_cond c false x y h k = k

module _ (s : List ℕ) (r : Reads s) where
  -- the nodes: the root and two sides of each vertex
  abbrev pub nodes_of : ℕ
  nodes_of = 2 * vertex_count s + 1

  wf : WellFormed (graph_of s)
  wf = graph_well_formed s r

  few : vertex_count s ≤ room_vertices
  few = r.arcs.header.vertices_room

  -- ---- live nodes and the ends of edges

  -- a node that is live
  abbrev pub NodeOk : ℕ → Type 0
  NodeOk x = (x < nodes_of) × T (live_node s x)

  root_ok : NodeOk 0
  root_ok = (omega arith, subst T (sym (live_root s)) tt)

  in_ok : (v : ℕ) → T (useful (graph_of s) v) → NodeOk (in_node v)
  in_ok v u = let b = useful_below s r v u in (omega arith, subst T (sym (live_in s v)) u)

  out_ok : (v : ℕ) → T (useful (graph_of s) v) → NodeOk (out_node v)
  out_ok v u = let b = useful_below s r v u in (omega arith, subst T (sym (live_out s v)) u)

  -- a read begins and ends at useful vertices
  abbrev Fine : Link → Type 0
  Fine (opening v) = Unit {0}
  Fine (closing v) = Unit {0}
  Fine (inside v) = Unit {0}
  Fine (across u v) = Unit {0}
  Fine (reading q) = T (useful (graph_of s) (get_or q 0 0)) × T (useful (graph_of s) (last_of 0 q))

  link_ok : (l : Link) → Fine l → T (in_use s l) → NodeOk (link_from l) × NodeOk (link_to 0 l)
  unfolding in_use
  link_ok (opening v) f u = (root_ok, in_ok v (and_r (is_start (graph_of s) v) (useful (graph_of s) v) u))
  link_ok (closing v) f u = (out_ok v (and_r (is_end (graph_of s) v) (useful (graph_of s) v) u), root_ok)
  link_ok (inside v) f u = (in_ok v u, out_ok v u)
  link_ok (across v w) f u =
      (out_ok v (and_l (useful (graph_of s) v) (useful (graph_of s) w) u), in_ok w (and_r (useful (graph_of s) v) (useful (graph_of s) w) u))
  link_ok (reading q) f u = (in_ok (get_or q 0 0) f.0, out_ok (last_of 0 q) f.1)

  edge_ok : (e : ℕ) → Fine (link_at s e) → NodeOk (edge_from s e) × NodeOk (edge_to s e)
  unfolding edge_from edge_to
  edge_ok e f = go (in_use s (link_at s e)) (link_ok (link_at s e) f)
    where
      go : (t : Bool) → (T t → NodeOk (link_from (link_at s e)) × NodeOk (link_to 0 (link_at s e))) →
          NodeOk (cond t (link_from (link_at s e)) 0) × NodeOk (cond t (link_to 0 (link_at s e)) 0)
      go true h = h tt
      go false h = (root_ok, root_ok)

  fine_plain : (e : ℕ) → SlotKind s e → Fine (link_at s e)
  fine_plain e (is_inside v b q l) = subst Fine (sym l) tt
  fine_plain e (is_across a b q l) = subst Fine (sym l) tt
  fine_plain e (is_opening v b q l) = subst Fine (sym l) tt
  fine_plain e (is_closing v b q l) = subst Fine (sym l) tt

  -- ---- costs

  cost_low : (e : ℕ) → e < plain_slots s → edge_cost s e ≤ most_cost
  unfolding edge_cost
  cost_low e h = low_cond most_cost (in_use s (link_at s e)) (listed s e) 0 (kind (below_or_not e (vertex_count s)) (below_or_not e (vertex_count s + arc_count s))) (omega arith)
    where
      kind : (e < vertex_count s) ⊎ (vertex_count s ≤ e) → (e < vertex_count s + arc_count s) ⊎ (vertex_count s + arc_count s ≤ e) → listed s e ≤ most_cost
      kind (inl l) y = rw (lt-ltb e (vertex_count s) l) (omega arith)
      kind (inr g) (inl l) =
          rw (le-ltb e (vertex_count s) g, lt-ltb e (vertex_count s + arc_count s) l)
          (omega (arith, (r.arcs.each (vertex_count s + arc_count s - (e + 1)) (omega arith)).low_cost))
      kind (inr g) (inr k) =
          rw (le-ltb e (vertex_count s) g, le-ltb e (vertex_count s + arc_count s) k)
          (low_cond most_cost (ltb e (2 * vertex_count s + arc_count s)) (opening_price s) 0 r.arcs.header.low_opening (omega arith))

  -- ---- the root, or a side of a vertex

  abbrev NodeKind : ℕ → Type 0
  NodeKind u = (u ≡ 0) ⊎ ((v : ℕ) × ((u ≡ in_node v) ⊎ (u ≡ out_node v)))

  node_kind : (u : ℕ) → NodeKind u
  node_kind u = by (same_or_not u 0) (same_or_not u (2 * ((u - 1) / 2) + 1))
    where
      by : (u ≡ 0) ⊎ (u ≢ 0) → (u ≡ 2 * ((u - 1) / 2) + 1) ⊎ (u ≢ 2 * ((u - 1) / 2) + 1) → NodeKind u
      by (inl z) y = inl z
      by (inr n) (inl e) = inr ((u - 1) / 2, inl e)
      by (inr n) (inr ne) = inr ((u - 1) / 2, inr (omega arith))

  in_useful : (v u : ℕ) → u ≡ in_node v → T (live_node s u) → T (useful (graph_of s) v)
  in_useful v u e t = subst T (ap (live_node s) e ∙ live_in s v) t

  out_useful : (v u : ℕ) → u ≡ out_node v → T (live_node s u) → T (useful (graph_of s) v)
  out_useful v u e t = subst T (ap (live_node s) e ∙ live_out s v) t

  -- ---- ways between the root and a live node

  module _ (k : ℕ) (all : plain_slots s ≤ k) (from to cost : List ℕ) (laid : EdgesLaid s k from to cost) where
    abbrev Ways : ℕ → ℕ → ℕ → Type 0
    Ways = Way (plain_slots s) from to cost

    -- an edge in use before a way
    go : (e a b c : ℕ) → e < plain_slots s → EdgeIs s e true a b c → {w d : ℕ} → Ways b w d → Ways a w (c + d)
    go e a b c h is {w} {d} way =
        let f : nth from e ≡ a = laid.from_is e (omega arith) ∙ sym is.from_is in
        let t : b ≡ nth to e = is.to_is ∙ sym (laid.to_is e (omega arith)) in
        let q : nth cost e ≡ c = laid.cost_is e (omega arith) ∙ sym is.cost_is in
        subst₂ (λ x y. Ways x w (y + d)) f q (step e h (subst (λ x. Ways x w d) t way))

    go_inside : (v : ℕ) → T (useful (graph_of s) v) → {w d : ℕ} → Ways (out_node v) w d → Ways (in_node v) w (0 + d)
    go_inside v u way =
        let b = useful_below s r v u in
        go v (in_node v) (out_node v) 0 (omega arith) (inside_edge s v b true (sym (is_true _ u))) way

    go_across : (u v : ℕ) → T (has_arc (graph_of s).arcs u v) → T (useful (graph_of s) u) → T (useful (graph_of s) v) → {w d : ℕ} → Ways (in_node v) w d →
        (c : ℕ) × (c ≤ step_cost) × (u < v) × Ways (out_node u) w (c + d)
    go_across u v l p q way =
        let (a, h, tail, head) = arc_number_lem s u v l in
        let x = r.arcs.each a h in (
          arc_cost s (arc_at s a),
          x.low_cost,
          omega (arith, x.rises),
          go (across_slot s a) (out_node u) (in_node v) (arc_cost s (arc_at s a)) (omega arith)
              (across_edge s (across_slot s a) a refl h u v (arc_cost s (arc_at s a)) true (sym tail) (sym head) refl (sym (is_true _ (and_in (useful (graph_of s) u) (useful (graph_of s) v) p q))))
              way,
        )

    go_opening : (v : ℕ) → T (is_start (graph_of s) v) → T (useful (graph_of s) v) → {w d : ℕ} → Ways (in_node v) w d → Ways 0 w (opening_price s + d)
    go_opening v st u way =
        let b = useful_below s r v u in
        go (opening_slot s v) 0 (in_node v) (opening_price s) (omega arith)
        (opening_edge s (opening_slot s v) v refl b (opening_price s) true refl (sym (is_true _ (and_in (is_start (graph_of s) v) (useful (graph_of s) v) st u)))) way

    go_closing : (v : ℕ) → T (is_end (graph_of s) v) → T (useful (graph_of s) v) → Ways (out_node v) 0 (0 + 0)
    go_closing v en u =
        let b = useful_below s r v u in
        go (closing_slot s v) (out_node v) 0 0 (omega arith)
        (closing_edge s (closing_slot s v) v refl b true (sym (is_true _ (and_in (is_end (graph_of s) v) (useful (graph_of s) v) en u)))) stop

    -- along a list of useful vertices: numbers rise, and each arc costs a million at the most
    along : (u : ℕ) (p : List ℕ) → T (linked (graph_of s).arcs (u ∷ p)) → All (λ x. T (useful (graph_of s) x)) (u ∷ p) → (w c : ℕ) → Ways (in_node (last_of u p)) w c →
        (d : ℕ) × (d + u * step_cost ≤ c + last_of u p * step_cost) × Ways (in_node u) w d
    along u [] l us w c way = (c, omega arith, way)
    along u (v ∷ p) l us w c way =
        let (d, b, on) = along v p (linked_rest (graph_of s).arcs u v p l) us.1 w c way in
        let (j, low, up, over) = go_across u v (linked_first (graph_of s).arcs u v p l) us.0 us.1.0 on in
        (0 + (j + d), omega arith, go_inside u us.0 over)

    -- from the root to the in side of a useful vertex, and on
    from_root_in : (v : ℕ) → T (useful (graph_of s) v) → (w c : ℕ) → Ways (in_node v) w c → (d : ℕ) × (d ≤ c + span) × Ways 0 w d
    from_root_in v u w c way =
        let (a, p, st, l, e) = from_start_path (graph_of s) v (and_l (from_start (graph_of s) v) (to_end (graph_of s) v) u) in
        let us = useful_along (graph_of s) wf a p l (start_from_start (graph_of s) a st) (subst (λ x. T (to_end (graph_of s) x)) (sym e) (and_r (from_start (graph_of s) v) (to_end (graph_of s) v) u)) in
        let (d, b, on) = along a p l us w c (subst (λ x. Ways (in_node x) w c) (sym e) way) in
        (opening_price s + d, omega (arith, useful_below s r v u, few, r.arcs.header.low_opening, e), go_opening a st us.0 on)

    -- from a side of a useful vertex to the root
    onward : (v : ℕ) → T (useful (graph_of s) v) → (q : List ℕ) → T (linked (graph_of s).arcs (v ∷ q)) → T (is_end (graph_of s) (last_of v q)) →
        All (λ x. T (useful (graph_of s) x)) (v ∷ q)
    onward v u q l en = useful_along (graph_of s) wf v q l (and_l (from_start (graph_of s) v) (to_end (graph_of s) v) u) (end_to_end (graph_of s) (last_of v q) en)

    last_useful : (v : ℕ) (q : List ℕ) → All (λ x. T (useful (graph_of s) x)) (v ∷ q) → T (useful (graph_of s) (last_of v q))
    last_useful v [] us = us.0
    last_useful v (w ∷ q) us = last_useful w q us.1

    home : (v : ℕ) (q : List ℕ) → T (linked (graph_of s).arcs (v ∷ q)) → T (is_end (graph_of s) (last_of v q)) → All (λ x. T (useful (graph_of s) x)) (v ∷ q) →
        (d : ℕ) × (d ≤ most_steps * step_cost) × Ways (in_node v) 0 d
    home v q l en us =
        let last = last_useful v q us in
        let (d, b, on) = along v q l us 0 0 (go_inside (last_of v q) last (go_closing (last_of v q) en last)) in
        (d, omega (arith, useful_below s r (last_of v q) last, few), on)

    to_root_in : (v : ℕ) → T (useful (graph_of s) v) → (d : ℕ) × (d ≤ span) × Ways (in_node v) 0 d
    to_root_in v u =
        let (q, l, en) = to_end_path (graph_of s) v (and_r (from_start (graph_of s) v) (to_end (graph_of s) v) u) in
        let (d, b, on) = home v q l en (onward v u q l en) in
        (d, omega arith, on)

    to_root_out : (v : ℕ) → T (useful (graph_of s) v) → (d : ℕ) × (d ≤ span) × Ways (out_node v) 0 d
    to_root_out v u =
        let (q, l, en) = to_end_path (graph_of s) v (and_r (from_start (graph_of s) v) (to_end (graph_of s) v) u) in
        split q l en (onward v u q l en)
      where
        split : (q : List ℕ) → T (linked (graph_of s).arcs (v ∷ q)) → T (is_end (graph_of s) (last_of v q)) → All (λ x. T (useful (graph_of s) x)) (v ∷ q) →
            (d : ℕ) × (d ≤ span) × Ways (out_node v) 0 d
        split [] l en us = (0 + 0, omega arith, go_closing v en us.0)
        split (w ∷ q) l en us =
            let (d, b, on) = home w q (linked_rest (graph_of s).arcs v w q l) en us.1 in
            let (c, low, up, way) = go_across v w (linked_first (graph_of s).arcs v w q l) us.0 us.1.0 on in
            (c + d, omega arith, way)

    -- ---- the shape

    from_root_way : (u : ℕ) → u < nodes_of → T (live_node s u) → (c : ℕ) × (c ≤ span) × Ways 0 u c
    from_root_way u h lives = by (node_kind u)
      where
        by : NodeKind u → (c : ℕ) × (c ≤ span) × Ways 0 u c
        by (inl z) = (0, omega arith, subst (λ x. Ways 0 x 0) (sym z) stop)
        by (inr (v, inl e)) =
            let (d, b, way) = from_root_in v (in_useful v u e lives) (in_node v) 0 stop in
            (d, omega arith, subst (λ x. Ways 0 x d) (sym e) way)
        by (inr (v, inr e)) =
            let (d, b, way) = from_root_in v (out_useful v u e lives) (out_node v) 0 (go_inside v (out_useful v u e lives) stop) in
            (d, omega arith, subst (λ x. Ways 0 x d) (sym e) way)

    to_root_way : (u : ℕ) → u < nodes_of → T (live_node s u) → (c : ℕ) × (c ≤ span) × Ways u 0 c
    to_root_way u h lives = by (node_kind u)
      where
        by : NodeKind u → (c : ℕ) × (c ≤ span) × Ways u 0 c
        by (inl z) = (0, omega arith, subst (λ x. Ways x 0 0) (sym z) stop)
        by (inr (v, inl e)) = let (d, b, way) = to_root_in v (in_useful v u e lives) in (d, b, subst (λ x. Ways x 0 d) (sym e) way)
        by (inr (v, inr e)) = let (d, b, way) = to_root_out v (out_useful v u e lives) in (d, b, subst (λ x. Ways x 0 d) (sym e) way)

    module _ (live : List Bool) (L : LiveLaid s nodes_of live) where
      seen : (u v : ℕ) → v ≡ u → NodeOk u → (v < nodes_of) × T (live_at live v)
      seen u v e (h, t) = (omega arith, subst T (sym (L.is v (omega arith) ∙ ap (live_node s) e)) t)

      -- The working network of a form that reads has the shape that carrying asks for: each live node is reached from the root by edges and reaches it,
      -- at no more than the opening price and 63 arcs.
      pub shape_of_graph : Shape nodes_of (plain_slots s) live from to cost
      shape_of_graph =
          record {
            few_nodes = omega (arith, few);
            few_edges = omega (arith, few_plain r);
            root_live = (seen 0 0 refl root_ok).1;
            some_node = omega arith;
            from_live = λ e h. seen (edge_from s e) (nth from e) (laid.from_is e (omega arith)) (edge_ok e (fine_plain e (slot_kind s e h))).0;
            to_live = λ e h. seen (edge_to s e) (nth to e) (laid.to_is e (omega arith)) (edge_ok e (fine_plain e (slot_kind s e h))).1;
            cheap = λ e h. omega (arith, cost_low e h, laid.cost_is e (omega arith));
            from_root = λ u h t. from_root_way u h (subst T (L.is u h) t);
            to_root = λ u h t. to_root_way u h (subst T (L.is u h) t);
          }

  -- ---- first loads

  few_reads : length (prepared_of s) ≤ table_rows
  few_reads = omega (arith, prepared_fewer (graph_of s).reads, (graph_room s r).reads)

  -- what holds of each ask holds of each vertex with its demand
  vertex_of_lem : (P : Ask → Type 0) (k i : ℕ) → All P (vertex_asks i (tabulate (vertex_of s) k i)) → (v : ℕ) → i ≤ v → v < i + k →
      P (record { item = vert v; demand = vertex_demand s v })
  vertex_of_lem P zero i h v a b = absurd (omega arith)
  vertex_of_lem P (suc k) i h v a b =
      ⊎_elim (λ (e : v ≡ i). subst (λ x. P (record { item = vert x; demand = vertex_demand s x })) (sym e) h.0)
      (λ ne. vertex_of_lem P k (suc i) h.1 v (omega arith) (omega arith)) (same_or_not v i)

  low_load : (e : ℕ) → e < all_slots s → first_load s e ≤ max_demand
  low_load e h = by (below_or_not e (plain_slots s))
    where
      kind : SlotKind s e → first_load s e ≤ max_demand
      kind (is_inside v b q l) = omega (arith, ap (first_load s) q, first_inside s v b, (r.vertices v b).low_demand)
      kind (is_across a b q l) = omega (arith, ap (first_load s) q, first_across s a b, (r.arcs.each a b).low_demand)
      kind (is_opening v b q l) = omega (arith, first_end s e (omega arith) (omega arith))
      kind (is_closing v b q l) = omega (arith, first_end s e (omega arith) (omega arith))

      by : (e < plain_slots s) ⊎ (plain_slots s ≤ e) → first_load s e ≤ max_demand
      by (inl l) = kind (slot_kind s e l)
      by (inr g) = omega (arith, first_behind s e (omega arith), low_cond 1 (ltb e (plain_slots s)) 0 1 (omega arith) (omega arith))

  -- "weights totalling at most 320,000,016": a demand for each vertex and arc that there can be, and each read once
  low_total : sum_to (all_slots s) (first_load s) ≤ most_moved
  low_total =
      omega (
        arith,
        ap (λ k. sum_to k (first_load s)) parts,
        sum_split (vertex_count s + arc_count s) (2 * vertex_count s + length (prepared_of s)) (first_load s),
        sum_low max_demand (vertex_count s + arc_count s) (first_load s) (λ e l. low_load e (omega arith)),
        sum_split (2 * vertex_count s) (length (prepared_of s)) behind,
        sum_none (2 * vertex_count s) behind (λ e l. first_end s (vertex_count s + arc_count s + e) (omega arith) (omega arith)),
        sum_most (length (prepared_of s)) (λ j. behind (2 * vertex_count s + j)) (λ j. 1) (λ j l. one (2 * vertex_count s + j)),
        sum_ones (length (prepared_of s)) (λ j. 1) (λ j l. refl),
        few,
        r.arcs.header.arcs_room,
        few_reads,
      )
    where
      parts : all_slots s ≡ vertex_count s + arc_count s + (2 * vertex_count s + length (prepared_of s))
      parts = omega arith

      behind : ℕ → ℕ
      behind j = first_load s (vertex_count s + arc_count s + j)

      one : (j : ℕ) → behind j ≤ 1
      one j = omega (arith, first_behind s (vertex_count s + arc_count s + j) (omega arith), low_cond 1 (ltb (vertex_count s + arc_count s + j) (plain_slots s)) 0 1 (omega arith) (omega arith))

  module _ (c : Coverable (graph_of s)) where
    -- a prepared read begins and ends at useful vertices
    fine : (e : ℕ) → e < all_slots s → Fine (link_at s e)
    fine e h = by (below_or_not e (plain_slots s))
      where
        by : (e < plain_slots s) ⊎ (plain_slots s ≤ e) → Fine (link_at s e)
        by (inl l) = fine_plain e (slot_kind s e l)
        by (inr g) =
            let i : ℕ = e - plain_slots s in
            let q : e ≡ reading_slot s i = omega arith in
            subst Fine (sym (ap (link_at s) q ∙ at_reading s i))
            (at_all (λ p. OfGraph (graph_of s) (reading p) × Useful (graph_of s) (reading p)) [] (prepared_of s) (prepared_useful (graph_of s) wf c) i (omega arith)).1

    -- Every edge goes between live nodes, a prepared read's too.
    pub ends_live : (e : ℕ) → e < all_slots s → NodeOk (edge_from s e) × NodeOk (edge_to s e)
    ends_live e h = edge_ok e (fine e h)

    abbrev Idle : Ask → Type 0
    Idle a = (T (useful_item (graph_of s) a.item) → ⊥) → a.demand ≡ 0

    idle_vertex : (v : ℕ) → v < vertex_count s → Idle (record { item = vert v; demand = vertex_demand s v })
    unfolding graph_of
    idle_vertex v h =
        vertex_of_lem Idle (vertex_count s) 0
        (all_left Idle (vertex_asks 0 (tabulate (vertex_of s) (vertex_count s) 0)) (map arc_ask (tabulate (arc_of s) (arc_count s) 0)) (idle_asks (graph_of s) wf c)) v (omega arith) (omega arith)

    idle_arc : (a : ℕ) → a < arc_count s → Idle (record { item = arc_item s a; demand = arc_demand s (arc_at s a) })
    idle_arc a h =
        all_among (λ x. Idle (arc_ask x)) (graph_of s).arcs (arc_of s a)
        (all_unmap Idle arc_ask (graph_of s).arcs (all_right Idle (vertex_asks 0 (graph_of s).vertices) (map arc_ask (graph_of s).arcs) (idle_asks (graph_of s) wf c))) (arc_among s a h)

    asked : (t : Bool) (d x k : ℕ) → ((T t → ⊥) → d ≡ 0) → x ≡ d - k → 1 ≤ x → T t
    asked t d x k idle e some = ⊎_elim (λ u. u) (λ n. absurd (omega (arith, idle n))) (test t)

    -- Where a cover exists, an edge that carries something at first is in use.
    pub first_loads_in_use : (e : ℕ) → e < all_slots s → 1 ≤ first_load s e → T (in_use s (link_at s e))
    unfolding in_use
    first_loads_in_use e h some = by (below_or_not e (plain_slots s))
      where
        kind : SlotKind s e → T (in_use s (link_at s e))
        kind (is_inside v b q l) =
            subst (λ x. T (in_use s x)) (sym l) (asked (useful (graph_of s) v) (vertex_demand s v) (first_load s e) _ (idle_vertex v b) (ap (first_load s) q ∙ first_inside s v b) some)
        kind (is_across a b q l) =
            subst (λ x. T (in_use s x)) (sym l)
            (asked (useful_item (graph_of s) (arc_item s a)) (arc_demand s (arc_at s a)) (first_load s e) _ (idle_arc a b) (ap (first_load s) q ∙ first_across s a b) some)
        kind (is_opening v b q l) = absurd (omega (arith, first_end s e (omega arith) (omega arith)))
        kind (is_closing v b q l) = absurd (omega (arith, first_end s e (omega arith) (omega arith)))

        by : (e < plain_slots s) ⊎ (plain_slots s ≤ e) → T (in_use s (link_at s e))
        by (inl l) = kind (slot_kind s e l)
        by (inr g) =
            let q : e ≡ reading_slot s (e - plain_slots s) = omega arith in
            subst (λ x. T (in_use s x)) (sym (ap (link_at s) q ∙ at_reading s (e - plain_slots s))) tt

    module _ (from to cost first : List ℕ) (laid : EdgesLaid s (all_slots s) from to cost) (loads : LoadsLaid s (all_slots s) first) where
      -- the first loads are low
      pub loads_low : (e : ℕ) → e < all_slots s → nth first e ≤ max_demand
      loads_low e h = omega (arith, loads.is e h, low_load e h)

      -- What summing the loads at the nodes asks for.
      pub summable : Summable nodes_of (all_slots s) from to first
      summable =
          record {
            ends = record {
              some_node = omega arith;
              few_nodes = omega (arith, few);
              few_edges = omega (arith, few_plain r, few_reads);
              from_node = λ e h. omega (arith, laid.from_is e h, (ends_live e h).0.0);
              to_node = λ e h. omega (arith, laid.to_is e h, (ends_live e h).1.0);
            };
            low = λ e h. omega (arith, loads_low e h);
          }

      -- a node that is not live is no edge's end
      none_at_dead : (key : List ℕ) (u : ℕ) → (T (live_node s u) → ⊥) → ((e : ℕ) → e < all_slots s → T (live_node s (nth key e))) →
          sum_to (all_slots s) (λ e. share u (nth key e) (nth first e)) ≡ 0
      none_at_dead key u dead ends =
          sum_none (all_slots s) (λ e. share u (nth key e) (nth first e)) (λ e h. share_other u (nth key e) (nth first e) (λ q. dead (subst (λ x. T (live_node s x)) (sym q) (ends e h))))

      module _ (live : List Bool) (L : LiveLaid s nodes_of live) (surplus deficit : List ℕ) (B : Balanced nodes_of (all_slots s) from to first surplus deficit) where
        -- Dead nodes have neither surplus nor deficit.
        dead_none : (u : ℕ) → u < nodes_of → (T (live_at live u) → ⊥) → (nth surplus u ≡ 0) × (nth deficit u ≡ 0)
        unfolding leaving entering
        dead_none u h dead =
            let gone : T (live_node s u) → ⊥ = λ t. dead (subst T (sym (L.is u h)) t) in
            let out = none_at_dead from u gone (λ e b. subst (λ x. T (live_node s x)) (sym (laid.from_is e b)) (ends_live e b).0.1) in
            let into = none_at_dead to u gone (λ e b. subst (λ x. T (live_node s x)) (sym (laid.to_is e b)) (ends_live e b).1.1) in
            let same = B.balance u h in
            ⊎_elim (λ z. omega (arith, same, out, into)) (λ z. omega (arith, same, out, into)) (B.apart u h)

        -- "Weights total at most the surplus that was routed, 320,000,016": there is as much surplus as deficit, and no more than that.
        pub balance_sums : (sum_to nodes_of (λ u. nth surplus u) ≡ sum_to nodes_of (λ u. nth deficit u)) × (sum_to nodes_of (λ u. nth surplus u) ≤ most_moved)
        balance_sums = (
          balance_same summable B,
          omega (arith, balance_low summable B, sum_same (all_slots s) (nth first) (first_load s) loads.is, low_total),
        )

        -- What carrying everything asks for, with no load yet and every mark at the base.
        pub ready_to_carry : (load mark : List ℕ) → length load ≡ most_edges → length mark ≡ most_nodes → ((e : ℕ) → e < plain_slots s → nth load e ≡ 0) →
            ((u : ℕ) → u < nodes_of → nth mark u ≡ base) → Waiting nodes_of (plain_slots s) live load mark surplus deficit
        ready_to_carry load mark load_long mark_long none marked =
            record {
              load_long = load_long;
              mark_long = mark_long;
              surplus_long = B.surplus_long;
              deficit_long = B.deficit_long;
              no_load = none;
              at_base = λ u h t. marked u h;
              apart = B.apart;
              dead_none = dead_none;
              same_sum = balance_sums.0;
              few = balance_sums.1;
            }
