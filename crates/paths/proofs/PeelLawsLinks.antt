-- The edges as links of the graph: that a loaded edge is a link of the graph, that loads which go round make a bare
-- network that does, and that a walk from the root back to it is a path from a start to an end.
use Rattle.std.proofs.Common.{ℕ, ◌+◌, ◌*◌, ◌≤◌, ◌<◌, arith, ◌≡◌, refl, sym, ap, subst, ◌∙◌, List, [], ◌∷◌, map, Bool, cond, ◌⊎◌, inl, inr, ⊎_elim, T, length, get_or}
use Rattle.mathematics.specs.Lists.{All}
use Rattle.mathematics.specs.Graph.{is_start, is_end, is_path, linked, Rises}
use Rattle.mathematics.specs.Reach.{useful}
use Rattle.mathematics.proofs.Basics.{is_true, and_l, at_all}
use Rattle.mathematics.proofs.Reach.{linked_first, linked_rest, arc_rises, start_below, path_start, path_linked}
use Rattle.mathematics.proofs.Prepared.{prepared_linked, prepared_fewer}
use Rattle.mathematics.proofs.Links.{Link, opening, closing, inside, across, reading, in_node, link_from, link_to, OfGraph, Used, Leads, IsWhole, whole_walk, link_rises}
use Rattle.forms.specs.GraphForm.{vertex_count}
use Rattle.forms.specs.GraphOf.{graph_of}
use Rattle.forms.specs.GraphReads.{Reads}
use Rattle.forms.proofs.ArcNumbers.{arc_there}
use Rattle.forms.proofs.GraphFacts.{graph_well_formed, graph_room}
use Rattle.forms.proofs.GraphRange.{vertices_length}
use Rattle.network.specs.Network.{nth, most_edges}
use Rattle.paths.specs.Slots.{prepared_of, plain_slots, all_slots, opening_slot, closing_slot, reading_slot, link_at, in_use, edge_from, edge_to}
use Rattle.paths.specs.Peel.{GoesRound, Circles, Winds}
use Rattle.reads.specs.ReadTable.{row_length}
use Rattle.paths.proofs.SlotKinds.{SlotKind, is_inside, is_across, is_opening, is_closing, any_slot}

-- the numbers of edges and nodes are small
pub slots_few : (s : List ℕ) → Reads s → all_slots s ≤ most_edges
slots_few s r =
    omega (arith, r.arcs.header.vertices_room, r.arcs.header.arcs_room, prepared_fewer (graph_of s).reads, (graph_room s r).reads)

module _ (s : List ℕ) (reads : Reads s) where
  abbrev rises : All (Rises (length (graph_of s).vertices)) (graph_of s).arcs
  rises = (graph_well_formed s reads).rises

  read_of_graph : (r : List ℕ) → 2 ≤ length r → T (linked (graph_of s).arcs r) → OfGraph (graph_of s) (reading r)
  read_of_graph [] b l = omega arith
  read_of_graph (v ∷ []) b l = absurd (omega arith)
  read_of_graph (v ∷ w ∷ r) b l =
      let h = arc_rises (length (graph_of s).vertices) (graph_of s).arcs v w rises (linked_first (graph_of s).arcs v w r l) in
      (omega arith, l)

  -- a link in use is one of the graph's
  of_graph : (e : ℕ) → e < all_slots s → T (in_use s (link_at s e)) → OfGraph (graph_of s) (link_at s e)
  unfolding in_use
  of_graph e b t = go (any_slot s e)
    where
      kind : SlotKind s e → OfGraph (graph_of s) (link_at s e)
      kind (is_inside v h _ i) = rw i (omega (arith, vertices_length s))
      kind (is_across a h _ i) = rw i (arc_there s a h)
      kind (is_opening v _ _ i) = rw i (and_l (is_start (graph_of s) v) (useful (graph_of s) v) (subst (λ (l : Link). T (in_use s l)) i t))
      kind (is_closing v _ _ i) = rw i (and_l (is_end (graph_of s) v) (useful (graph_of s) v) (subst (λ (l : Link). T (in_use s l)) i t))

      go : ((e < plain_slots s) × SlotKind s e) ⊎ ((r : ℕ) × (e ≡ reading_slot s r) × (link_at s e ≡ reading (get_or (prepared_of s) r []))) →
          OfGraph (graph_of s) (link_at s e)
      go (inl (_, k)) = kind k
      go (inr (r, q, i)) =
          rw i
          (let h = at_all (λ (r : List ℕ). (2 ≤ length r) × T (linked (graph_of s).arcs r)) [] (prepared_of s) (prepared_linked (graph_of s) (graph_well_formed s reads)) r (omega arith) in
          read_of_graph (get_or (prepared_of s) r []) h.0 h.1)

  -- a link of the graph leads back to the root, or rises
  abbrev finish : ℕ
  finish = in_node (length (graph_of s).vertices)

  Ways : Link → Type 0
  Ways l =
      ((link_to 0 l ≡ 0) × (1 ≤ link_from l) × (link_from l < finish) × (link_to finish l ≡ finish)) ⊎
      ((link_from l < link_to 0 l) × (link_to 0 l < finish) × (link_to finish l ≡ link_to 0 l))

  ways : (l : Link) → OfGraph (graph_of s) l → Ways l
  unfolding Ways
  ways (opening v) t = let b = start_below (graph_of s) v t in inr (omega arith, omega arith, refl)
  ways (closing v) t = let h = link_rises (graph_of s) (λ v. Unit {0}) (λ v. Unit {0}) rises (closing v) t in inl (refl, omega arith, omega arith, refl)
  ways (inside v) t = inr (omega arith, omega arith, refl)
  ways (across u v) t =
      let b = arc_rises (length (graph_of s).vertices) (graph_of s).arcs u v rises t in inr (omega arith, omega arith, refl)
  ways (reading []) t = absurd t
  ways (reading (v ∷ r)) t =
      let h = link_rises (graph_of s) (λ v. Unit {0}) (λ v. Unit {0}) rises (reading (v ∷ r)) t in inr (omega arith, omega arith, refl)

  module _ (N : ℕ) (from to load : List ℕ) (goes : GoesRound s N from to load) (e : ℕ) (b : e < all_slots s) (l : 1 ≤ nth load e) where
    edge_from_lem : nth from e ≡ link_from (link_at s e)
    unfolding edge_from
    edge_from_lem = goes.from_right e b ∙ ap (λ (t : Bool). cond t (link_from (link_at s e)) 0) (is_true (in_use s (link_at s e)) (goes.links_in_use e b l))

    edge_to_lem : nth to e ≡ link_to 0 (link_at s e)
    unfolding edge_to
    edge_to_lem = goes.to_right e b ∙ ap (λ (t : Bool). cond t (link_to 0 (link_at s e)) 0) (is_true (in_use s (link_at s e)) (goes.links_in_use e b l))

    edge_ways : Ways (link_at s e)
    edge_ways = ways (link_at s e) (of_graph e b (goes.links_in_use e b l))

  -- loads that go round make a bare network that does
  pub circles : (from to load : List ℕ) → GoesRound s (2 * vertex_count s + 1) from to load → Circles (2 * vertex_count s + 1) (all_slots s) from to load
  unfolding Ways
  circles from to load goes =
      record {
        from_node = λ e b l. rw (edge_from_lem _ from to load goes e b l)
            (⊎_elim (λ h. omega (arith, vertices_length s)) (λ h. omega (arith, vertices_length s)) (edge_ways _ from to load goes e b l));
        to_node = λ e b l. rw (edge_to_lem _ from to load goes e b l)
            (⊎_elim (λ h. omega (arith, vertices_length s)) (λ h. omega (arith, vertices_length s)) (edge_ways _ from to load goes e b l));
        rises = λ e b l. rw (edge_from_lem _ from to load goes e b l, edge_to_lem _ from to load goes e b l)
            (⊎_elim (λ h. inl (h.0, h.1)) (λ h. inr h.0) (edge_ways _ from to load goes e b l));
        balance = goes.balance;
      }

  -- what is known of the first and the last vertex of a walk: their opening and closing carried something at first
  abbrev pub OpensAt : List ℕ → ℕ → Type 0
  OpensAt load₀ v = 1 ≤ nth load₀ (opening_slot s v)

  abbrev pub ClosesAt : List ℕ → ℕ → Type 0
  ClosesAt load₀ v = 1 ≤ nth load₀ (closing_slot s v)

  used_link : (load₀ : List ℕ) (e : ℕ) → 1 ≤ nth load₀ e → Used (OpensAt load₀) (ClosesAt load₀) (link_at s e)
  used_link load₀ e l = ⊎_elim (λ k. kind k.1) (λ r. rw r.2 tt) (any_slot s e)
    where
      kind : SlotKind s e → Used (OpensAt load₀) (ClosesAt load₀) (link_at s e)
      kind (is_inside v _ _ i) = rw i tt
      kind (is_across a _ _ i) = rw i tt
      kind (is_opening v _ q i) = rw i (subst (λ (k : ℕ). 1 ≤ nth load₀ k) q l)
      kind (is_closing v _ q i) = rw i (subst (λ (k : ℕ). 1 ≤ nth load₀ k) q l)

  module _ (from to load load₀ : List ℕ) (goes : GoesRound s (2 * vertex_count s + 1) from to load)
      (below : (e : ℕ) → e < all_slots s → nth load e ≤ nth load₀ e) where
    leads : (u : ℕ) (ws : List ℕ) → Winds from to u ws → All (λ e. (e < all_slots s) × (1 ≤ nth load e)) ws →
        Leads (graph_of s) (OpensAt load₀) (ClosesAt load₀) u (map (link_at s) ws)
    unfolding Ways
    leads u [] w h = absurd w
    leads u (e ∷ es) (f, inl (z, q)) ((b, l), h) = (
      sym (edge_from_lem _ from to load goes e b l) ∙ f,
      (of_graph e b (goes.links_in_use e b l), used_link load₀ e (omega (arith, below e b))),
      rw q (⊎_elim (λ k. k.3) (λ k. absurd (omega (arith, edge_to_lem _ from to load goes e b l))) (edge_ways _ from to load goes e b l)),
    )
    leads u (e ∷ es) (f, inr (g, w)) ((b, l), h) = (
      sym (edge_from_lem _ from to load goes e b l) ∙ f,
      (of_graph e b (goes.links_in_use e b l), used_link load₀ e (omega (arith, below e b))),
      subst (λ (x : ℕ). Leads (graph_of s) (OpensAt load₀) (ClosesAt load₀) x (map (link_at s) es))
          (edge_to_lem _ from to load goes e b l ∙ ⊎_elim (λ k. absurd (omega (arith, edge_to_lem _ from to load goes e b l))) (λ k. sym k.2) (edge_ways _ from to load goes e b l))
          (leads (nth to e) es w h),
    )

    -- a walk from the root back to it is a path from a start to an end
    pub whole : (ws : List ℕ) → Winds from to 0 ws → All (λ e. (e < all_slots s) × (1 ≤ nth load e)) ws →
        IsWhole (graph_of s) (OpensAt load₀) (ClosesAt load₀) rises (map (link_at s) ws)
    whole ws w h = whole_walk (graph_of s) (OpensAt load₀) (ClosesAt load₀) rises (map (link_at s) ws) (leads 0 ws w h)

  -- a path rises below the number of vertices, so it is no longer
  linked_short : (v : ℕ) (p : List ℕ) → v < length (graph_of s).vertices → T (linked (graph_of s).arcs (v ∷ p)) → v + length p < length (graph_of s).vertices
  linked_short v [] b l = omega arith
  linked_short v (w ∷ p) b l =
      let h = arc_rises (length (graph_of s).vertices) (graph_of s).arcs v w rises (linked_first (graph_of s).arcs v w p l) in
      omega (arith, linked_short w p h.1 (linked_rest (graph_of s).arcs v w p l))

  pub path_short : (p : List ℕ) → T (is_path (graph_of s) p) → length p ≤ row_length
  path_short [] t = absurd t
  path_short (v ∷ p) t =
      omega (
        arith,
        linked_short v p (start_below (graph_of s) v (path_start (graph_of s) v p t)) (path_linked (graph_of s) v p t),
        vertices_length s,
        reads.arcs.header.vertices_room,
      )
