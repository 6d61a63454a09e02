-- One walk, from what taking paths off asks: the network that is walked, room for the walk's path, and what the walk leaves.
use Rattle.std.proofs.Common.{ℕ, ◌+◌, ◌*◌, ◌≤◌, ◌<◌, arith, mul-one, ◌≡◌, sym, ap, subst, subst₂, ◌∙◌, List, map, length}
use Rattle.mathematics.specs.Lists.{All}
use Rattle.mathematics.proofs.Basics.{all_weaken}
use Rattle.mathematics.proofs.Links.{opens, path_of, IsWhole}
use Rattle.forms.specs.GraphForm.{vertex_count}
use Rattle.forms.specs.GraphOf.{graph_of}
use Rattle.forms.proofs.GraphFacts.{graph_well_formed}
use Rattle.network.specs.Network.{nth, most_nodes, most_edges}
use Rattle.paths.specs.declared.collect.Paths.{Paths}
use Rattle.paths.specs.Slots.{all_slots, opening_slot, closing_slot, link_at}
use Rattle.paths.specs.Peel.{Collected, GoesRound, worth_of, Circles, Walked, TakenOff, Ready, opens_at, PeeledOne}
use Rattle.reads.specs.ReadTable.{row_length}
use Rattle.paths.proofs.PeelLawsLinks.{circles, whole, path_short, slots_few}
use Rattle.paths.proofs.PeelLawsAll.{sum_map}

module _ (s : List ℕ) (vertices plain nodes edges : ℕ) (from to head next load : List ℕ) (rows : List (List ℕ)) (lens : List ℕ)
    (ready : Ready s vertices plain nodes edges from head next rows lens) where
  pub ready_sizes : (nodes ≤ most_nodes) × (edges ≤ most_edges)
  ready_sizes = (
    omega (arith, ready.nodes_right, ready.held.vertices_right, ready.held.few_vertices),
    omega (arith, ready.edges_right, slots_few s ready.reads),
  )

  module _ (goes : GoesRound s (2 * vertex_count s + 1) from to load) where
    pub ready_circles : Circles nodes edges from to load
    ready_circles =
        subst₂ (λ (n e : ℕ). Circles n e from to load) (sym ready.nodes_right) (sym ready.edges_right)
        (circles s ready.reads from to load goes)

    module _ (ws : List ℕ) (amount : ℕ) (walked : Walked edges from to load ws amount) where
      carries : All (λ e. (e < all_slots s) × (amount ≤ nth load e)) ws
      carries = subst (λ (n : ℕ). All (λ e. (e < n) × (amount ≤ nth load e)) ws) ready.edges_right walked.carries

      pub walk_edges : All (λ e. e < all_slots s) ws
      walk_edges = all_weaken _ _ ws (λ e h. h.0) carries

      is_whole : IsWhole (graph_of s) (λ v. 1 ≤ nth load (opening_slot s v)) (λ v. 1 ≤ nth load (closing_slot s v)) (graph_well_formed s ready.reads).rises
          (map (link_at s) ws)
      is_whole =
          whole s ready.reads from to load load goes (λ e b. omega arith) ws walked.winds
          (all_weaken _ _ ws (λ e h. (h.0, omega (arith, walked.some))) carries)

      pub walk_short : length (path_of (map (link_at s) ws)) ≤ row_length
      walk_short = path_short s ready.reads (path_of (map (link_at s) ws)) is_whole.is_a_path

      module _ (after : List ℕ) (off : TakenOff edges load ws amount after) where
        taken : TakenOff (all_slots s) load ws amount after
        taken = subst (λ (n : ℕ). TakenOff n load ws amount after) ready.edges_right off

        -- a walk opens as many copies as it takes off
        pub amount_low : amount ≤ worth_of s load (opens_at s)
        amount_low =
            omega (
              arith,
              taken.worths (opens_at s),
              ap (λ (n : ℕ). amount * n) (sym (sum_map opens (link_at s) ws) ∙ is_whole.opened) ∙ mul-one amount,
            )

        pub one_taken : (p : List ℕ) (before table : Paths) → p ≡ path_of (map (link_at s) ws) →
            Collected (record { weight = amount; path = p }) before table → PeeledOne s from to load after before table
        one_taken p before table e c =
            record {
              ws = ws;
              amount = amount;
              winds = walked.winds;
              carries = carries;
              some = walked.some;
              empties = walked.empties;
              taken = taken;
              kept = subst (λ (q : List ℕ). Collected (record { weight = amount; path = q }) before table) e c;
            }
