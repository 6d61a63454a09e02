-- Laws of the stages of a build: one for what each stage hands on, over plain lists.
use Prim.Native.Nat.{ℕ, zero, suc, ◌+◌, ◌*◌, ◌≤◌, ◌<◌}
use native.Mathlib.Omega.{arith}
use mathlib.Core.Path.{◌≡◌, refl, sym, ap, subst, subst₂, ◌∙◌}
use mathlib.Core.List.{List}
use mathlib.Core.Bool.{Bool, cond}
use mathlib.Core.Logic.{⊎_elim}
use borrow.Author.Tests.{eq-eqb, ne_eqb}
use lib.Dec.{eqb}
use lib.ListN.{length, set, replicate, length-set, length-replicate, get_or-replicate}
use lib.Seq.{get_or-set_same, get_or-set_other}
use Rattle.mathematics.specs.Exists.{Coverable}
use Rattle.mathematics.specs.Prepare.{prepare}
use Rattle.forms.specs.GraphForm.{vertex_count}
use Rattle.forms.specs.GraphOf.{graph_of}
use Rattle.forms.specs.GraphReads.{Reads}
use Rattle.reads.specs.ReadTable.{rows_of, Leaves, table_rows}
use Rattle.certify.specs.Certify.{ReadsCounted, CountsLow}
use Rattle.reads.proofs.TableRows.{table_length}
use Rattle.network.specs.Network.{nth, sum_to, leaving, entering, base, Keys, Chained, Shape, Waiting, Carried, most_nodes, most_edges, most_moved, Summable}
use Rattle.paths.specs.Slots.{prepared_of, plain_slots, all_slots}
use Rattle.wiring.specs.Lay.{EdgesLaid, LoadsLaid, Balanced}
use Rattle.paths.specs.Peel.{opens_at, worth_of, Ready}
use Rattle.builder.specs.Finish.{Added, Loaded, Flowed}
use Rattle.builder.specs.Stages.{ReadsReady, Layable, NetworkLaid, OneAdded, dropped, joined, Adding, AtBase}
use Rattle.forms.specs.Limits.{room_vertices, room_arcs, max_demand}
use Rattle.network.proofs.NetworkLaws.{same_or_not}
use Rattle.wiring.proofs.Shape.{shape_of_graph, ends_live, first_loads_in_use, loads_low, summable, balance_sums, ready_to_carry}
use Rattle.wiring.proofs.SlotLaws.{opens_worth}
use Rattle.builder.proofs.FinishLawsFlow.{flowed}

-- ---- the reads

-- a table holds as many reads as it counts
pub leaves_count : (rows : List (List ℕ)) (lens : List ℕ) (count : ℕ) (rs : List (List ℕ)) → Leaves rows lens count rs → count ≡ length rs
leaves_count rows lens count rs L = sym (table_length rows lens count L.table) ∙ ap length L.reads

pub reads_ready : (s : List ℕ) (r₁ r₂ : List (List ℕ)) (l₁ l₂ : List ℕ) (all count : ℕ) (vertex_reads arc_reads : List ℕ) →
    Leaves r₁ l₁ all (graph_of s).reads → Leaves r₂ l₂ count (prepare (rows_of r₁ l₁ all)) → ReadsCounted s (rows_of r₂ l₂ count) vertex_reads arc_reads →
    ReadsReady s r₂ l₂ count vertex_reads arc_reads
reads_ready s r₁ r₂ l₁ l₂ all count vertex_reads arc_reads A B C =
    let L : Leaves r₂ l₂ count (prepared_of s) = subst (λ rs. Leaves r₂ l₂ count (prepare rs)) A.reads B in
    let D : ReadsCounted s (prepared_of s) vertex_reads arc_reads = subst (λ rs. ReadsCounted s rs vertex_reads arc_reads) L.reads C in
    record { table = L; vertices = record { each = D.vertices }; arcs = record { each = D.arcs } }

-- ---- arrays as they are made

pub zeros : (n u : ℕ) → nth (replicate n 0) u ≡ 0
zeros zero u = refl
zeros (suc n) zero = refl
zeros (suc n) (suc u) = zeros n u

pub blank_counts : (s : List ℕ) → CountsLow s (replicate room_vertices 0) (replicate room_arcs 0) 0
blank_counts s =
    record {
      vertices_long = length-replicate {A = ℕ} room_vertices 0;
      arcs_long = length-replicate {A = ℕ} room_arcs 0;
      vertices = λ v h. omega (arith, zeros room_vertices v);
      arcs = λ a h. omega (arith, zeros room_arcs a);
    }

pub all_base : AtBase (replicate most_nodes base)
all_base = record { long = length-replicate {A = ℕ} most_nodes base; each = λ u h. get_or-replicate {A = ℕ} most_nodes u base 0 h }

-- ---- adding loads

module _ (from to load first : List ℕ) where
  pub adding_none : length load ≡ most_edges → length first ≡ most_edges → Adding 0 from to load first load first
  adding_none a b =
      record {
        added_long = a;
        full_long = b;
        added_is = λ e h. absurd (omega arith);
        full_is = λ e h. absurd (omega arith);
        load_kept = λ e h. refl;
        full_kept = λ e h. refl;
      }

  pub adding_more : (k : ℕ) (added full added' full' : List ℕ) → k < most_edges → Adding k from to load first added full → OneAdded k from to added full added' full' →
      Adding (k + 1) from to load first added' full'
  adding_more k added full added' full' h A (dropped loop ea ef) =
      rw (ea, ef) (record {
        added_long = length-set added k 0 ∙ A.added_long;
        full_long = A.full_long;
        added_is = λ e l. ⊎_elim
            (λ q. subst (λ j. nth (set added k 0) j ≡ cond (eqb (nth from j) (nth to j)) 0 (nth load j)) (sym q)
            (get_or-set_same added k 0 0 (omega (arith, A.added_long)) ∙ sym (ap (λ t. cond t 0 (nth load k)) (eq-eqb (nth from k) (nth to k) loop))))
            (λ ne. get_or-set_other added k e 0 0 ne ∙ A.added_is e (omega arith)) (same_or_not e k);
        full_is = λ e l. ⊎_elim
            (λ q. let a = get_or-set_same added k 0 0 (omega (arith, A.added_long)) in
            subst (λ j. nth full j ≡ nth first j + nth (set added k 0) j) (sym q) (omega (arith, A.full_kept k (omega arith))))
            (λ ne. A.full_is e (omega arith) ∙ ap (λ x. nth first e + x) (sym (get_or-set_other added k e 0 0 ne))) (same_or_not e k);
        load_kept = λ e l. get_or-set_other added k e 0 0 (λ q. omega arith) ∙ A.load_kept e (omega arith);
        full_kept = λ e l. A.full_kept e (omega arith);
      })
  adding_more k added full added' full' h A (joined apart ea ef) =
      rw (ea, ef) (record {
        added_long = A.added_long;
        full_long = length-set full k (nth full k + nth added k) ∙ A.full_long;
        added_is = λ e l. ⊎_elim
            (λ q. subst (λ j. nth added j ≡ cond (eqb (nth from j) (nth to j)) 0 (nth load j)) (sym q)
            (A.load_kept k (omega arith) ∙ sym (ap (λ t. cond t 0 (nth load k)) (ne_eqb (nth from k) (nth to k) apart))))
            (λ ne. A.added_is e (omega arith)) (same_or_not e k);
        full_is = λ e l. ⊎_elim
            (λ q. let a = get_or-set_same full k (nth full k + nth added k) 0 (omega (arith, A.full_long)) in
            subst (λ j. nth (set full k (nth full k + nth added k)) j ≡ nth first j + nth added j) (sym q) (omega (arith, A.full_kept k (omega arith))))
            (λ ne. get_or-set_other full k e (nth full k + nth added k) 0 ne ∙ A.full_is e (omega arith)) (same_or_not e k);
        load_kept = λ e l. A.load_kept e (omega arith);
        full_kept = λ e l. get_or-set_other full k e (nth full k + nth added k) 0 (λ q. omega arith) ∙ A.full_kept e (omega arith);
      })

  pub adding_done : (k plain : ℕ) (added full : List ℕ) → k ≤ plain → plain ≤ k → Adding k from to load first added full → Added plain from to load first added full
  adding_done k plain added full a b A =
      record {
        long = A.full_long;
        added_is = λ e h. A.added_is e (omega arith);
        full_is = λ e h. A.full_is e (omega arith);
        kept = λ e h. A.full_kept e (omega arith);
      }

-- ---- the network

pub edges_none : (s from to cost : List ℕ) → length from ≡ most_edges → length to ≡ most_edges → length cost ≡ most_edges → EdgesLaid s 0 from to cost
edges_none s from to cost a b c =
    record { from_long = a; to_long = b; cost_long = c; from_is = λ e h. absurd (omega arith); to_is = λ e h. absurd (omega arith); cost_is = λ e h. absurd (omega arith) }

pub loads_none : (s load : List ℕ) → length load ≡ most_edges → LoadsLaid s 0 load
loads_none s load a = record { long = a; is = λ e h. absurd (omega arith) }

-- the numbers of nodes and edges, as the network has them
module _ (s : List ℕ) (N E count : ℕ) (en : N ≡ 2 * vertex_count s + 1) (ee : E ≡ plain_slots s) (ec : count ≡ length (prepared_of s)) where
  edges_are : E + count ≡ all_slots s
  edges_are = omega arith

  pub laid_summable : Reads s → Coverable (graph_of s) → (from to cost first : List ℕ) → EdgesLaid s (all_slots s) from to cost → LoadsLaid s (all_slots s) first →
      Summable N (E + count) from to first
  laid_summable r c from to cost first D F = rw (en, edges_are) (summable s r c from to cost first D F)

  pub laid_balance : (from to first surplus deficit : List ℕ) → Balanced N (E + count) from to first surplus deficit →
      Balanced (2 * vertex_count s + 1) (all_slots s) from to first surplus deficit
  laid_balance from to first surplus deficit B = rw (← en, ← edges_are) B

module _ (s : List ℕ) (kept : List Bool) (Y : Layable s kept) where
  module _ (from to cost first : List ℕ) (live : List Bool) (surplus deficit : List ℕ) (L : NetworkLaid s from to cost first live surplus deficit) where
    pub laid_shape : Shape (2 * vertex_count s + 1) (plain_slots s) live from to cost
    laid_shape = shape_of_graph s Y.reads (all_slots s) (omega arith) from to cost L.edges live L.nodes

    pub laid_waiting : (load mark : List ℕ) → length load ≡ most_edges → length mark ≡ most_nodes → ((e : ℕ) → e < plain_slots s → nth load e ≡ 0) → ((u : ℕ) → u < most_nodes → nth mark u ≡ base) →
        Waiting (2 * vertex_count s + 1) (plain_slots s) live load mark surplus deficit
    laid_waiting load mark a b c d =
        let few = Y.reads.arcs.header.vertices_room in
        ready_to_carry s Y.reads Y.coverable from to cost first L.edges L.loads live L.nodes surplus deficit L.balance load mark a b c (λ u h. d u (omega arith))

    -- the first loads are low
    pub first_low : (e : ℕ) → e < plain_slots s → nth first e ≤ max_demand
    first_low e h = loads_low s Y.reads Y.coverable from to cost first L.edges L.loads e (omega arith)

    module _ (load mark : List ℕ)
        (C : (given wanted : ℕ → ℕ) → ((u : ℕ) → u < 2 * vertex_count s + 1 → nth surplus u + wanted u ≡ nth deficit u + given u) →
        Carried (2 * vertex_count s + 1) (plain_slots s) live from to cost load mark given wanted (sum_to (2 * vertex_count s + 1) (λ u. nth surplus u))) where
      carried : Carried (2 * vertex_count s + 1) (plain_slots s) live from to cost load mark (λ u. entering to first (all_slots s) u) (λ u. leaving from first (all_slots s) u)
          (sum_to (2 * vertex_count s + 1) (λ u. nth surplus u))
      carried = C (λ u. entering to first (all_slots s) u) (λ u. leaving from first (all_slots s) u) L.balance.balance

      pub both_low : (e : ℕ) → e < plain_slots s → (nth load e ≤ most_moved) × (nth first e ≤ max_demand)
      both_low e h = (carried.few e h, first_low e h)

      -- what the flow leaves
      pub all_flowed : (added full : List ℕ) → Added (plain_slots s) from to load first added full → Flowed s from to mark full
      all_flowed added full A =
          flowed s Y.reads from to cost first load mark added full live (sum_to (2 * vertex_count s + 1) (λ u. nth surplus u)) L.edges L.loads
          (first_loads_in_use s Y.reads Y.coverable)
          (λ e h. subst (λ x. x ≤ max_demand) (L.loads.is e h) (loads_low s Y.reads Y.coverable from to cost first L.edges L.loads e h)) L.nodes carried
          (balance_sums s Y.reads Y.coverable from to cost first L.edges L.loads live L.nodes surplus deficit L.balance).1 A

-- the same by the numbers of nodes and edges that the network has
module _ (s : List ℕ) (kept : List Bool) (Y : Layable s kept) (N E : ℕ) (en : N ≡ 2 * vertex_count s + 1) (ee : E ≡ plain_slots s) (from to cost first : List ℕ)
    (live : List Bool) (surplus deficit : List ℕ) (L : NetworkLaid s from to cost first live surplus deficit) where
  pub to_carry : (load mark : List ℕ) → length load ≡ most_edges → ((e : ℕ) → nth load e ≡ 0) → AtBase mark →
      Shape N E live from to cost × Waiting N E live load mark surplus deficit
  to_carry load mark a c b = (
    subst₂ (λ (x y : ℕ). Shape x y live from to cost) (sym en) (sym ee) (laid_shape s kept Y from to cost first live surplus deficit L),
    subst₂ (λ (x y : ℕ). Waiting x y live load mark surplus deficit) (sym en) (sym ee)
        (laid_waiting s kept Y from to cost first live surplus deficit L load mark a b.long (λ e h. c e) b.each),
  )

  pub few_edges : E ≤ most_edges
  few_edges = let h = Y.reads.arcs.header in omega (arith, h.vertices_room, h.arcs_room)

  module _ (load mark : List ℕ)
      (C : (given wanted : ℕ → ℕ) → ((u : ℕ) → u < N → nth surplus u + wanted u ≡ nth deficit u + given u) →
      Carried N E live from to cost load mark given wanted (sum_to N (λ u. nth surplus u))) where
    moved : (given wanted : ℕ → ℕ) → ((u : ℕ) → u < 2 * vertex_count s + 1 → nth surplus u + wanted u ≡ nth deficit u + given u) →
        Carried (2 * vertex_count s + 1) (plain_slots s) live from to cost load mark given wanted (sum_to (2 * vertex_count s + 1) (λ u. nth surplus u))
    moved =
        subst₂
        (λ (x y : ℕ). (given wanted : ℕ → ℕ) → ((u : ℕ) → u < x → nth surplus u + wanted u ≡ nth deficit u + given u) →
        Carried x y live from to cost load mark given wanted (sum_to x (λ u. nth surplus u)))
        en ee C

    pub to_add : (e : ℕ) → e < E → (nth load e ≤ most_moved) × (nth first e ≤ max_demand)
    to_add e l = both_low s kept Y from to cost first live surplus deficit L load mark moved e (omega arith)

    pub flow_done : (added full : List ℕ) → Added E from to load first added full → Flowed s from to mark full
    flow_done added full A =
        all_flowed s kept Y from to cost first live surplus deficit L load mark moved added full
        (subst (λ (y : ℕ). Added y from to load first added full) ee A)

-- ---- the paths

module _ (s : List ℕ) (right : Reads s) (c : Coverable (graph_of s)) (N E count : ℕ) (en : N ≡ 2 * vertex_count s + 1) (ee : E ≡ plain_slots s)
    (ec : count ≡ length (prepared_of s)) (from to full : List ℕ) (L : Loaded s from to full) where
  pub all_keys : count ≤ table_rows → Keys N (E + count) from
  all_keys few =
      let h = right.arcs.header in
      record {
        few_nodes = omega (arith, h.vertices_room);
        few_edges = omega (arith, h.vertices_room, h.arcs_room);
        key_node = λ e l. omega (arith, L.goes.from_right e (omega arith), (ends_live s right c e (omega arith)).0.0);
      }

  pub peel_ready : {n : ℕ} → n ≡ vertex_count s → (rows : List (List ℕ)) (lens head next : List ℕ) → Leaves rows lens count (prepared_of s) →
      Chained N (E + count) from head next → Ready s n E N (E + count) from head next rows lens
  peel_ready e rows lens head next T C =
      record {
        reads = right;
        held = record {
          vertices_right = e;
          few_vertices = omega (arith, right.arcs.header.vertices_room);
          plain_right = ee;
          table = subst (λ k. Leaves rows lens k (prepared_of s)) ec T;
        };
        nodes_right = en;
        edges_right = omega arith;
        chained = C;
      }

  pub opens_few : worth_of s full (opens_at s) ≤ most_moved
  opens_few = omega (arith, opens_worth s full, L.few)
