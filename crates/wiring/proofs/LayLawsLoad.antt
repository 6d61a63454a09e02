-- Laws of laying the first loads and the live nodes of a graph form: a store lays one more.
use Rattle.std.proofs.Common.{ℕ, suc, ◌+◌, ◌*◌, ◌-◌, ◌/◌, ◌≤◌, ◌<◌, ◌≡◌, refl, sym, ap, ap₂, subst, ◌∙◌, List, ◌++◌, Bool, true, false, cond, ltb, length, get_or, set, take, drop, replicate, arith, add-one, le-ltb, lt-ltb, length-take, length-take-le, length-drop, get_or-take}
use Rattle.std.proofs.Math.Decide.{dec_lt}
use Rattle.std.proofs.Math.ListN.{get_or-append, length-replicate}
use Rattle.std.proofs.Math.Seq.{get_or-append_right}
use Rattle.std.proofs.lemmas.List.{get_or-replicate}
use borrow.Rule.Slice.PartMut.{put_mid, same_len_mid}
use Rattle.mathematics.specs.Reach.{useful}
use Rattle.forms.specs.GraphForm.{vertex_count, arc_count, vertex_demand, arc_at, arc_demand}
use Rattle.forms.specs.GraphOf.{graph_of}
use Rattle.paths.specs.Slots.{plain_slots, all_slots, prepared_of, across_slot, first_load, live_node}
use Rattle.reach.specs.Reached.{FormSizes, Tells}
use Rattle.wiring.specs.Lay.{VerticesCounted, ArcsCounted, LoadsLaid, LiveLaid}
use Rattle.network.specs.Network.{nth, most_nodes, most_edges}
use Rattle.reads.specs.ReadTable.{table_rows}
use Rattle.forms.specs.Limits.{room_vertices}
use Rattle.forms.proofs.Filling.{Filled, fill_none, fill_more}
use Rattle.wiring.proofs.SlotLaws.{first_inside, first_across}
use Rattle.wiring.proofs.LayLaws.{few_plain}

-- ---- loads

load_more : {s load : List ℕ} {e x : ℕ} → LoadsLaid s e load → e < most_edges → x ≡ first_load s e → LoadsLaid s (e + 1) (set load e x)
load_more {s} {load} l room is =
    let f : Filled most_edges 0 (first_load s) (set load _ _) (_ + 1) = fill_more {xs = load} (record { long = l.long; each = l.is }) room is in
    record { long = f.long; is = f.each }

pub loads_at : {s load : List ℕ} {k j : ℕ} → LoadsLaid s k load → k ≡ j → LoadsLaid s j load
loads_at {s} {load} l e = subst (λ i. LoadsLaid s i load) e l

-- a run of stores of the same number
fill_run : {size v : ℕ} (a k : ℕ) {f : ℕ → ℕ} {xs ys : List ℕ} → Filled size 0 f xs a → a + k ≤ size → ys ≡ replicate k v → ((e : ℕ) → a ≤ e → e < a + k → f e ≡ v) →
    Filled size 0 f (put_mid a k xs ys) (a + k)
fill_run {size} {v} a k {f} {xs} {ys} h room is same =
    record {
      long = same_len_mid a k xs ys (omega (arith, many, length-take k (drop a xs), length-drop a xs, h.long)) ∙ h.long;
      each =
          λ e l.
          elim (dec_lt e a) [
            | yes b ↦ get_or-append (take a xs) (ys ++ drop k (drop a xs)) 0 e (omega (arith, front)) ∙ get_or-take a xs e 0 b ∙ h.each e b
            | no b ↦
                get_or-append_right (take a xs) (ys ++ drop k (drop a xs)) e 0 (omega (arith, front))
                ∙ get_or-append ys (drop k (drop a xs)) 0 (e - length (take a xs)) (omega (arith, front, many))
                ∙ ap (λ (zs : List ℕ). nth zs (e - length (take a xs))) is
                ∙ get_or-replicate k (e - length (take a xs)) v 0 (omega (arith, front))
                ∙ sym (same e (omega arith) l)
          ];
    }
  where
    front : length (take a xs) ≡ a
    front = length-take-le a xs (omega (arith, h.long))

    many : length ys ≡ k
    many = ap length is ∙ length-replicate k v

-- behind the arcs lies nothing, and one unit on each read
pub first_behind : (s : List ℕ) (e : ℕ) → vertex_count s + arc_count s ≤ e → first_load s e ≡ cond (ltb e (plain_slots s)) 0 1
unfolding first_load
first_behind s e l = rw (le-ltb e (vertex_count s) (omega arith), le-ltb e (vertex_count s + arc_count s) l)

-- the loads behind those of the arcs, in two runs: of nothing, and of one unit on each read
pub load_behind : {s : List ℕ} {n m count j k : ℕ} {load none ones : List ℕ} → FormSizes s n m → LoadsLaid s (vertex_count s + arc_count s) load → count ≡ length (prepared_of s) → count ≤ table_rows →
    none ≡ replicate j 0 → j ≡ 2 * n → ones ≡ replicate k 1 → k ≡ count → LoadsLaid s (all_slots s) (put_mid (3 * n + m) k (put_mid (n + m) j load none) ones)
load_behind {s} {n} {m} {count} {j} {k} {load} {none} {ones} c l many few is ej run ek =
    let room = few_plain c.reads in
    let laid : Filled most_edges 0 (first_load s) load (n + m) = subst (Filled most_edges 0 (first_load s) load) (ap₂ (λ (a b : ℕ). a + b) (sym c.vertices) (sym c.arcs)) (record { long = l.long; each = l.is }) in
    let idle = fill_run (n + m) j laid (omega (arith, room, c.vertices, c.arcs)) is
    (λ e low high. first_behind s e (omega (arith, c.vertices, c.arcs)) ∙ ap (λ t. cond t 0 1) (lt-ltb e (plain_slots s) (omega (arith, c.vertices, c.arcs)))) in
    let at : n + m + j ≡ 3 * n + m = omega arith in
    let full = fill_run (3 * n + m) k (subst (Filled most_edges 0 (first_load s) (put_mid (n + m) j load none)) at idle) (omega (arith, room, c.vertices, c.arcs)) run
    (λ e low high. first_behind s e (omega (arith, c.vertices, c.arcs)) ∙ ap (λ t. cond t 0 1) (le-ltb e (plain_slots s) (omega (arith, c.vertices, c.arcs)))) in
    let end : 3 * n + m + k ≡ all_slots s = omega (arith, c.vertices, c.arcs) in
    loads_at (record { long = full.long; is = full.each }) end

module _ {s : List ℕ} {n m : ℕ} (c : FormSizes s n m) {load : List ℕ} {e : ℕ} (l : LoadsLaid s e load) {x : ℕ} where
  pub load_vertex : {passed : List ℕ} → VerticesCounted s passed → e < n → {demand : ℕ} → demand ≡ vertex_demand s e → x ≡ demand - get_or passed e 0 →
      LoadsLaid s (e + 1) (set load e x)
  load_vertex p low d is =
      let h : e < vertex_count s = omega (arith, c.vertices) in
      load_more l (omega (arith, few_plain c.reads)) (is ∙ ap₂ (λ (a b : ℕ). a - b) d (p.each e h) ∙ sym (first_inside s e h))

  pub load_arc : {passed : List ℕ} → ArcsCounted s passed → n ≤ e → e < n + m → {demand : ℕ} →
      demand ≡ arc_demand s (arc_at s (n + m - (e + 1))) → x ≡ demand - get_or passed (n + m - (e + 1)) 0 → LoadsLaid s (e + 1) (set load e x)
  load_arc p low high d is =
      let a : ℕ = n + m - (e + 1) in
      let h : a < arc_count s = omega (arith, c.arcs) in
      let q : e ≡ across_slot s a = omega (arith, c.vertices, c.arcs) in
      load_more l (omega (arith, few_plain c.reads, c.vertices, c.arcs))
      (is ∙ ap₂ (λ (a b : ℕ). a - b) d (p.each a h) ∙ sym (ap (first_load s) q ∙ first_across s a h))

-- ---- live nodes

-- a side of a vertex is live where the vertex is useful
pub live_in : (s : List ℕ) (v : ℕ) → live_node s (2 * v + 1) ≡ useful (graph_of s) v
unfolding live_node
live_in s v = let h : 2 * v / 2 ≡ v = omega arith in ap (live_node s) (add-one (2 * v)) ∙ ap (useful (graph_of s)) h

pub live_out : (s : List ℕ) (v : ℕ) → live_node s (2 * v + 2) ≡ useful (graph_of s) v
unfolding live_node
live_out s v =
    let q : 2 * v + 2 ≡ suc (2 * v + 1) = omega arith in
    let h : (2 * v + 1) / 2 ≡ v = omega arith in
    ap (live_node s) q ∙ ap (useful (graph_of s)) h

pub live_root : (s : List ℕ) → live_node s 0 ≡ true
unfolding live_node
live_root s = refl

as_live : {s : List ℕ} {k : ℕ} {live : List Bool} → Filled most_nodes false (live_node s) live k → LiveLaid s k live
as_live f = record { long = f.long; is = f.each }

pub live_none : {s : List ℕ} (live : List Bool) → length live ≡ most_nodes → LiveLaid s 1 (set live 0 true)
live_none {s} live long = as_live (fill_more {xs = live} {i = 0} (fill_none long) (omega arith) (sym (live_root s)))

pub live_more : {s : List ℕ} {kept : List Bool} → Tells s (useful (graph_of s)) kept → {v : ℕ} {live : List Bool} → LiveLaid s (2 * v + 1) live → v < vertex_count s → v < room_vertices →
    LiveLaid s (2 * (v + 1) + 1) (set (set live (2 * v + 1) (get_or kept v false)) (2 * v + 2) (get_or kept v false))
live_more {s} {kept} t {v} {live} l h low =
    let x = get_or kept v false in
    let one = fill_more {xs = live} {x = x} (record { long = l.long; each = l.is }) (omega arith) (t.says v h ∙ sym (live_in s v)) in
    let q : 2 * v + 1 + 1 ≡ 2 * v + 2 = omega arith in
    let two = fill_more {xs = set live (2 * v + 1) x} {x = x} (subst (Filled most_nodes false (live_node s) (set live (2 * v + 1) x)) q one) (omega arith) (t.says v h ∙ sym (live_out s v)) in
    let p : 2 * v + 2 + 1 ≡ 2 * (v + 1) + 1 = omega arith in
    as_live (subst (Filled most_nodes false (live_node s) (set (set live (2 * v + 1) x) (2 * v + 2) x)) p two)
