-- The graph that a form which reads stands for: no arc twice, well formed, costs hold, sizes within "Numbers allowed".
use Prim.Native.Nat.{ℕ, zero, suc, ◌+◌, ◌-◌, ◌*◌, ◌<◌, ◌≤◌, zero-le}
use native.Mathlib.Nat.{mul-zero, mul-suc, mul-le-mul_left}
use native.Mathlib.Omega.{arith}
use mathlib.Core.Path.{◌≡◌, refl, sym, ap, subst, ◌∙◌}
use mathlib.Core.List.{List, map}
use mathlib.Core.Logic.{◌≢◌, inl, inr}
use lib.Dec.{T, le→leb}
use lib.IntN.{ℤ}
use lib.ListN.{length, length-take, length-drop}
use Rattle.mathematics.specs.Lists.{All, Distinct}
use Rattle.mathematics.specs.Graph.{Arc, linked, Rises, WellFormed}
use Rattle.mathematics.specs.Price.{whole}
use Rattle.mathematics.specs.Range.{CostsHold}
use Rattle.mathematics.proofs.Basics.{all_map}
use Rattle.forms.specs.Bytes.{part, tabulate}
use Rattle.forms.specs.Limits.{room_read_length}
use Rattle.forms.specs.Layout.{max_vertices, max_read_length, count_bytes, longest_graph}
use Rattle.forms.specs.GraphForm.{vertex_count, arc_count, read_count, opening_price, arc_at, arc_tail, arc_head, arc_cost, first_read_at, read_length, read_vertices, read_end}
use Rattle.forms.specs.GraphOf.{vertex_of, arc_of, arcs_of, reads_from, graph_of}
use Rattle.forms.specs.GraphReads.{Before, ReadRight, ReadsRight, ArcsRight, Reads, Within, HasRoom}
use Rattle.forms.proofs.LayoutLaws.{graph_longest, vertex_grows}

-- a list made from numbers: its length, and what holds of each of its parts
module _ {A : Type 0} (g : ℕ → A) where
  pub length_tabulate : (n i : ℕ) → length (tabulate g n i) ≡ n
  length_tabulate zero i = refl
  length_tabulate (suc n) i = ap suc (length_tabulate n (suc i))

  pub all_tabulate : (P : A → Type 0) (n i : ℕ) → ((k : ℕ) → i ≤ k → k < i + n → P (g k)) → All P (tabulate g n i)
  all_tabulate P zero i h = tt
  all_tabulate P (suc n) i h = (h i (omega arith) (omega arith), all_tabulate P n (suc i) (λ k a b. h k (omega arith) (omega arith)))

  distinct_tabulate : {B : Type 0} (f : A → B) (n i : ℕ) → ((j k : ℕ) → j < k → k < i + n → f (g j) ≢ f (g k)) → Distinct (map f (tabulate g n i))
  distinct_tabulate f zero i h = tt
  distinct_tabulate f (suc n) i h = (
    all_map (λ y. f (g i) ≢ y) f (tabulate g n (suc i)) (all_tabulate (λ x. f (g i) ≢ f x) n (suc i) (λ k a b. h i k a (omega arith))),
    distinct_tabulate f n (suc i) (λ j k a b. h j k a (omega arith)),
  )

before_trans : (s : List ℕ) (a b c : ℕ) → Before s a b → Before s b c → Before s a c
before_trans s a b c (inl h) (inl k) = inl (omega arith)
before_trans s a b c (inl h) (inr k) = inl (omega arith)
before_trans s a b c (inr h) (inl k) = inl (omega arith)
before_trans s a b c (inr h) (inr k) = inr (h.0 ∙ k.0, omega arith)

not_before : (s : List ℕ) (a b : ℕ) → Before s a b → arc_tail s a ≡ arc_tail s b → arc_head s a ≡ arc_head s b → ⊥
not_before s a b (inl h) p q = omega arith
not_before s a b (inr h) p q = omega arith

module _ (s : List ℕ) (right : ArcsRight s) where
  earlier : (d a : ℕ) → suc (a + d) < arc_count s → Before s (arc_at s a) (arc_at s (suc (a + d)))
  earlier zero a h =
      let e : suc (a + 0) ≡ suc a = omega arith in
      subst (λ k. Before s (arc_at s a) (arc_at s k)) (sym e) (right.ascending a (omega arith))
  earlier (suc d) a h =
      let e : suc (suc (a + d)) ≡ suc (a + suc d) = omega arith in
      subst (λ k. Before s (arc_at s a) (arc_at s k)) e
      (before_trans s (arc_at s a) (arc_at s (suc (a + d))) (arc_at s (suc (suc (a + d)))) (earlier d a (omega arith)) (right.ascending (suc (a + d)) (omega arith)))

  -- two arcs do not have the same ends
  pub ends_differ : (j k : ℕ) → j < k → k < arc_count s → arc_tail s (arc_at s j) ≡ arc_tail s (arc_at s k) → arc_head s (arc_at s j) ≡ arc_head s (arc_at s k) → ⊥
  ends_differ j k h b p q =
      let e : suc (j + (k - suc j)) ≡ k = omega arith in
      not_before s (arc_at s j) (arc_at s k) (subst (λ x. Before s (arc_at s j) (arc_at s x)) e (earlier (k - suc j) j (omega arith))) p q

  -- "strictly ascending by tail, then head": no two arcs have the same ends
  pub no_arc_twice : Distinct {A = ℕ × ℕ} (map (λ (a : Arc ℤ). (a.tail, a.head)) (arcs_of s))
  no_arc_twice =
      distinct_tabulate (arc_of s) (λ (a : Arc ℤ). (a.tail, a.head)) (arc_count s) 0
      (λ j k h b e. ends_differ j k h (omega arith) (ap (λ (p : ℕ × ℕ). p.0) e) (ap (λ (p : ℕ × ℕ). p.1) e))

pub read_length_lem : (s : List ℕ) (at : ℕ) → ReadRight s at → length (read_vertices s at) ≡ read_length s at
unfolding part
read_length_lem s at r = simp (length-take, length-drop) (omega (arith, r.whole))

pub all_reads : (s : List ℕ) (P : List ℕ → Type 0) → ((at : ℕ) → ReadRight s at → P (read_vertices s at)) → (count at : ℕ) → ReadsRight s count at → All P (reads_from s count at)
all_reads s P h zero at r = tt
all_reads s P h (suc count) at r = (h at r.0, all_reads s P h count (read_end s at) r.1)

pub length_reads : (s : List ℕ) (count at : ℕ) → length (reads_from s count at) ≡ count
length_reads s zero at = refl
length_reads s (suc count) at = ap suc (length_reads s count (read_end s at))

-- what the theorems of the mathematics ask of a graph, every form that reads gives
pub graph_well_formed : (s : List ℕ) → Reads s → WellFormed (graph_of s)
unfolding graph_of
graph_well_formed s r =
    record {
      rises =
          all_tabulate (arc_of s) (Rises (length (tabulate (vertex_of s) (vertex_count s) 0))) (arc_count s) 0
          (λ a h b. let x = r.arcs.each a (omega arith) in (x.rises, omega (arith, x.inside, length_tabulate (vertex_of s) (vertex_count s) 0)));
      once = no_arc_twice s r.arcs;
      reads_linked =
          all_reads s (λ vs. (2 ≤ length vs) × T (linked (arcs_of s) vs))
          (λ at x. (omega (arith, x.not_short, read_length_lem s at x), x.arcs)) (read_count s) (first_read_at s) r.reads;
    }

-- opening price and arc costs of a form are numbers from 0 on
pub graph_costs_hold : (s : List ℕ) → CostsHold whole (graph_of s)
unfolding graph_of
graph_costs_hold s =
    record {
      opening_holds = le→leb 0 (opening_price s) zero-le;
      costs_hold = all_tabulate (arc_of s) _ (arc_count s) 0 (λ a h b. le→leb 0 (arc_cost s (arc_at s a)) zero-le);
    }

-- "Numbers allowed": vertices 1..64, arcs 0..256, reads 0..16 of 2 to 16 vertices, demands, costs and opening price in range
pub graph_within : (s : List ℕ) → Reads s → Within s (graph_of s)
unfolding graph_of
graph_within s r =
    let h = r.arcs.header in
    record {
      some_vertex = omega (arith, h.some_vertex, length_tabulate (vertex_of s) (vertex_count s) 0);
      few_vertices = omega (arith, h.few_vertices, length_tabulate (vertex_of s) (vertex_count s) 0);
      few_arcs = omega (arith, h.few_arcs, length_tabulate (arc_of s) (arc_count s) 0);
      few_reads = omega (arith, h.few_reads, length_reads s (read_count s) (first_read_at s));
      low_opening = record { number = opening_price s; is = refl; low = h.low_opening };
      vertex_demands = all_tabulate (vertex_of s) _ (vertex_count s) 0 (λ v a b. (r.vertices v (omega arith)).low_demand);
      arc_demands = all_tabulate (arc_of s) _ (arc_count s) 0 (λ a b c. (r.arcs.each a (omega arith)).low_demand);
      low_arc_costs =
          all_tabulate (arc_of s) _ (arc_count s) 0
          (λ a b c. record { number = arc_cost s (arc_at s a); is = refl; low = (r.arcs.each a (omega arith)).low_cost });
      short_reads =
          all_reads s (λ vs. length vs ≤ max_read_length s) (λ at x. omega (arith, x.not_long, read_length_lem s at x)) (read_count s) (first_read_at s) r.reads;
    }

-- the tables have room for the graph
pub graph_room : (s : List ℕ) → Reads s → HasRoom (graph_of s)
unfolding graph_of
graph_room s r =
    let h = r.arcs.header in
    record {
      vertices = omega (arith, h.vertices_room, length_tabulate (vertex_of s) (vertex_count s) 0);
      arcs = omega (arith, h.arcs_room, length_tabulate (arc_of s) (arc_count s) 0);
      reads = omega (arith, h.reads_room, length_reads s (read_count s) (first_read_at s));
      each_read =
          all_reads s (λ vs. length vs ≤ room_read_length) (λ at x. omega (arith, x.room, read_length_lem s at x)) (read_count s) (first_read_at s) r.reads;
    }

-- a read's record has the bytes of its count and of the most vertices at most
reads_fit : (s : List ℕ) (count at : ℕ) → ReadsRight s count at → length s ≤ at + (count_bytes s + max_read_length s) * count
reads_fit s zero at r = omega (arith, mul-zero (count_bytes s + max_read_length s))
reads_fit s (suc count) at r =
    omega (arith, r.0.not_long, reads_fit s count (read_end s at) r.1, mul-suc (count_bytes s + max_read_length s) count)

-- "The longest is 3,165 bytes."
pub graph_fits : (s : List ℕ) → Reads s → length s ≤ longest_graph s
graph_fits s r =
    let h = r.arcs.header in
    omega (
      arith,
      h.few_arcs,
      vertex_grows s (vertex_count s) (max_vertices s) h.few_vertices,
      mul-le-mul_left (count_bytes s + max_read_length s) h.few_reads,
      reads_fit s (read_count s) (first_read_at s) r.reads,
      graph_longest s,
    )
