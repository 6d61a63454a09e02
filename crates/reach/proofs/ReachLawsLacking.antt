-- The first item that asks for something and lies on no path: what the loops over vertices, arcs and reads find is what the definitions say.
use Prim.Native.Nat.{ℕ, zero, suc, ◌+◌, ◌-◌, ◌<◌, ◌≤◌}
use native.Mathlib.Nat.{add-zero}
use native.Mathlib.Omega.{arith}
use mathlib.Core.Path.{◌≡◌, refl, sym, ap, ap₂, subst, ◌∙◌}
use mathlib.Core.List.{List, [], ◌∷◌, ◌++◌, map}
use mathlib.Core.Bool.{Bool, true, false, cond, ◌&&◌}
use lib.Dec.{eqb}
use lib.IntN.{ℤ}
use lib.ListN.{length, get_or, take}
use lib.Seq.{drop-cons}
use Rattle.mathematics.specs.Lists.{All, last_of}
use Rattle.mathematics.specs.Graph.{Graph, Vertex}
use Rattle.mathematics.specs.Cover.{Ask, vertex_asks, arc_ask}
use Rattle.mathematics.specs.Reach.{from_start, to_end, read_lies, ask_lies}
use Rattle.forms.specs.declared.Verdict.{Verdict}
use Rattle.forms.specs.Bytes.{byte, part, tabulate}
use Rattle.forms.specs.GraphForm.{vertex_count, arc_count, read_count, arc_at, first_read_at, read_length, read_vertices_at, read_vertices, read_end}
use Rattle.forms.specs.GraphOf.{vertex_of, arc_of, reads_from, graph_of}
use Rattle.forms.specs.GraphFaults.{refusal, nothing_refused, then, first_fault}
use Rattle.forms.specs.GraphReads.{ReadRight, ReadsRight}
use Rattle.forms.proofs.GraphFacts.{length_tabulate}
use Rattle.forms.proofs.GraphRange.{vertices_length}
use Rattle.forms.specs.BuildFaults.{asks_lie_verdict, reads_lie_verdict}
use Rattle.reach.specs.Reached.{FormSizes, Reachable, vertex_ask, record_ask, lacks, lie_verdict}
use Rattle.forms.specs.Limits.{room_vertices, room_reads}
use Rattle.reach.specs.declared.Reach.{Reach}

-- what the arrays say of what begins with u and ends with v
pub reachable_lies : {s : List ℕ} {r : Reach} → Reachable s r → {x y u v : ℕ} → x ≡ u → y ≡ v → u < vertex_count s → v < vertex_count s →
    (get_or r.reached x false && get_or r.reaching y false) ≡ (from_start (graph_of s) u && to_end (graph_of s) v)
reachable_lies {s} {r} m {x} {y} {u} {v} eu ev lu lv =
    ap₂ (λ x y. x && y) (ap (λ k. get_or r.reached k false) eu ∙ m.starts.says u lu) (ap (λ k. get_or r.reaching k false) ev ∙ m.ends.says v lv)

-- ---- vertices and arcs

lacking_next : (G : Graph ℤ) (a : Ask) (k : ℕ) (rest found after : Verdict) → rest ≡ then found after →
    cond (ask_lies G a) rest (refusal 8 k) ≡ then (cond (eqb (lacks G a) 0) found (refusal (lacks G a) k)) after
unfolding lacks then
lacking_next G a k rest found after e = by (ask_lies G a)
  where
    by : (b : Bool) → cond b rest (refusal 8 k) ≡ then (cond (eqb (cond b 0 8) 0) found (refusal (cond b 0 8) k)) after
    by true = e
    by false = refl

vertices_found : (s : List ℕ) (count k : ℕ) (after : Verdict) →
    asks_lie_verdict (graph_of s) k (vertex_asks k (tabulate (vertex_of s) count k)) after ≡
    then (first_fault (λ v. lacks (graph_of s) (vertex_ask s v)) (λ v. v) count k) after
unfolding asks_lie_verdict first_fault then
vertices_found s zero k after = refl
vertices_found s (suc count) k after =
    lacking_next (graph_of s) (vertex_ask s k) k _ (first_fault (λ v. lacks (graph_of s) (vertex_ask s v)) (λ v. v) count (suc k)) after
    (vertices_found s count (suc k) after)

arcs_found : (s : List ℕ) (n count i k : ℕ) (after : Verdict) → k ≡ n + i →
    asks_lie_verdict (graph_of s) k (map arc_ask (tabulate (arc_of s) count i)) after ≡
    then (first_fault (λ a. lacks (graph_of s) (record_ask s (arc_at s a))) (λ a. n + a) count i) after
unfolding asks_lie_verdict first_fault then
arcs_found s n zero i k after e = refl
arcs_found s n (suc count) i k after e =
    subst (λ x.
    cond (ask_lies (graph_of s) (record_ask s (arc_at s i))) (asks_lie_verdict (graph_of s) (suc k) (map arc_ask (tabulate (arc_of s) count (suc i))) after) (refusal 8 k) ≡
    then (cond (eqb (lacks (graph_of s) (record_ask s (arc_at s i))) 0) (first_fault (λ a. lacks (graph_of s) (record_ask s (arc_at s a))) (λ a. n + a) count (suc i))
    (refusal (lacks (graph_of s) (record_ask s (arc_at s i))) x)) after) e
    (lacking_next (graph_of s) (record_ask s (arc_at s i)) k _ _ after (arcs_found s n count (suc i) (suc k) after (omega arith)))

pub asks_append : (G : Graph ℤ) (k : ℕ) (xs ys : List Ask) (after : Verdict) →
    asks_lie_verdict G k (xs ++ ys) after ≡ asks_lie_verdict G k xs (asks_lie_verdict G (k + length xs) ys after)
unfolding asks_lie_verdict
asks_append G k [] ys after = ap (λ x. asks_lie_verdict G x ys after) (omega arith)
asks_append G k (x ∷ xs) ys after =
    ap (λ v. cond (ask_lies G x) v (refusal 8 k))
    (asks_append G (suc k) xs ys after ∙ ap (λ y. asks_lie_verdict G (suc k) xs (asks_lie_verdict G y ys after)) (omega arith))

pub vertex_asks_count : (k : ℕ) (xs : List Vertex) → length (vertex_asks k xs) ≡ length xs
vertex_asks_count k [] = refl
vertex_asks_count k (x ∷ xs) = ap suc (vertex_asks_count (suc k) xs)

arcs_count : (s : List ℕ) → length (graph_of s).arcs ≡ arc_count s
unfolding graph_of
arcs_count s = length_tabulate (arc_of s) (arc_count s) 0

abbrev pub over_vertices : List ℕ → ℕ → Verdict
over_vertices s n = first_fault (λ v. lacks (graph_of s) (vertex_ask s v)) (λ v. v) n 0

abbrev pub over_arcs : List ℕ → ℕ → ℕ → Verdict
over_arcs s n m = first_fault (λ a. lacks (graph_of s) (record_ask s (arc_at s a))) (λ a. n + a) m 0

abbrev pub over_reads : List ℕ → ℕ → ℕ → Verdict
over_reads s n m = reads_lie_verdict (graph_of s) (n + m) (graph_of s).reads nothing_refused

vertices_then : (s : List ℕ) (n : ℕ) (after : Verdict) → n ≡ vertex_count s →
    asks_lie_verdict (graph_of s) 0 (vertex_asks 0 (graph_of s).vertices) after ≡ then (over_vertices s n) after
unfolding graph_of
vertices_then s n after e = vertices_found s (vertex_count s) 0 after ∙ ap (λ k. then (over_vertices s k) after) (sym e)

arcs_then : (s : List ℕ) (n m k : ℕ) (after : Verdict) → m ≡ arc_count s → k ≡ n + 0 →
    asks_lie_verdict (graph_of s) k (map arc_ask (graph_of s).arcs) after ≡ then (over_arcs s n m) after
unfolding graph_of
arcs_then s n m k after e b = arcs_found s n (arc_count s) 0 k after b ∙ ap (λ j. then (over_arcs s n j) after) (sym e)

-- vertices, then arcs, then reads: the first that lacks decides
pub lie_then : {s : List ℕ} {n m : ℕ} → FormSizes s n m → lie_verdict (graph_of s) nothing_refused ≡ then (over_vertices s n) (then (over_arcs s n m) (over_reads s n m))
unfolding lie_verdict
lie_then {s} {n} {m} c =
    asks_append (graph_of s) 0 (vertex_asks 0 (graph_of s).vertices) (map arc_ask (graph_of s).arcs) _ ∙ vertices_then s n _ c.vertices ∙
    ap (λ v. then (over_vertices s n) v)
    (arcs_then s n m _ _ c.arcs (omega (arith, vertex_asks_count 0 (graph_of s).vertices, vertices_length s, c.vertices)) ∙
    ap (λ k. then (over_arcs s n m) (reads_lie_verdict (graph_of s) k (graph_of s).reads nothing_refused))
    (omega (arith, vertices_length s, arcs_count s, c.vertices, c.arcs)))

-- ---- reads

first_of_part : (s : List ℕ) (i k : ℕ) → i < length s → part s i (suc k) ≡ byte s i ∷ part s (suc i) k
unfolding part
first_of_part s i k h = ap (take (suc k)) (drop-cons s i 0 h)

last_of_part : (s : List ℕ) (v i k : ℕ) → i + k < length s → v ≡ byte s i → last_of v (part s (suc i) k) ≡ byte s (i + k)
unfolding part
last_of_part s v i zero h e = e ∙ ap (byte s) (omega arith)
last_of_part s v i (suc k) h e =
    ap (last_of v) (first_of_part s (suc i) k (omega arith)) ∙ last_of_part s (byte s (suc i)) (suc i) k (omega arith) refl ∙ ap (byte s) (omega arith)

-- the first vertex of a read and its last
pub record Ends (s : List ℕ) (at : ℕ) : Type 0 where
  pub first_low : byte s (read_vertices_at s at) < vertex_count s
  pub last_low : byte s (read_end s at - 1) < vertex_count s
  pub lies : read_lies (graph_of s) (read_vertices s at) ≡ (from_start (graph_of s) (byte s (read_vertices_at s at)) && to_end (graph_of s) (byte s (read_end s at - 1)))

all_last : (P : ℕ → Type 0) (v : ℕ) (r : List ℕ) → All P (v ∷ r) → P (last_of v r)
all_last P v [] h = h.0
all_last P v (w ∷ r) h = all_last P w r h.1

pub read_ends : (s : List ℕ) (at : ℕ) → ReadRight s at → Ends s at
read_ends s at r = by (read_length s at) refl
  where
    by : (k : ℕ) → read_length s at ≡ k → Ends s at
    by zero e = absurd (omega (arith, r.not_short))
    by (suc k) e =
        let i = read_vertices_at s at in
        let shape : read_vertices s at ≡ byte s i ∷ part s (suc i) k =
        ap (part s i) e ∙ first_of_part s i k (omega (arith, r.whole)) in
        let last : last_of (byte s i) (part s (suc i) k) ≡ byte s (read_end s at - 1) =
        last_of_part s (byte s i) i k (omega (arith, r.whole)) refl ∙ ap (byte s) (omega arith) in
        let inside : All (λ v. v < vertex_count s) (byte s i ∷ part s (suc i) k) = subst (All (λ v. v < vertex_count s)) shape r.inside in
        record {
          first_low = inside.0;
          last_low = subst (λ v. v < vertex_count s) last (all_last (λ v. v < vertex_count s) (byte s i) (part s (suc i) k) inside);
          lies = ap (read_lies (graph_of s)) shape ∙ ap (λ v. from_start (graph_of s) (byte s i) && to_end (graph_of s) v) last;
        }

-- k of count reads are passed, and the next stands at an offset
pub record ReadsLeft (s : List ℕ) (n m count k at : ℕ) : Type 0 where
  pub most : k ≤ count
  pub few : count ≤ room_reads
  pub right : ReadsRight s (count - k) at
  pub same : over_reads s n m ≡ reads_lie_verdict (graph_of s) (n + m + k) (reads_from s (count - k) at) nothing_refused

module _ {s : List ℕ} {n m : ℕ} (c : FormSizes s n m) where
  pub reads_begin : {count at : ℕ} → count ≡ read_count s → at ≡ first_read_at s → ReadsLeft s n m count 0 at
  unfolding graph_of
  reads_begin {count} {at} e o =
      let none : read_count s ≡ count - 0 = omega arith in
      record {
        most = omega arith;
        few = omega (arith, c.reads.arcs.header.reads_room);
        right = subst (λ i. ReadsRight s (count - 0) i) (sym o) (subst (λ k. ReadsRight s k (first_read_at s)) none c.reads.reads);
        same =
            ap (λ i. reads_lie_verdict (graph_of s) i (reads_from s (read_count s) (first_read_at s)) nothing_refused) (sym (add-zero (n + m))) ∙
            ap (λ k. reads_lie_verdict (graph_of s) (n + m + 0) (reads_from s k (first_read_at s)) nothing_refused) none ∙
            ap (λ i. reads_lie_verdict (graph_of s) (n + m + 0) (reads_from s (count - 0) i) nothing_refused) (sym o);
      }

  module _ {count k at : ℕ} (left : ReadsLeft s n m count k at) where
    module _ (more : k < count) where
      split : count - k ≡ suc (count - (k + 1))
      split = omega arith

      both : ReadRight s at × ReadsRight s (count - (k + 1)) (read_end s at)
      both = subst (λ j. ReadsRight s j at) split left.right

      pub read_here : ReadRight s at
      read_here = both.0

      here : over_reads s n m ≡
          cond (read_lies (graph_of s) (read_vertices s at))
          (reads_lie_verdict (graph_of s) (suc (n + m + k)) (reads_from s (count - (k + 1)) (read_end s at)) nothing_refused) (refusal 8 (n + m + k))
      unfolding reads_lie_verdict
      here = left.same ∙ ap (λ j. reads_lie_verdict (graph_of s) (n + m + k) (reads_from s j at) nothing_refused) split

      pub reads_turn : {next : ℕ} → next ≡ read_end s at → read_lies (graph_of s) (read_vertices s at) ≡ true → ReadsLeft s n m count (k + 1) next
      reads_turn {next} o e =
          record {
            most = omega arith;
            few = left.few;
            right = subst (ReadsRight s (count - (k + 1))) (sym o) both.1;
            same =
                here ∙
                ap (λ b. cond b (reads_lie_verdict (graph_of s) (suc (n + m + k)) (reads_from s (count - (k + 1)) (read_end s at)) nothing_refused) (refusal 8 (n + m + k))) e ∙
                ap₂ (λ i j. reads_lie_verdict (graph_of s) i (reads_from s (count - (k + 1)) j) nothing_refused) (omega arith) (sym o);
          }

      pub reads_stop : read_lies (graph_of s) (read_vertices s at) ≡ false → refusal 8 (n + m + k) ≡ over_reads s n m
      reads_stop e = sym (here ∙ ap (λ b. cond b (reads_lie_verdict (graph_of s) (suc (n + m + k)) (reads_from s (count - (k + 1)) (read_end s at)) nothing_refused) (refusal 8 (n + m + k))) e)

    pub reads_end : count ≤ k → nothing_refused ≡ over_reads s n m
    unfolding reads_lie_verdict
    reads_end all =
        let none : count - k ≡ 0 = omega arith in
        sym (left.same ∙ ap (λ j. reads_lie_verdict (graph_of s) (n + m + k) (reads_from s j at) nothing_refused) none)

-- what a read's first and last byte say of it
module _ {s : List ℕ} {reach : Reach} (m : Reachable s reach) {at : ℕ} (r : ReadRight s at) {i j x y : ℕ} (begins : i ≡ read_vertices_at s at) (ends : j ≡ read_end s at)
    (first : x ≡ byte s i) (last : y ≡ byte s (j - 1)) where
  first_is : x ≡ byte s (read_vertices_at s at)
  first_is = first ∙ ap (byte s) begins

  last_is : y ≡ byte s (read_end s at - 1)
  last_is = last ∙ ap (λ k. byte s (k - 1)) ends

  pub ends_low : (x < room_vertices) × (y < room_vertices)
  ends_low =
      let e = read_ends s at r in
      let few = m.reads.arcs.header.vertices_room in
      (omega (arith, e.first_low, first_is), omega (arith, e.last_low, last_is))

  pub ends_lie : {b : Bool} → b ≡ (get_or reach.reached x false && get_or reach.reaching y false) → b ≡ read_lies (graph_of s) (read_vertices s at)
  ends_lie e = let q = read_ends s at r in e ∙ reachable_lies m first_is last_is q.first_low q.last_low ∙ sym q.lies
