-- Which arc a pair of vertices is, and how a total grows by what a walk passes: for the reads that are counted, and for the paths that the checker tallies.
use Rattle.std.proofs.Common.{ℕ, zero, suc, ◌+◌, ◌*◌, ◌<◌, zero-add, mul-one, mul-add, arith, ◌≡◌, refl, sym, ap, ◌∙◌, List, [], ◌∷◌, Bool, true, false, cond, ◌&&◌, eqb, length, get_or, set, get_or-set_same, get_or-set_other, pos, eq-eqb, ne_eqb, eqb-true, Some}
use Rattle.std.proofs.Math.Decide.{dec_lt, ℕ_discrete}
use Rattle.mathematics.specs.Price.{whole}
use Rattle.mathematics.specs.Graph.{joins, has_arc}
use Rattle.mathematics.specs.Cover.{Item, vert, arc, same_item, one_if, trail, cost_of}
pub use Rattle.mathematics.proofs.Items.{count_few}
use Rattle.forms.specs.Bytes.{tabulate}
use Rattle.forms.specs.Limits.{room_vertices, room_arcs}
use Rattle.forms.specs.GraphForm.{vertex_count, arc_count, arc_at, arc_tail, arc_head, arc_cost}
use Rattle.forms.specs.GraphOf.{arc_of, arcs_of, arc_item}
use Rattle.forms.specs.GraphReads.{ArcsRight}
use Rattle.forms.specs.ArcTable.{number_from, arc_number}
use Rattle.certify.specs.Growth.{onward}
use Rattle.forms.proofs.GraphFacts.{ends_differ}
use Rattle.forms.proofs.Lookup.{found_iff_goes}
use Rattle.forms.proofs.WalkLaws.{is_at, found_is}

-- arc k is the one from u to v
pub record TheArc (s : List ℕ) (u v k : ℕ) : Type 0 where
  pub inside : k < arc_count s
  pub tail : arc_tail s (arc_at s k) ≡ u
  pub head : arc_head s (arc_at s k) ≡ v
  pub cost : cost_of whole (arcs_of s) u v ≡ pos (arc_cost s (arc_at s k))
  pub has : has_arc (arcs_of s) u v ≡ true

module _ (s : List ℕ) (u v : ℕ) where
  -- the cost of the first arc from u to v, among count arcs from arc i on
  cost_from : (count i k : ℕ) → number_from (tabulate (arc_of s) count i) u v i ≡ Some k → cost_of whole (tabulate (arc_of s) count i) u v ≡ pos (arc_cost s (arc_at s k))
  unfolding number_from
  cost_from zero i k e = absurd (let z : ◌≡◌ {A = ℕ} 0 1 = cc in omega arith)
  cost_from (suc count) i k e = by (joins (arc_of s i) u v) (λ f. cost_from count (suc i) k f) e
    where
      by : (b : Bool) → (number_from (tabulate (arc_of s) count (suc i)) u v (suc i) ≡ Some k → cost_of whole (tabulate (arc_of s) count (suc i)) u v ≡ pos (arc_cost s (arc_at s k))) → cond b (Some i) (number_from (tabulate (arc_of s) count (suc i)) u v (suc i)) ≡ Some k → cond b (pos (arc_cost s (arc_at s i))) (cost_of whole (tabulate (arc_of s) count (suc i)) u v) ≡ pos (arc_cost s (arc_at s k))
      by true more e =
          let same : i ≡ k = cc in
          rw same
      by false more e = more e

  pub found_arc : ArcsRight s → (k : ℕ) → Some k ≡ arc_number (arcs_of s) u v → TheArc s u v k
  found_arc right k e =
      let goes = (found_iff_goes s u v right k).0 (sym e) in
      record {
        inside = goes.0;
        tail = goes.1;
        head = goes.2;
        cost = cost_from (arc_count s) 0 k (sym e);
        has = sym (found_is (arcs_of s) u v 0) ∙ ap is_at (sym e);
      }

module _ (s : List ℕ) (right : ArcsRight s) where
  arcs_once : (j k : ℕ) → j < arc_count s → k < arc_count s → arc_tail s (arc_at s j) ≡ arc_tail s (arc_at s k) → arc_head s (arc_at s j) ≡ arc_head s (arc_at s k) → j ≡ k
  arcs_once j k hj hk t h = go (dec_lt j k) (dec_lt k j)
    where
      go : Dec (j < k) → Dec (k < j) → j ≡ k
      go (yes l) e = absurd (ends_differ s right j k l hk t h)
      go (no l) (yes m) = absurd (ends_differ s right k j m hj (sym t) (sym h))
      go (no l) (no m) = omega arith

  -- of the arcs only arc k goes from u to v
  pub only_arc : (u v k j : ℕ) → TheArc s u v k → j < arc_count s → same_item (arc_item s j) (arc u v) ≡ eqb j k
  only_arc u v k j f h = go (ℕ_discrete j k)
    where
      go : Dec (j ≡ k) → same_item (arc_item s j) (arc u v) ≡ eqb j k
      go (yes e) = rw (e, eq-eqb _ _ f.tail, eq-eqb _ _ f.head) (sym (eq-eqb k k refl))
      go (no e) = other (eqb (arc_tail s (arc_at s j)) u) (eqb (arc_head s (arc_at s j)) v) refl refl ∙ sym (ne_eqb j k e)
        where
          other : (x y : Bool) → eqb (arc_tail s (arc_at s j)) u ≡ x → eqb (arc_head s (arc_at s j)) v ≡ y → (eqb (arc_tail s (arc_at s j)) u && eqb (arc_head s (arc_at s j)) v) ≡ false
          other true true p q =
              absurd (e (arcs_once j k h f.inside (eqb-true _ _ p ∙ sym f.tail) (eqb-true _ _ q ∙ sym f.head)))
          other true false p q = rw (p, q)
          other false y p q = rw p

-- a total that grows by the weight, with c more to come
pub grow : (l : List ℕ) (i w x c : ℕ) → i < length l → get_or (set l i (get_or l i 0 + w)) x 0 + w * c ≡ get_or l x 0 + w * (one_if (eqb x i) + c)
grow l i w x c h = go (ℕ_discrete x i)
  where
    go : Dec (x ≡ i) → get_or (set l i (get_or l i 0 + w)) x 0 + w * c ≡ get_or l x 0 + w * (one_if (eqb x i) + c)
    go (yes e) = rw (e, get_or-set_same l i (get_or l i 0 + w) 0 h, eq-eqb i i refl, mul-add, mul-one) (omega arith)
    go (no e) = rw (get_or-set_other l i x (get_or l i 0 + w) 0 e, ne_eqb x i e, zero-add)

pub length_onward : (u : ℕ) (q : List ℕ) → length (onward u q) ≡ 2 * length q
length_onward u [] = refl
length_onward u (v ∷ q) = omega (arith, length_onward v q)

pub trail_onward : (u : ℕ) (q : List ℕ) → trail (u ∷ q) ≡ vert u ∷ onward u q
trail_onward u [] = refl
trail_onward u (v ∷ q) = ap (λ (is : List Item). vert u ∷ arc u v ∷ is) (trail_onward v q)

-- the tables have room for the arc that was found and for its head
module _ {s : List ℕ} (u v : ℕ) {k : ℕ} (right : ArcsRight s) (found : Some k ≡ arc_number (arcs_of s) u v) where
  pub found_room : k < room_arcs
  found_room = omega (arith, (found_arc s u v right k found).inside, right.header.arcs_room)

  -- the head of an arc is a vertex
  pub head_inside : v < vertex_count s
  head_inside = let the = found_arc s u v right k found in omega (arith, (right.each k the.inside).inside, the.head)

  pub head_room : v < room_vertices
  head_room = omega (arith, head_inside, right.header.vertices_room)
