-- Walking along a path of an answer: what one step adds to the totals, and the laws of the loop that walks.
use Rattle.std.proofs.Common.{ℕ, suc, ◌+◌, ◌-◌, ◌*◌, ◌<◌, ◌≤◌, le_refl, zero-add, add-zero, mul-zero, mul-le-mul_left, arith, add-one, ◌≡◌, refl, sym, ap, subst, ◌∙◌, List, [], ◌∷◌, Bool, true, false, ◌&&◌, T, length, get_or, take, drop, set, length-set, length-drop, drop_of_length-le, get_or-set_same, get_or-set_other, drop-cons, ℤ, pos, ◌+ℤ◌, lt-ltb, Some, None}
use Rattle.std.proofs.Math.Decide.{ℕ_discrete}
use Rattle.std.proofs.Math.Bool.{and-false}
use Rattle.std.proofs.Math.Seq.{take-length}
use Rattle.std.proofs.Math.IntN.{+ℤ_assoc, +ℤ_idl, +ℤ_idr}
use Rattle.mathematics.specs.Price.{whole}
use Rattle.mathematics.specs.Graph.{Arc, has_arc, is_start, is_end, is_path}
use Rattle.mathematics.specs.Cover.{Item, vert, count_of, trail, cost_of, arc_costs}
use Rattle.mathematics.proofs.Basics.{and_r}
use Rattle.mathematics.proofs.Parts.{Rising}
use Rattle.mathematics.proofs.Linked.{path_rising}
use Rattle.forms.specs.ArcTable.{arc_number}
use Rattle.forms.specs.GraphFaults.{all_below}
use Rattle.forms.specs.GraphForm.{vertex_count, arc_count, arc_at, arc_cost}
use Rattle.forms.specs.GraphOf.{graph_of, arcs_of, arc_item}
use Rattle.forms.specs.GraphReads.{ArcsRight, Reads}
use Rattle.forms.specs.Layout.{max_weight, max_path_length}
use Rattle.forms.specs.Limits.{room_vertices, room_arcs, max_cost}
use Rattle.certify.specs.Growth.{onward, Grown}
use Rattle.tally.specs.Tally.{goes_on_to, TotalsFit, WalkTallied, PathWalked}
use Rattle.forms.proofs.LayoutLaws.{vertices_room, arcs_room, reads_room, weight_limit_lem, path_length_limit}
use Rattle.forms.proofs.GraphFacts.{graph_well_formed}
use Rattle.forms.proofs.WalkLaws.{is_at, found_is}
use Rattle.certify.proofs.GrowthLaws.{TheArc, found_arc, head_inside, only_arc, grow, count_few, length_onward, trail_onward}

-- a path and the weights of an answer are no longer and no greater than the tables and numbers here have room for
module _ (s : List ℕ) where
  pub path_length_room : max_path_length s ≤ room_vertices
  path_length_room = omega (arith, path_length_limit s, vertices_room s)

  pub weight_low : max_weight s < 4294967296
  weight_low = omega (arith, weight_limit_lem s, vertices_room s, arcs_room s, reads_room s)

-- what goes on from u to v and from there along q
module _ (s : List ℕ) (u v : ℕ) (q : List ℕ) where
  goes_nowhere : has_arc (arcs_of s) u v ≡ false → goes_on_to s u (v ∷ q) ≡ false
  unfolding goes_on_to
  goes_nowhere h = rw h (and-false (all_below (vertex_count s) (v ∷ q)))

  goes_along : v < vertex_count s → has_arc (arcs_of s) u v ≡ true → goes_on_to s u (v ∷ q) ≡ goes_on_to s v q
  unfolding goes_on_to
  goes_along h e = rw (lt-ltb v (vertex_count s) h, e)

goes_end : (s : List ℕ) (u : ℕ) → goes_on_to s u [] ≡ is_end (graph_of s) u
unfolding goes_on_to
goes_end s u = refl

-- the cost of one arc more
cost_step : (arcs : List (Arc ℤ)) (u v : ℕ) (q : List ℕ) (a c : ℕ) → cost_of whole arcs u v ≡ pos c → pos (a + c) +ℤ arc_costs whole arcs (v ∷ q) ≡ pos a +ℤ arc_costs whole arcs (u ∷ v ∷ q)
cost_step arcs u v q a c e =
    +ℤ_assoc (pos a) (pos c) (arc_costs whole arcs (v ∷ q))
    ∙ ap (λ x. pos a +ℤ (x +ℤ arc_costs whole arcs (v ∷ q))) (sym e)

pub walk_fails : {s : List ℕ} {right : Bool} {items : List Item} {p : List ℕ} {w : ℕ} {vb va ab aa : List ℕ} → false ≡ right → WalkTallied s right items p w vb va ab aa false 0
walk_fails e =
    record {
      is_right = e;
      grown = λ z. absurd (never z);
      costs = λ z. absurd (never z);
      low_cost = λ z. absurd (never z);
    }
  where
    never : false ≡ true → ⊥
    never q = let z : ◌≡◌ {A = ℕ} 0 1 = cc in omega arith

-- Of the vertices of p those from j on are left, after u: they decide, and with what they add the totals and the costs are those of all.
pub record WalkLeft (s p : List ℕ) (from weight : ℕ) (vb vt ab at : List ℕ) (u cost j : ℕ) : Type 0 where
  pub within : (j ≤ length p) × (u < vertex_count s) × (length vt ≡ room_vertices) × (length at ≡ room_arcs) × (cost ≤ max_cost * j)
  pub decide : goes_on_to s from p ≡ goes_on_to s u (drop j p)
  pub vertices : (x : ℕ) → x < room_vertices → get_or vt x 0 + weight * count_of (vert x) (onward u (drop j p)) ≡ get_or vb x 0 + weight * count_of (vert x) (onward from p)
  pub arcs : (k : ℕ) → k < arc_count s → get_or at k 0 + weight * count_of (arc_item s k) (onward u (drop j p)) ≡ get_or ab k 0 + weight * count_of (arc_item s k) (onward from p)
  pub costs : pos cost +ℤ arc_costs whole (arcs_of s) (u ∷ drop j p) ≡ arc_costs whole (arcs_of s) (from ∷ p)

pub walk_begin : {s p : List ℕ} {from weight : ℕ} {vb ab : List ℕ} → from < vertex_count s → TotalsFit s vb ab weight (2 * room_vertices + 1) → WalkLeft s p from weight vb vb ab ab from 0 0
walk_begin h room =
    record {
      within = omega (arith, room.vertices_long, room.arcs_long);
      decide = refl;
      vertices = λ x l. refl;
      arcs = λ k l. refl;
      costs = +ℤ_idl _;
    }

module _ {s p : List ℕ} {from weight : ℕ} {vb vt ab at : List ℕ} {u cost j : ℕ} (inv : WalkLeft s p from weight vb vt ab at u cost j) where
  -- a total has room for the weight: what was added so far is no more than what the whole path adds
  module _ (short : length p + 1 ≤ room_vertices) (room : TotalsFit s vb ab weight (2 * room_vertices + 1)) where
    few : (i : Item) → weight * count_of i (onward from p) ≤ weight * (2 * room_vertices)
    few i =
        mul-le-mul_left weight
        (omega (arith, count_few i (onward from p), length_onward from p))

    pub vertex_room : (x : ℕ) → x < room_vertices → get_or vt x 0 + weight < 18446744073709551616
    vertex_room x l = omega (arith, inv.vertices x l, few (vert x), room.vertices_low x l, room.low_weight, weight_low s)

    pub arc_room : (k : ℕ) → k < arc_count s → get_or at k 0 + weight < 18446744073709551616
    arc_room k l = omega (arith, inv.arcs k l, few (arc_item s k), room.arcs_low k l, room.low_weight, weight_low s)

  module _ (more : j < length p) {v : ℕ} (read : v ≡ get_or p j 0) where
    rest : drop j p ≡ v ∷ drop (j + 1) p
    rest = drop-cons p j 0 more ∙ rw (read, add-one j)

    pub walk_nowhere : None ≡ arc_number (arcs_of s) u v → false ≡ goes_on_to s from p
    walk_nowhere e = sym (inv.decide ∙ rw rest (goes_nowhere s u v _ (sym (ap is_at e ∙ found_is (arcs_of s) u v 0))))

    module _ {k : ℕ} (right : ArcsRight s) (found : Some k ≡ arc_number (arcs_of s) u v) where
      the : TheArc s u v k
      the = found_arc s u v right k found

      next_inside : v < vertex_count s
      next_inside = head_inside u v right found

      vertex_turn : (x : ℕ) → x < room_vertices → get_or (set vt v (get_or vt v 0 + weight)) x 0 + weight * count_of (vert x) (onward v (drop (j + 1) p)) ≡ get_or vb x 0 + weight * count_of (vert x) (onward from p)
      vertex_turn x l =
          grow vt v weight x _ (omega (arith, right.header.vertices_room, next_inside)) ∙ (rw (rest, zero-add) at (inv.vertices x l))

      arc_turn : (i : ℕ) → i < arc_count s → get_or (set at k (get_or at k 0 + weight)) i 0 + weight * count_of (arc_item s i) (onward v (drop (j + 1) p)) ≡ get_or ab i 0 + weight * count_of (arc_item s i) (onward from p)
      arc_turn i l =
          grow at k weight i _ (omega (arith, right.header.arcs_room, the.inside))
          ∙ (rw (rest, only_arc s right u v k i the l, zero-add) at (inv.arcs i l))

      pub walk_turn : {c : ℕ} → c ≡ arc_cost s (arc_at s k) → c ≤ max_cost → WalkLeft s p from weight vb (set vt v (get_or vt v 0 + weight)) ab (set at k (get_or at k 0 + weight)) v (cost + c) (j + 1)
      walk_turn {c} e low =
          record {
            within = simp length-set (omega (arith, next_inside));
            decide = inv.decide ∙ rw rest (goes_along s u v _ next_inside the.has);
            vertices = vertex_turn;
            arcs = arc_turn;
            costs =
                cost_step (arcs_of s) u v (drop (j + 1) p) cost c (the.cost ∙ ap pos (sym e))
                ∙ ap (λ q. pos cost +ℤ arc_costs whole (arcs_of s) (u ∷ q)) (sym rest)
                ∙ inv.costs;
          }

  module _ (h : length p ≤ j) where
    over : drop j p ≡ []
    over = drop_of_length-le p {i = j} h

    -- the last vertex decides
    walk_ends : {ok : Bool} → ok ≡ is_end (graph_of s) u → ok ≡ goes_on_to s from p
    walk_ends e = e ∙ sym (inv.decide ∙ rw over (goes_end s u))

    pub walk_no_end : false ≡ is_end (graph_of s) u → WalkTallied s (goes_on_to s from p) (onward from p) (from ∷ p) weight vb vt ab at false 0
    walk_no_end e = walk_fails (walk_ends e)

    pub walk_end : length p + 1 ≤ room_vertices → true ≡ is_end (graph_of s) u → WalkTallied s (goes_on_to s from p) (onward from p) (from ∷ p) weight vb vt ab at true cost
    walk_end short e =
        record {
          is_right = walk_ends e;
          grown =
              λ z.
              record {
                vertices_long = inv.within.2;
                arcs_long = inv.within.3;
                vertices = λ x l. rw (over, mul-zero, add-zero) at (inv.vertices x l);
                arcs = λ k l. rw (over, mul-zero, add-zero) at (inv.arcs k l);
              };
          costs =
              λ z.
              sym (+ℤ_idr (pos cost))
              ∙ ap (λ q. pos cost +ℤ arc_costs whole (arcs_of s) (u ∷ q)) (sym over)
              ∙ inv.costs;
          low_cost = λ z. omega arith;
        }

-- A whole path: its first vertex is counted, and from there on the walk goes on.
pub first_room : {s vb ab : List ℕ} {weight : ℕ} (u : ℕ) → u < room_vertices → TotalsFit s vb ab weight (2 * room_vertices) → get_or vb u 0 + weight < 18446744073709551616
first_room {s} u h room = omega (arith, room.vertices_low u h, room.low_weight, weight_low s)

-- a path passes at most twice as many vertices and arcs as it has vertices
pub through_few : (i : Item) (p : List ℕ) → count_of i (trail p) ≤ 2 * length p
through_few i [] = le_refl 0
through_few i (u ∷ q) =
    let e : length (trail (u ∷ q)) ≡ suc (length (onward u q)) = ap length (trail_onward u q) in
    omega (arith, e, count_few i (trail (u ∷ q)), length_onward u q)

-- a path by its first vertex and the others, as a slice gives them
pub behind_length : (p : List ℕ) → length (take (length p - 1) (drop 1 p)) ≡ length p - 1
behind_length p = rw (← length-drop 1 p, take-length)

pub opened : (p : List ℕ) {u : ℕ} → 1 ≤ length p → u ≡ get_or p 0 0 → p ≡ u ∷ take (length p - 1) (drop 1 p)
opened p some read = drop-cons p 0 0 some ∙ rw (read, ← length-drop 1 p, take-length)

module _ (s : List ℕ) {p : List ℕ} (weight : ℕ) (vb ab : List ℕ) (u : ℕ) (q : List ℕ) (opened : p ≡ u ∷ q) where
  module _ (inside : u < vertex_count s) (start : is_start (graph_of s) u ≡ true) (few : vertex_count s ≤ room_vertices) where
    path_is : goes_on_to s u q ≡ (all_below (vertex_count s) (u ∷ q) && is_path (graph_of s) (u ∷ q))
    unfolding goes_on_to graph_of
    path_is = rw (lt-ltb u (vertex_count s) inside, start)

    pub path_room : TotalsFit s vb ab weight (2 * room_vertices) → TotalsFit s (set vb u (get_or vb u 0 + weight)) ab weight (2 * room_vertices + 1)
    path_room room =
        record {
          low_weight = room.low_weight;
          vertices_long = simp length-set room.vertices_long;
          arcs_long = room.arcs_long;
          vertices_low = λ x l. higher x l (ℕ_discrete x u);
          arcs_low = λ k l. omega (arith, room.arcs_low k l);
        }
      where
        higher : (x : ℕ) → x < room_vertices → Dec (x ≡ u) → get_or (set vb u (get_or vb u 0 + weight)) x 0 ≤ (2 * room_vertices + 1) * max_weight s
        higher x l (yes e) = rw (e, get_or-set_same vb u (get_or vb u 0 + weight) 0 (omega (arith, room.vertices_long))) (omega (arith, room.vertices_low u (omega arith), room.low_weight))
        higher x l (no e) = rw (get_or-set_other vb u x (get_or vb u 0 + weight) 0 e) (omega (arith, room.vertices_low x l))

    module _ (va aa : List ℕ) (ok : Bool) (cost : ℕ) (long : length vb ≡ room_vertices) (on : WalkTallied s (goes_on_to s u q) (onward u q) (u ∷ q) weight (set vb u (get_or vb u 0 + weight)) va ab aa ok cost) where
      path_grown : Grown s weight (onward u q) (set vb u (get_or vb u 0 + weight)) va ab aa → Grown s weight (vert u ∷ onward u q) vb va ab aa
      path_grown g =
          record {
            vertices_long = g.vertices_long;
            arcs_long = g.arcs_long;
            vertices = λ x l. g.vertices x l ∙ grow vb u weight x (count_of (vert x) (onward u q)) (omega arith);
            arcs = λ k l. g.arcs k l ∙ rw zero-add;
          }

      pub path_walked : PathWalked s p weight vb va ab aa ok cost
      path_walked =
          rw opened
          (rw (trail_onward u q, ← path_is)
          (record {
            is_right = on.is_right;
            grown = λ z. path_grown (on.grown z);
            costs = on.costs;
            low_cost = on.low_cost;
          }))

-- what was walked along rightly is a path of the graph, so its vertices rise
pub walked_rises : {s p : List ℕ} {w : ℕ} {vb va ab aa : List ℕ} {ok : Bool} {cost : ℕ} → Reads s → PathWalked s p w vb va ab aa ok cost → ok ≡ true → Rising p
walked_rises {s} {p} r walked e =
    let right : T (all_below (vertex_count s) p && is_path (graph_of s) p) = subst T (sym e ∙ walked.is_right) tt in
    path_rising (graph_of s) (graph_well_formed s r) p (and_r (all_below (vertex_count s) p) (is_path (graph_of s) p) right)
