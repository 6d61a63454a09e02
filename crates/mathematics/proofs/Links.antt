-- What a walk from the root to the finish of a graph's network is: a path from a start to an end. Sweep.antt makes such walks, Decompose.antt uses them.
use Prim.Native.Nat.{ℕ, ◌+◌, ◌≤◌, ◌<◌}
use native.Mathlib.Omega.{arith}
use mathlib.Core.Path.{◌≡◌, refl, sym, ap, subst, ◌∙◌}
use mathlib.Core.List.{List, [], ◌∷◌, ◌++◌, append_assoc}
use mathlib.Core.Logic.{inl, inr}
use lib.Dec.{T}
use lib.ListN.{length}
use Rattle.mathematics.specs.Lists.{All, last_of, sum_over}
use Rattle.mathematics.specs.Graph.{Graph, is_start, is_end, is_path, has_arc, linked, Rises}
use Rattle.mathematics.specs.Cover.{Item, vert, arc, trail, count_of, through}
use Rattle.mathematics.specs.Range.{OneOf}
pub use Rattle.mathematics.specs.Links.{Link, opening, closing, inside, across, reading, in_node, out_node, link_from, link_to, link_vertices, passes, opens, path_of, AtEnds}
use Rattle.mathematics.proofs.Basics.{and_in}
use Rattle.mathematics.proofs.Parts.{Within}
use Rattle.mathematics.proofs.Reach.{last_append, linked_first, linked_rest, linked_append, arc_rises, start_below, end_below, path_from_parts}
use Rattle.mathematics.proofs.Sweep.{Chain}

-- a read on a walk lies in the walk's path
pub reading_within : (r : List ℕ) (ls : List Link) → OneOf ls (reading r) → Within r (path_of ls)
reading_within r [] m = absurd m
reading_within r (l ∷ ls) (inl e) = ([], path_of ls, ap (λ (k : Link). link_vertices k ++ path_of ls) (sym e))
reading_within r (l ∷ ls) (inr m) =
    let (a, b, e) = reading_within r ls m in
    (link_vertices l ++ a, b, ap (λ p. link_vertices l ++ p) e ∙ sym (append_assoc (link_vertices l) a (r ++ b)))

-- what follows v on the trail of v ∷ p
abbrev after : ℕ → List ℕ → List Item
after v [] = []
after v (w ∷ p) = arc v w ∷ trail (w ∷ p)

trail_after : (v : ℕ) (p : List ℕ) → trail (v ∷ p) ≡ vert v ∷ after v p
trail_after v [] = refl
trail_after v (w ∷ p) = refl

trail_append : (v : ℕ) (r p : List ℕ) → trail (v ∷ (r ++ p)) ≡ trail (v ∷ r) ++ after (last_of v r) p
trail_append v [] p = trail_after v p
trail_append v (w ∷ r) p = ap (λ is. vert v ∷ arc v w ∷ is) (trail_append w r p)

count_append : (i : Item) (xs ys : List Item) → count_of i (xs ++ ys) ≡ count_of i xs + count_of i ys
count_append i [] ys = omega arith
count_append i (x ∷ xs) ys = omega (arith, count_append i xs ys)

-- the link is one of the graph's
abbrev pub OfGraph : {E : Type 0} → Graph E → Link → Type 0
OfGraph G (opening v) = T (is_start G v)
OfGraph G (closing v) = T (is_end G v)
OfGraph G (inside v) = v < length G.vertices
OfGraph G (across u v) = T (has_arc G.arcs u v)
OfGraph G (reading []) = ⊥
OfGraph G (reading (v ∷ r)) = (v < length G.vertices) × T (linked G.arcs (v ∷ r))

module _ (Opens Closes : ℕ → Type 0) where
  -- what is known of the opening and closing links that are used
  abbrev pub Used : Link → Type 0
  Used (opening v) = Opens v
  Used (closing v) = Closes v
  Used (inside v) = Unit {0}
  Used (across u v) = Unit {0}
  Used (reading r) = Unit {0}

module _ {E : Type 0} (G : Graph E) (Opens Closes : ℕ → Type 0) where
  abbrev pub Leads : ℕ → List Link → Type 0
  Leads x ls = Chain link_from (link_to (in_node (length G.vertices))) (λ l. OfGraph G l × Used Opens Closes l) x (in_node (length G.vertices)) ls

  -- a walk from the out side of v to the finish
  record FromOut (v : ℕ) (ls : List Link) : Type 0 where
    joined : T (linked G.arcs (v ∷ path_of ls))
    ends : T (is_end G (last_of v (path_of ls)))
    closes : Closes (last_of v (path_of ls))
    items : (i : Item) → sum_over (passes i) ls ≡ count_of i (after v (path_of ls))
    opened : sum_over opens ls ≡ 0

  -- a walk from the in side of v to the finish
  record FromIn (v : ℕ) (ls : List Link) : Type 0 where
    more : List ℕ
    begins : path_of ls ≡ v ∷ more
    joined : T (linked G.arcs (v ∷ more))
    ends : T (is_end G (last_of v more))
    closes : Closes (last_of v more)
    items : (i : Item) → sum_over (passes i) ls ≡ count_of i (trail (v ∷ more))
    opened : sum_over opens ls ≡ 0

  -- no walk leads on from the finish
  leads_nowhere : (ls : List Link) → Leads (in_node (length G.vertices)) ls → ls ≡ []
  leads_nowhere [] c = refl
  leads_nowhere (opening v ∷ ls) (e, g, c) = absurd (omega arith)
  leads_nowhere (closing v ∷ ls) (e, g, c) = absurd (omega arith)
  leads_nowhere (inside v ∷ ls) (e, (o, u), c) = absurd (omega arith)
  leads_nowhere (across u v ∷ ls) (e, g, c) = absurd (omega arith)
  leads_nowhere (reading [] ∷ ls) (e, (o, u), c) = absurd o
  leads_nowhere (reading (v ∷ r) ∷ ls) (e, ((below, o), u), c) = absurd (omega arith)

  through_inside : (v : ℕ) (ls : List Link) → FromOut v ls → FromIn v (inside v ∷ ls)
  through_inside v ls h =
      record {
        more = path_of ls;
        begins = refl;
        joined = h.joined;
        ends = h.ends;
        closes = h.closes;
        items = λ i. rw (trail_after v (path_of ls)) (omega (arith, h.items i));
        opened = omega (arith, h.opened);
      }

  through_reading : (v : ℕ) (r : List ℕ) (ls : List Link) → T (linked G.arcs (v ∷ r)) → FromOut (last_of v r) ls → FromIn v (reading (v ∷ r) ∷ ls)
  through_reading v r ls t h =
      record {
        more = r ++ path_of ls;
        begins = refl;
        joined = linked_append G.arcs v r (path_of ls) t h.joined;
        ends = rw (last_append v r (path_of ls)) h.ends;
        closes = rw (last_append v r (path_of ls)) h.closes;
        items = λ i. rw (trail_append v r (path_of ls), count_append i (trail (v ∷ r)) (after (last_of v r) (path_of ls))) (omega (arith, h.items i));
        opened = omega (arith, h.opened);
      }

  through_across : (u v : ℕ) (ls : List Link) → T (has_arc G.arcs u v) → FromIn v ls → FromOut u (across u v ∷ ls)
  through_across u v ls t h =
      record {
        joined = rw h.begins (and_in (has_arc G.arcs u v) (linked G.arcs (v ∷ h.more)) t h.joined);
        ends = rw h.begins h.ends;
        closes = rw h.begins h.closes;
        items = λ i. rw h.begins (omega (arith, h.items i));
        opened = omega (arith, h.opened);
      }

  through_closing : (v : ℕ) (ls : List Link) → T (is_end G v) → Closes v → ls ≡ [] → FromOut v (closing v ∷ ls)
  through_closing v ls t c e =
      subst (λ (ks : List Link). FromOut v (closing v ∷ ks)) (sym e)
      (record { joined = tt; ends = t; closes = c; items = λ i. refl; opened = refl })

  module _ (rises : All (Rises (length G.vertices)) G.arcs) where
    mutual
      from_in : (ls : List Link) (v : ℕ) → v < length G.vertices → Leads (in_node v) ls → FromIn v ls
      from_in [] v b e = absurd (omega arith)
      from_in (opening w ∷ ls) v b (e, g, c) = absurd (omega arith)
      from_in (closing w ∷ ls) v b (e, g, c) = absurd (omega arith)
      from_in (inside w ∷ ls) v b (e, g, c) =
          subst (λ (x : ℕ). FromIn x (inside w ∷ ls)) (omega arith) (through_inside w ls (from_out ls w c))
      from_in (across u w ∷ ls) v b (e, g, c) = absurd (omega arith)
      from_in (reading [] ∷ ls) v b (e, (o, u), c) = absurd o
      from_in (reading (w ∷ r) ∷ ls) v b (e, ((below, t), u), c) =
          subst (λ (x : ℕ). FromIn x (reading (w ∷ r) ∷ ls)) (omega arith) (through_reading w r ls t (from_out ls (last_of w r) c))

      from_out : (ls : List Link) (v : ℕ) → Leads (out_node v) ls → FromOut v ls
      from_out [] v e = absurd (omega arith)
      from_out (opening w ∷ ls) v (e, g, c) = absurd (omega arith)
      from_out (closing w ∷ ls) v (e, (t, u), c) =
          subst (λ (x : ℕ). FromOut x (closing w ∷ ls)) (omega arith) (through_closing w ls t u (leads_nowhere ls c))
      from_out (inside w ∷ ls) v (e, g, c) = absurd (omega arith)
      from_out (across u w ∷ ls) v (e, (t, _), c) =
          subst (λ (x : ℕ). FromOut x (across u w ∷ ls)) (omega arith)
          (through_across u w ls t (from_in ls w (arc_rises (length G.vertices) G.arcs u w rises t).1 c))
      from_out (reading r ∷ ls) v (e, g, c) = absurd (omega arith)

    -- What a walk from the root to the finish is.
    pub record IsWhole (ls : List Link) : Type 0 where
      pub is_a_path : T (is_path G (path_of ls))
      pub at_ends : AtEnds Opens Closes (path_of ls)
      pub items : (i : Item) → sum_over (passes i) ls ≡ through i (path_of ls)
      pub opened : sum_over opens ls ≡ 1

    through_opening : (v : ℕ) (ls : List Link) → T (is_start G v) → Opens v → FromIn v ls → IsWhole (opening v ∷ ls)
    through_opening v ls t o h =
        record {
          is_a_path = rw h.begins (path_from_parts G v h.more t h.joined h.ends);
          at_ends = rw h.begins (o, h.closes);
          items = λ i. rw h.begins (omega (arith, h.items i));
          opened = omega (arith, h.opened);
        }

    -- a walk from the root to the finish is a path from a start to an end
    pub whole_walk : (ls : List Link) → Leads 0 ls → IsWhole ls
    whole_walk [] e = absurd (omega arith)
    whole_walk (opening v ∷ ls) (e, (t, o), c) = through_opening v ls t o (from_in ls v (start_below G v t) c)
    whole_walk (closing v ∷ ls) (e, g, c) = absurd (omega arith)
    whole_walk (inside v ∷ ls) (e, g, c) = absurd (omega arith)
    whole_walk (across u v ∷ ls) (e, g, c) = absurd (omega arith)
    whole_walk (reading r ∷ ls) (e, g, c) = absurd (omega arith)

    linked_rises : (v : ℕ) (r : List ℕ) → v < length G.vertices → T (linked G.arcs (v ∷ r)) → (v ≤ last_of v r) × (last_of v r < length G.vertices)
    linked_rises v [] b t = omega arith
    linked_rises v (w ∷ r) b t =
        let a : (v < w) × (w < length G.vertices) = arc_rises (length G.vertices) G.arcs v w rises (linked_first G.arcs v w r t) in
        let h : (w ≤ last_of w r) × (last_of w r < length G.vertices) = linked_rises w r a.1 (linked_rest G.arcs v w r t) in
        omega arith

    -- a link of the graph rises, to the finish at most
    pub link_rises : (l : Link) → OfGraph G l →
        (link_from l < link_to (in_node (length G.vertices)) l) × (link_to (in_node (length G.vertices)) l ≤ in_node (length G.vertices))
    link_rises (opening v) t = let b = start_below G v t in omega arith
    link_rises (closing v) t = let b = end_below G v t in omega arith
    link_rises (inside v) t = omega arith
    link_rises (across u v) t = let b = arc_rises (length G.vertices) G.arcs u v rises t in omega arith
    link_rises (reading []) t = absurd t
    link_rises (reading (v ∷ r)) (b, t) = let h = linked_rises v r b t in omega arith
