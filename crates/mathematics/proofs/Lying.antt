-- Where a cover exists, what asks for something lies between useful vertices: an item that does not is asked nothing, and a prepared read begins and ends
-- at useful vertices.
use Prim.Native.Nat.{ℕ, zero, suc, ◌≤◌}
use native.Mathlib.Omega.{arith}
use mathlib.Core.Path.{◌≡◌, refl, sym, subst}
use mathlib.Core.List.{List, [], ◌∷◌}
use lib.Dec.{T}
use lib.ListN.{length, get_or}
use Rattle.mathematics.specs.Lists.{All, last_of}
use Rattle.mathematics.specs.Graph.{Graph, linked, WellFormed}
use Rattle.mathematics.specs.Cover.{Item, vert, arc, Ask, asks}
use Rattle.mathematics.specs.Prepare.{prepare}
use Rattle.mathematics.specs.Exists.{ItemOnPath, ReadOnPath, Coverable}
use Rattle.mathematics.specs.Range.{OneOf}
use Rattle.mathematics.specs.Reach.{from_start, to_end, useful}
use Rattle.mathematics.specs.Links.{reading}
use Rattle.mathematics.proofs.Basics.{and_in, all_among, all_from}
use Rattle.mathematics.proofs.Reach.{arc_rises, linked_first, from_start_along, to_end_along, read_on_path, vertex_on_path, arc_ends_useful}
use Rattle.mathematics.proofs.Items.{Known, asks_known}
use Rattle.mathematics.proofs.Prepared.{prepared_linked, prepared_ends, EndsAs}
use Rattle.mathematics.proofs.Links.{OfGraph}
use Rattle.mathematics.proofs.Base.{useful_item, Useful}

module _ {E : Type 0} (G : Graph E) (g : WellFormed G) (c : Coverable G) where
  on_path_useful : (i : Item) → Known G i → ItemOnPath G i → T (useful_item G i)
  on_path_useful (vert v) k h = (vertex_on_path G g v).0 h
  on_path_useful (arc u v) k h = let (x, y) = arc_ends_useful G g u v k h in and_in (useful G u) (useful G v) x y

  -- nothing is asked of what does not lie between useful vertices
  pub idle_asks : All (λ a. (T (useful_item G a.item) → ⊥) → a.demand ≡ 0) (asks G)
  idle_asks = all_from (λ a. (T (useful_item G a.item) → ⊥) → a.demand ≡ 0) (asks G) (λ a m n. nothing a m n a.demand refl)
    where
      nothing : (a : Ask) → OneOf (asks G) a → (T (useful_item G a.item) → ⊥) → (d : ℕ) → a.demand ≡ d → a.demand ≡ 0
      nothing a m n zero e = e
      nothing a m n (suc d) e =
          absurd (n (on_path_useful a.item (all_among (λ b. Known G b.item) (asks G) a (asks_known G) m)
          (all_among (λ b. 1 ≤ b.demand → ItemOnPath G b.item) (asks G) a c.items_lie m (omega arith))))

  read_lies_lem : (a : List ℕ) → OneOf G.reads a → T (from_start G (get_or a 0 0)) × T (to_end G (last_of 0 a))
  read_lies_lem a m =
      let (some, t) = all_among (λ r. (2 ≤ length r) × T (linked G.arcs r)) G.reads a g.reads_linked m in
      first a some t (all_among (ReadOnPath G) G.reads a c.reads_lie m)
    where
      first : (a : List ℕ) → 2 ≤ length a → T (linked G.arcs a) → ReadOnPath G a → T (from_start G (get_or a 0 0)) × T (to_end G (last_of 0 a))
      first [] some t h = absurd (omega arith)
      first (v ∷ r) some t h = (read_on_path G g v r t).0 h

  read_useful : (r : List ℕ) → 2 ≤ length r → T (linked G.arcs r) → T (from_start G (get_or r 0 0)) → T (to_end G (last_of 0 r)) →
      OfGraph G (reading r) × Useful G (reading r)
  read_useful [] some t f e = absurd (omega arith)
  read_useful (v ∷ []) some t f e = absurd (omega arith)
  read_useful (v ∷ w ∷ r) some t f e =
      let (low, high) = arc_rises (length G.vertices) G.arcs v w g.rises (linked_first G.arcs v w r t) in
      let at : T (to_end G v) = to_end_along G g v (w ∷ r) t e in
      let on : T (from_start G (last_of w r)) = from_start_along G g v (w ∷ r) t f in
      ((omega arith, t), (and_in (from_start G v) (to_end G v) f at, and_in (from_start G (last_of w r)) (to_end G (last_of w r)) on e))

  -- a prepared read is a link of the graph between useful vertices
  pub prepared_useful : All (λ r. OfGraph G (reading r) × Useful G (reading r)) (prepare G.reads)
  prepared_useful = all_from (λ r. OfGraph G (reading r) × Useful G (reading r)) (prepare G.reads) one
    where
      one : (r : List ℕ) → OneOf (prepare G.reads) r → OfGraph G (reading r) × Useful G (reading r)
      one r m =
          let (some, t) = all_among (λ s. (2 ≤ length s) × T (linked G.arcs s)) (prepare G.reads) r (prepared_linked G g) m in
          let ((a, p, d), (b, q, e)) = all_among (EndsAs G.reads) (prepare G.reads) r (prepared_ends G.reads) m in
          read_useful r some t (subst (λ (x : ℕ). T (from_start G x)) (sym d) (read_lies_lem a p).0) (subst (λ (x : ℕ). T (to_end G x)) (sym e) (read_lies_lem b q).1)
