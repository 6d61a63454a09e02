-- A walk along a list of vertices: whether all of the list is one is whether it goes on from the vertex reached along the rest.
use Rattle.std.proofs.Common.{◌≡◌, ℕ, ◌+◌, ◌-◌, ◌<◌, ◌≤◌, Bool, true, false, ◌&&◌, List, ℤ, length, get_or, take, drop, sym, ap, ◌∙◌, add-one, arith, drop-cons}
use Rattle.std.proofs.Math.Seq.{take-length}
use Rattle.std.proofs.Math.ListN.{drop_of_length-le}
use Rattle.mathematics.specs.Graph.{Arc}
use Rattle.forms.specs.ArcTable.{goes_on}
use Rattle.forms.specs.Bytes.{part}
use Rattle.forms.specs.GraphFaults.{walks}
use Rattle.forms.proofs.WalkLaws.{walks_from, walk_outside, walk_begins}

-- a list is the part of it that has all its vertices, and the part behind its first vertex
whole : (vs : List ℕ) → part vs 0 (length vs) ≡ vs
unfolding part
whole vs = take-length vs

behind : (vs : List ℕ) → part vs (0 + 1) (0 + length vs - (0 + 1)) ≡ take (length vs - 1) (drop 1 vs)
unfolding part
behind vs =
    let e : 0 + length vs - (0 + 1) ≡ length vs - 1 = omega arith in
    rw e

module _ (n : ℕ) (arcs : List (Arc ℤ)) where
  module _ (vs : List ℕ) (some : 1 ≤ length vs) {u : ℕ} (first : u ≡ get_or vs 0 0) where
    pub along_outside : n ≤ u → false ≡ walks n arcs vs
    along_outside h = walk_outside n arcs vs 0 (length vs) some (omega arith) first h ∙ ap (walks n arcs) (whole vs)

    pub along_begins : u < n → walks n arcs vs ≡ walks_from n arcs u (take (length vs - 1) (drop 1 vs))
    along_begins h = ap (walks n arcs) (sym (whole vs)) ∙ walk_begins n arcs vs 0 (length vs) some (omega arith) first h ∙ ap (walks_from n arcs u) (behind vs)

  module _ (u : ℕ) (rest : List ℕ) (i : ℕ) where
    pub along_ends : length rest ≤ i → walks_from n arcs u (drop i rest) ≡ true
    unfolding walks_from
    along_ends h = rw (drop_of_length-le rest h)

    module _ (more : i < length rest) {v : ℕ} (read : v ≡ get_or rest i 0) {g : Bool} (went : g ≡ goes_on n arcs u v) where
      onward : walks_from n arcs u (drop i rest) ≡ (g && walks_from n arcs v (drop (i + 1) rest))
      unfolding walks_from
      onward = rw (drop-cons rest i 0, add-one, ← read, went)

      pub along_stops : g ≡ false → walks_from n arcs u (drop i rest) ≡ false
      along_stops e = onward ∙ rw e

      pub along_turns : g ≡ true → walks_from n arcs u (drop i rest) ≡ walks_from n arcs v (drop (i + 1) rest)
      along_turns e = onward ∙ rw e
