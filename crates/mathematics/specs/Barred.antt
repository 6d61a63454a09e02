-- #112, the test of a candidate: document 004's "reduction of G with respect to P" (Definition 2), with its added source read as start flags. A stretch
-- x1 .. xp is given by its last vertex z and the vertices before it, the nearest first. In the barred graph no path runs along the whole of it; the ways that
-- enter it behind x1 and run along it to z lead to z at once.
use Rattle.std.specs.Prelude.{ℕ, ◌≡◌, List, [], ◌∷◌, Bool, false, cond, not, ◌&&◌, ◌||◌, eqb, length}
use Rattle.mathematics.specs.Graph.{Graph, is_start, is_end, has_arc}

-- the list back, read backwards, and then p: the stretch is turned (y ∷ back) (z ∷ [])
abbrev pub turned : List ℕ → List ℕ → List ℕ
turned [] p = p
turned (x ∷ back) p = turned back (x ∷ p)

module _ {E : Type 0} where
  -- from u one steps to t, or to a vertex behind the first of back whence the stretch leads to t; and not from the vertex before it on the stretch
  abbrev pub steps : Graph E → ℕ → List ℕ → ℕ → Bool
  steps G t [] u = false
  steps G t (y ∷ back) u = (has_arc G.arcs u t && not (eqb u y)) || steps G y back u

  -- t, or a vertex behind the first of back whence the stretch leads to t, is a start
  abbrev pub opens : Graph E → ℕ → List ℕ → Bool
  opens G t [] = false
  opens G t (y ∷ back) = is_start G t || opens G y back

  -- H is the barred graph: that of G, but for the arcs to z and whether z is a start
  pub record Barred (G : Graph E) (z : ℕ) (back : List ℕ) (H : Graph E) : Type 0 where
    pub same_count : length H.vertices ≡ length G.vertices
    pub starts_are : (v : ℕ) → is_start H v ≡ cond (eqb v z) (opens G z back) (is_start G v)
    pub ends_are : (v : ℕ) → is_end H v ≡ is_end G v
    pub arcs_are : (u v : ℕ) → has_arc H.arcs u v ≡ cond (eqb v z) (steps G z back u) (has_arc G.arcs u v)
