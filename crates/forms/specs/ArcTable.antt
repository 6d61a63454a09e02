-- Which arc goes from one vertex to another: its number in the form, and the table by which the code finds it without a look at all arcs.
use Rattle.std.specs.Prelude.{ℕ, suc, ◌+◌, ◌<◌, ◌≤◌, ◌≡◌, List, [], ◌∷◌, Bool, cond, ◌&&◌, ltb, ℤ, get_or, Option, Some, None}
use Rattle.mathematics.specs.Graph.{Arc, joins, has_arc}
use Rattle.mathematics.specs.Cover.{one_if}
use Rattle.forms.specs.Limits.{room_vertices}
use Rattle.forms.specs.GraphForm.{first_arc_at, arc_count, arc_at, arc_tail, arc_head}
use Rattle.forms.specs.GraphOf.{arcs_of}
use Rattle.forms.specs.GraphReads.{ArcsRight}

-- the number of the first arc of the list that goes from u to v, where the list's own first arc has number k
unfoldable pub number_from : List (Arc ℤ) → ℕ → ℕ → ℕ → Option ℕ
number_from [] u v k = None
number_from (a ∷ arcs) u v k = cond (joins a u v) (Some k) (number_from arcs u v (suc k))

-- the number of the arc from u to v
abbrev pub arc_number : List (Arc ℤ) → ℕ → ℕ → Option ℕ
arc_number arcs u v = number_from arcs u v 0

-- arc k of the form goes from u to v: what a lookup that gives `Some k` says; `None` says that no arc does
abbrev pub Goes : List ℕ → ℕ → ℕ → ℕ → Type 0
Goes s u v k = (k < arc_count s) × (arc_tail s (arc_at s k) ≡ u) × (arc_head s (arc_at s k) ≡ v)

-- v is below n, and some arc goes from u to v
unfoldable pub goes_on : ℕ → List (Arc ℤ) → ℕ → ℕ → Bool
goes_on n arcs u v = ltb v n && has_arc arcs u v

-- how many arcs have a tail below u
unfoldable pub tails_below : List (Arc ℤ) → ℕ → ℕ
tails_below [] u = 0
tails_below (a ∷ arcs) u = one_if (ltb a.tail u) + tails_below arcs u

-- base is the place of the first arc of a form whose arcs are right, and count the number of its arcs
pub record ArcsFrom (s : List ℕ) (base count : ℕ) : Type 0 where
  pub right : ArcsRight s
  pub first : base ≡ first_arc_at s
  pub arcs : count ≡ arc_count s

-- the table of first arcs of a form whose arcs are right: at u the number of arcs whose tail is below u, which is the number of u's own first arc
pub record ArcTable (s first : List ℕ) : Type 0 where
  pub arcs : ArcsRight s
  pub at : (u : ℕ) → u ≤ room_vertices → get_or first u 0 ≡ tails_below (arcs_of s) u
