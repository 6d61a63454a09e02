-- When a cover exists, as tests that compute. A vertex is reached from a start when it is a start or the head of an arc whose tail is reached; it reaches
-- an end when it is an end or the tail of an arc whose head does. Numbers rise along arcs, so the number of steps to look is known.
use Rattle.std.specs.Prelude.{ℕ, zero, suc, ◌-◌, List, [], ◌∷◌, Bool, true, false, ◌&&◌, ◌||◌, eqb, length}
use Rattle.mathematics.specs.Lists.{last_of}
use Rattle.mathematics.specs.Graph.{Arc, Graph, is_start, is_end}
use Rattle.mathematics.specs.Cover.{Item, vert, arc, Ask, asks}

-- f holds of each
abbrev pub every : {A : Type 0} → (A → Bool) → List A → Bool
every f [] = true
every f (x ∷ xs) = f x && every f xs

-- the vertices of an item, as a list
abbrev pub item_list : Item → List ℕ
item_list (vert v) = v ∷ []
item_list (arc u v) = u ∷ v ∷ []

module _ {E : Type 0} where
  -- f holds of the tail of an arc to v
  abbrev pub some_into : (ℕ → Bool) → List (Arc E) → ℕ → Bool
  some_into f [] v = false
  some_into f (a ∷ arcs) v =
      let here = f a.tail in
      (eqb a.head v && here) || some_into f arcs v

  -- f holds of the head of an arc from v
  abbrev pub some_out : (ℕ → Bool) → List (Arc E) → ℕ → Bool
  some_out f [] v = false
  some_out f (a ∷ arcs) v =
      let here = f a.head in
      (eqb a.tail v && here) || some_out f arcs v

  -- a start is at most `steps` arcs before v
  abbrev pub from_start_in : Graph E → ℕ → ℕ → Bool
  from_start_in G zero v = is_start G v
  from_start_in G (suc steps) v = is_start G v || some_into (from_start_in G steps) G.arcs v

  -- an end is at most `steps` arcs behind v
  abbrev pub to_end_in : Graph E → ℕ → ℕ → Bool
  to_end_in G zero v = is_end G v
  to_end_in G (suc steps) v = is_end G v || some_out (to_end_in G steps) G.arcs v

  -- v is reached from a start: at most v arcs lead to v
  unfoldable pub from_start : Graph E → ℕ → Bool
  from_start G v = from_start_in G v v

  -- v reaches an end: at most n - v arcs lead on from v
  unfoldable pub to_end : Graph E → ℕ → Bool
  to_end G v = to_end_in G (length G.vertices - v) v

  -- a vertex is useful when both hold of it: it lies on a start-to-end path
  abbrev pub useful : Graph E → ℕ → Bool
  useful G v = from_start G v && to_end G v

  -- a read lies on a start-to-end path when its first vertex is reached from a start and its last reaches an end,
  abbrev pub read_lies : Graph E → List ℕ → Bool
  read_lies G [] = false
  read_lies G (v ∷ r) = from_start G v && to_end G (last_of v r)

  -- and a vertex or an arc does as the read of its vertices would
  abbrev pub item_lies : Graph E → Item → Bool
  item_lies G i = read_lies G (item_list i)

  -- the item asks for nothing, or lies on a start-to-end path
  abbrev pub ask_lies : Graph E → Ask → Bool
  ask_lies G a = eqb a.demand 0 || item_lies G a.item

  -- whether there is a cover
  unfoldable pub coverable_test : Graph E → Bool
  coverable_test G = every (ask_lies G) (asks G) && every (read_lies G) G.reads
