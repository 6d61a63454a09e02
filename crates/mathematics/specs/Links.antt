-- The network of a graph, on which the builder works: covers are what flows on it from the root to the finish. Each vertex v has two nodes, 2v + 1 (its in
-- side, with its in-mark) and 2v + 2 (its out side, with its out-mark); the root is 0 and the finish 2n + 1. Links join the nodes.
use Rattle.std.specs.Prelude.{ℕ, ◌+◌, ◌*◌, List, [], ◌∷◌, ◌++◌, cond, get_or}
use Rattle.mathematics.specs.Lists.{last_of}
use Rattle.mathematics.specs.Graph.{Graph}
use Rattle.mathematics.specs.Cover.{Item, vert, arc, trail, count_of}
use Rattle.mathematics.specs.Reach.{from_start, useful}

-- root → in side of a start; out side of an end → finish; in side → out side of a vertex; out side of u → in side of v for an arc;
-- in side of a read's first vertex → out side of its last
pub data Link : Type 0 where
  opening : ℕ → Link
  closing : ℕ → Link
  inside : ℕ → Link
  across : ℕ → ℕ → Link
  reading : List ℕ → Link

-- the two sides of a vertex
abbrev pub in_node : ℕ → ℕ
in_node v = 2 * v + 1

abbrev pub out_node : ℕ → ℕ
out_node v = 2 * v + 2

-- the node that a link leaves,
abbrev pub link_from : Link → ℕ
link_from (opening v) = 0
link_from (closing v) = out_node v
link_from (inside v) = in_node v
link_from (across u v) = out_node u
link_from (reading r) = in_node (get_or r 0 0)

-- and the one that it leads to, with z for the finish
abbrev pub link_to : ℕ → Link → ℕ
link_to z (opening v) = in_node v
link_to z (closing v) = z
link_to z (inside v) = out_node v
link_to z (across u v) = in_node v
link_to z (reading r) = out_node (last_of 0 r)

-- what a walk along the link passes through: the vertices,
abbrev pub link_vertices : Link → List ℕ
link_vertices (opening v) = []
link_vertices (closing v) = []
link_vertices (inside v) = v ∷ []
link_vertices (across u v) = []
link_vertices (reading r) = r

-- and the vertices and arcs
abbrev pub link_items : Link → List Item
link_items (opening v) = []
link_items (closing v) = []
link_items (inside v) = vert v ∷ []
link_items (across u v) = arc u v ∷ []
link_items (reading r) = trail r

-- how often the item stands on the link
abbrev pub passes : Item → Link → ℕ
passes i l = count_of i (link_items l)

-- 1 for an opening link: a walk from the root takes one, so the flow on these is the number of copies
abbrev pub opens : Link → ℕ
opens (opening v) = 1
opens (closing v) = 0
opens (inside v) = 0
opens (across u v) = 0
opens (reading r) = 0

-- the vertices of a walk, given by its links
abbrev pub path_of : List Link → List ℕ
path_of [] = []
path_of (l ∷ ls) = link_vertices l ++ path_of ls

-- the path begins with a vertex of which Opens holds and ends with one of which Closes holds
abbrev pub AtEnds : (ℕ → Type 0) → (ℕ → Type 0) → List ℕ → Type 0
AtEnds Opens Closes [] = ⊥
AtEnds Opens Closes (v ∷ p) = Opens v × Closes (last_of v p)

-- The mark of a vertex's side: its node's where the vertex is useful. One that no start reaches takes high, one that a start reaches and that reaches no
-- end takes low; with low and high below and above all the nodes' marks, no slack there is below 0.
abbrev pub side_mark : {E F : Type 0} → Graph F → E → E → E → ℕ → E
side_mark G low high own v = cond (useful G v) own (cond (from_start G v) low high)
