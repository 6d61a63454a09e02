-- How the builder numbers the links of a graph (crates/mathematics, specs/Links.antt) as edges of its working network, and what lies on them at first.
-- For a graph of n vertices and m arcs: the vertices, the arcs from the last down, the openings from the last down, the closings, then the prepared
-- reads. (A chain of edges is walked from the last edge down: so a walk tries a closing first, then arcs and openings by rising vertex, and paths come
-- out nearly in order.) The builder's stages cite these; no promise of its call does.
use Rattle.std.specs.Prelude.{ℕ, zero, suc, ◌+◌, ◌*◌, ◌-◌, ◌/◌, List, [], Bool, true, cond, ◌&&◌, ltb, length, get_or}
use Rattle.mathematics.specs.Graph.{is_start, is_end}
use Rattle.mathematics.specs.Cover.{vert, arc}
use Rattle.mathematics.specs.Prepare.{prepare}
use Rattle.mathematics.specs.Bound.{rest}
use Rattle.mathematics.specs.Reach.{useful}
use Rattle.mathematics.specs.Links.{Link, opening, closing, inside, across, reading, link_from, link_to}
use Rattle.forms.specs.GraphForm.{vertex_count, arc_count, opening_price, arc_at, arc_tail, arc_head, arc_cost, arc_demand, vertex_demand}
use Rattle.forms.specs.GraphOf.{graph_of}
use Rattle.network.specs.Network.{nth, sum_to}

-- the prepared reads of the graph form s
abbrev pub prepared_of : List ℕ → List (List ℕ)
prepared_of s = prepare (graph_of s).reads

-- the number of links but the reads, and with them
abbrev pub plain_slots : List ℕ → ℕ
plain_slots s = 3 * vertex_count s + arc_count s

abbrev pub all_slots : List ℕ → ℕ
all_slots s = plain_slots s + length (prepared_of s)

-- the edges of vertex v, of arc a, of v's opening and closing, of prepared read r
abbrev pub inside_slot : List ℕ → ℕ → ℕ
inside_slot s v = v

abbrev pub across_slot : List ℕ → ℕ → ℕ
across_slot s a = vertex_count s + (arc_count s - (a + 1))

abbrev pub opening_slot : List ℕ → ℕ → ℕ
opening_slot s v = vertex_count s + arc_count s + (vertex_count s - (v + 1))

abbrev pub closing_slot : List ℕ → ℕ → ℕ
closing_slot s v = 2 * vertex_count s + arc_count s + v

abbrev pub reading_slot : List ℕ → ℕ → ℕ
reading_slot s r = plain_slots s + r

-- the link that an edge stands for
unfoldable pub link_at : List ℕ → ℕ → Link
link_at s e =
    cond (ltb e (vertex_count s)) (inside e)
    (cond (ltb e (vertex_count s + arc_count s))
    (across (arc_tail s (arc_at s (vertex_count s + arc_count s - (e + 1)))) (arc_head s (arc_at s (vertex_count s + arc_count s - (e + 1)))))
    (cond (ltb e (2 * vertex_count s + arc_count s)) (opening (2 * vertex_count s + arc_count s - (e + 1)))
    (cond (ltb e (plain_slots s)) (closing (e - (2 * vertex_count s + arc_count s)))
    (reading (get_or (prepared_of s) (e - plain_slots s) [])))))

-- the node stands for a side of a useful vertex, or is the root
unfoldable pub live_node : List ℕ → ℕ → Bool
live_node s zero = true
live_node s (suc u) = useful (graph_of s) (u / 2)

-- The link is in use: both its nodes are live, and an opening (closing) belongs to a start (an end).
unfoldable pub in_use : List ℕ → Link → Bool
in_use s (opening v) = is_start (graph_of s) v && useful (graph_of s) v
in_use s (closing v) = is_end (graph_of s) v && useful (graph_of s) v
in_use s (inside v) = useful (graph_of s) v
in_use s (across u v) = useful (graph_of s) u && useful (graph_of s) v
in_use s (reading r) = true

-- an edge that is not in use is a loop at the root. A closing leads back to the root.
unfoldable pub edge_from : List ℕ → ℕ → ℕ
edge_from s e = cond (in_use s (link_at s e)) (link_from (link_at s e)) 0

unfoldable pub edge_to : List ℕ → ℕ → ℕ
edge_to s e = cond (in_use s (link_at s e)) (link_to 0 (link_at s e)) 0

-- the cost of a link, for an edge that is no read
unfoldable pub edge_cost : List ℕ → ℕ → ℕ
edge_cost s e =
    cond (in_use s (link_at s e))
    (cond (ltb e (vertex_count s)) 0
    (cond (ltb e (vertex_count s + arc_count s)) (arc_cost s (arc_at s (vertex_count s + arc_count s - (e + 1))))
    (cond (ltb e (2 * vertex_count s + arc_count s)) (opening_price s) 0))) 0

-- what lies on an edge at first: a vertex's and an arc's rest, and one unit of each prepared read
unfoldable pub first_load : List ℕ → ℕ → ℕ
first_load s e =
    cond (ltb e (vertex_count s)) (rest (prepared_of s) (vert e) (vertex_demand s e))
    (cond (ltb e (vertex_count s + arc_count s))
    (rest (prepared_of s)
    (arc (arc_tail s (arc_at s (vertex_count s + arc_count s - (e + 1)))) (arc_head s (arc_at s (vertex_count s + arc_count s - (e + 1)))))
    (arc_demand s (arc_at s (vertex_count s + arc_count s - (e + 1)))))
    (cond (ltb e (plain_slots s)) 0 1))

-- the copies that the loads open
abbrev pub copies_of : List ℕ → List ℕ → ℕ
copies_of s full = sum_to (vertex_count s) (λ k. nth full (vertex_count s + arc_count s + k))
