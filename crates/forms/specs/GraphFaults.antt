-- Document 01, "Numbers returned when an input is turned down", numbers 1 to 7, and their order: "headers by rising number, then records front
-- to back, the first faulty record deciding", "Remaining bytes come last".
use Rattle.std.specs.Prelude.{ℕ, zero, suc, ◌+◌, ◌-◌, List, [], ◌∷◌, Bool, true, cond, not, ◌&&◌, ◌||◌, ltb, eqb, length, ℤ}
use Rattle.mathematics.specs.Graph.{Arc, linked}
use Rattle.forms.specs.declared.Verdict.{Verdict}
use Rattle.forms.specs.Limits.{max_opening, max_cost, max_demand, min_read_length}
use Rattle.forms.specs.Layout.{version_at, version, newest, max_vertices, max_arcs, max_reads, max_read_length, max_flag, vertex_length}
use Rattle.forms.specs.GraphForm.{header_length, length_word, vertex_count_at, vertex_count, arc_count_at, arc_count, read_count_at, read_count, opening_price_at, opening_price, vertex_at, flags, vertex_demand, arc_length, arc_at, arc_tail, arc_head, arc_cost, arc_demand, first_read_at, read_length, read_vertices_at, read_vertices, read_end}
use Rattle.forms.specs.GraphOf.{arcs_of}

-- "Each answer holds number and place; both are 0 where nothing is refused."
abbrev pub refusal : ℕ → ℕ → Verdict
refusal n at = record { number = n; place = at }

abbrev pub nothing_refused : Verdict
nothing_refused = refusal 0 0

-- the first faulty record decides: what comes after counts only where nothing was refused before
unfoldable pub then : Verdict → Verdict → Verdict
then first after = cond (eqb first.number 0) after first

-- a fault's number, 0 for none, at its place; where there is none, what comes after
abbrev pub or_else : ℕ → ℕ → Verdict → Verdict
or_else fault at after = cond (eqb fault 0) after (refusal fault at)

-- count records of one kind, the first of them number i: the first faulty one decides
unfoldable pub first_fault : (fault place : ℕ → ℕ) → ℕ → ℕ → Verdict
first_fault fault place zero i = nothing_refused
first_fault fault place (suc count) i = or_else (fault i) (place i) (first_fault fault place count (suc i))

-- 1: "graph under 13 bytes, or length word differs from its length"; 2: "graph version not 1"; 3: "a count outside its range (vertices, arcs,
-- reads)", place "5, 6 or 8, the first such"; 4: opening price out of range, place 9
unfoldable pub header_verdict : List ℕ → Verdict
header_verdict s =
    cond (ltb (length s) (header_length s) || not (eqb (length_word s) (length s))) (refusal 1 0)
    (cond (eqb (version s) 0 || ltb newest (version s)) (refusal 2 version_at)
    (cond (eqb (vertex_count s) 0 || ltb (max_vertices s) (vertex_count s)) (refusal 3 vertex_count_at)
    (cond (ltb (max_arcs s) (arc_count s)) (refusal 3 (arc_count_at s))
    (cond (ltb (max_reads s) (read_count s)) (refusal 3 (read_count_at s))
    (cond (ltb max_opening (opening_price s)) (refusal 4 (opening_price_at s)) nothing_refused)))))

-- 5: "a record runs past the end"; 4: "flag, demand or cost out of range". "Within a vertex or arc record: 5, 4, 6."
unfoldable pub vertex_fault : List ℕ → ℕ → ℕ
vertex_fault s v =
    cond (ltb (length s) (vertex_at s v + vertex_length s)) 5
    (cond (ltb (max_flag s) (flags s v) || ltb max_demand (vertex_demand s v)) 4 0)

-- "strictly ascending by tail, then head": the arc at an offset comes after the arc at another
abbrev pub follows : List ℕ → ℕ → ℕ → Bool
follows s before at =
    ltb (arc_tail s before) (arc_tail s at) || (eqb (arc_tail s before) (arc_tail s at) && ltb (arc_head s before) (arc_head s at))

-- the first arc, or one that comes after the arc whose record stands just before
abbrev pub ascends : List ℕ → ℕ → Bool
ascends s at = eqb at (arc_at s 0) || follows s (at - arc_length) at

-- 6: "arc not tail < head < n, or not ascending"
unfoldable pub arc_fault : List ℕ → ℕ → ℕ
arc_fault s at =
    cond (ltb (length s) (at + arc_length)) 5
    (cond (ltb max_cost (arc_cost s at) || ltb max_demand (arc_demand s at)) 4
    (cond (ltb (arc_tail s at) (arc_head s at) && (ltb (arc_head s at) (vertex_count s) && ascends s at)) 0 6))

-- each number is below n
abbrev pub all_below : ℕ → List ℕ → Bool
all_below n [] = true
all_below n (v ∷ r) = ltb v n && all_below n r

-- each vertex below n, each consecutive pair an arc
unfoldable pub walks : ℕ → List (Arc ℤ) → List ℕ → Bool
walks n arcs vs = all_below n vs && linked arcs vs

-- 7: "read count not 2..16, vertex not below n, or pair without arc". "Within a read: missing count byte 5, bad count 7, past the end 5, then the rest of 7."
unfoldable pub read_fault : List ℕ → ℕ → ℕ
read_fault s at =
    cond (ltb (length s) (read_vertices_at s at)) 5
    (cond (ltb (read_length s at) min_read_length || ltb (max_read_length s) (read_length s at)) 7
    (cond (ltb (length s) (read_end s at)) 5
    (cond (walks (vertex_count s) (arcs_of s) (read_vertices s at)) 0 7)))

-- "the record" is its offset
abbrev pub vertices_verdict : List ℕ → Verdict
vertices_verdict s = first_fault (vertex_fault s) (vertex_at s) (vertex_count s) 0

abbrev pub arcs_verdict : List ℕ → Verdict
arcs_verdict s = first_fault (λ a. arc_fault s (arc_at s a)) (arc_at s) (arc_count s) 0

-- count reads, the first at an offset. 5: "or bytes remain", place "the end of the last"
unfoldable pub reads_verdict : List ℕ → ℕ → ℕ → Verdict
reads_verdict s zero at = cond (ltb at (length s)) (refusal 5 at) nothing_refused
reads_verdict s (suc count) at = or_else (read_fault s at) at (reads_verdict s count (read_end s at))

-- the number and place that reading the form gives
unfoldable pub graph_verdict : List ℕ → Verdict
graph_verdict s =
    then (header_verdict s)
    (then (vertices_verdict s)
    (then (arcs_verdict s)
    (reads_verdict s (read_count s) (first_read_at s))))
