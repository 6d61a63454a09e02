-- Numbers 19, 21 and 22 as the code reckons them: item by item, by the fields of the two forms, with numbers that are not below 0.
use Rattle.std.specs.Prelude.{ℕ, zero, suc, ◌+◌, ◌*◌, ◌-◌, ◌<◌, ◌≤◌, ◌≡◌, List, Bool, false, cond, leb, length, get_or, nat_abs}
use Rattle.mathematics.specs.Price.{whole}
use Rattle.mathematics.specs.Cover.{vert, arc, same_item, one_if}
use Rattle.mathematics.specs.Bound.{reads_through, vertex_slack, arc_slack, vertex_slacks_hold, arc_slack_holds}
use Rattle.forms.specs.Limits.{max_cost, max_demand, mark_limit, room_vertices, room_arcs}
use Rattle.reads.specs.ReadTable.{table_rows, row_length}
use Rattle.forms.specs.GraphForm.{vertex_count, arc_count, read_count, vertex_demand, arc_at, arc_demand}
use Rattle.forms.specs.GraphOf.{vertex_of, arc_of, graph_of, arc_item}
use Rattle.forms.specs.declared.Verdict.{Verdict}
use Rattle.forms.specs.GraphFaults.{then, first_fault}
use Rattle.forms.specs.AnswerForm.{in_mark_at, out_mark_at, first_path_at, answer_marks}
use Rattle.forms.specs.AnswerFaults.{mark_fault}

-- "Item" counts vertices, then arcs, then reads, from 0: the item of arc a, and of read r
abbrev pub arc_place : List ℕ → ℕ → ℕ
arc_place s a = vertex_count s + a

abbrev pub read_place : List ℕ → ℕ → ℕ
read_place s r = vertex_count s + arc_count s + r

-- 19: the demand of vertex v or of arc a against the weights tallied for it; read r against its flag
unfoldable pub vertex_unmet : List ℕ → List ℕ → ℕ → ℕ
vertex_unmet s totals v = cond (leb (vertex_demand s v) (get_or totals v 0)) 0 19

unfoldable pub arc_unmet : List ℕ → List ℕ → ℕ → ℕ
arc_unmet s totals a = cond (leb (arc_demand s (arc_at s a)) (get_or totals a 0)) 0 19

unfoldable pub read_unmet : List Bool → ℕ → ℕ
read_unmet met r = cond (get_or met r false) 0 19

-- 21: the slacks of vertex v and of arc a
unfoldable pub vertex_slack_fault : List ℕ → List ℕ → ℕ → ℕ
vertex_slack_fault s t v = cond (vertex_slacks_hold whole (graph_of s) (answer_marks s t) v (vertex_of s v)) 0 21

unfoldable pub arc_slack_fault : List ℕ → List ℕ → ℕ → ℕ
arc_slack_fault s t a = cond (arc_slack_holds whole (answer_marks s t) (arc_of s a)) 0 21

-- all of 19: vertices, then arcs, then reads
unfoldable pub unmet_verdict : List ℕ → List ℕ → List ℕ → List Bool → Verdict
unmet_verdict s vertex_totals arc_totals met =
    then (first_fault (vertex_unmet s vertex_totals) (λ v. v) (vertex_count s) 0)
    (then (first_fault (arc_unmet s arc_totals) (arc_place s) (arc_count s) 0) (first_fault (read_unmet met) (read_place s) (read_count s) 0))

-- all of 21: vertices, then arcs
unfoldable pub slacks_verdict : List ℕ → List ℕ → Verdict
slacks_verdict s t =
    then (first_fault (vertex_slack_fault s t) (λ v. v) (vertex_count s) 0) (first_fault (arc_slack_fault s t) (arc_place s) (arc_count s) 0)

-- the marks of the graph's vertices stand in the answer and are in range
pub record MarksStand (s t : List ℕ) : Type 0 where
  pub long : first_path_at s ≤ length t
  pub into : (v : ℕ) → v < vertex_count s → mark_fault t (in_mark_at s v) ≡ 0
  pub out : (v : ℕ) → v < vertex_count s → mark_fault t (out_mark_at s v) ≡ 0

-- no slack of a vertex or of an arc is below 0
pub record NoneBelow (s t : List ℕ) : Type 0 where
  pub vertices : (v : ℕ) → v < vertex_count s → vertex_slack_fault s t v ≡ 0
  pub arcs : (a : ℕ) → a < arc_count s → arc_slack_fault s t a ≡ 0

-- No more reads of a table can be counted at an item: a read passes it at most as often as its items go, of which it has fewer than twice its numbers.
abbrev pub most_reads : ℕ
most_reads = 2 * row_length * table_rows

-- no slack is more, with marks in range
abbrev pub most_slack : ℕ
most_slack = 2 * mark_limit + max_cost

-- and no part of the bound
abbrev pub most_part : ℕ
most_part = max_demand * most_slack

-- how many of the reads rs pass each vertex and each arc of the form
pub record ReadsCounted (s : List ℕ) (rs : List (List ℕ)) (vertex_reads arc_reads : List ℕ) : Type 0 where
  pub vertices : (v : ℕ) → v < vertex_count s → get_or vertex_reads v 0 ≡ reads_through (vert v) rs
  pub arcs : (a : ℕ) → a < arc_count s → get_or arc_reads a 0 ≡ reads_through (arc_item s a) rs
  pub vertices_low : (v : ℕ) → v < vertex_count s → get_or vertex_reads v 0 ≤ most_reads
  pub arcs_low : (a : ℕ) → a < arc_count s → get_or arc_reads a 0 ≤ most_reads

-- 22: what vertex v and arc a add to the bound, whose slacks are not below 0: its rest and the prepared reads through it, times its slack
unfoldable pub vertex_part : List ℕ → List ℕ → ℕ → ℕ → ℕ
vertex_part s t v reads = (vertex_demand s v - reads + reads) * nat_abs (vertex_slack whole (answer_marks s t) v)

unfoldable pub arc_part : List ℕ → List ℕ → ℕ → ℕ → ℕ
arc_part s t a reads = (arc_demand s (arc_at s a) - reads + reads) * nat_abs (arc_slack whole (answer_marks s t) (arc_of s a))

-- f at first, first + 1, .., count of them, in total
unfoldable pub sum_from : (ℕ → ℕ) → ℕ → ℕ → ℕ
sum_from f zero first = 0
sum_from f (suc count) first = f first + sum_from f count (suc first)

-- no count is above a number, so that counting on does not run over
pub record CountsLow (s vertex_reads arc_reads : List ℕ) (most : ℕ) : Type 0 where
  pub vertices_long : length vertex_reads ≡ room_vertices
  pub arcs_long : length arc_reads ≡ room_arcs
  pub vertices : (v : ℕ) → v < room_vertices → get_or vertex_reads v 0 ≤ most
  pub arcs : (a : ℕ) → a < arc_count s → get_or arc_reads a 0 ≤ most

-- the arc from u to v, where there is one, is counted once more
pub record ArcPassed (s : List ℕ) (u v : ℕ) (before after : List ℕ) : Type 0 where
  pub long : length after ≡ room_arcs
  pub each : (a : ℕ) → a < arc_count s → get_or after a 0 ≡ get_or before a 0 + one_if (same_item (arc_item s a) (arc u v))

-- a part of the bound
pub record Part (expected r : ℕ) : Type 0 where
  pub is : r ≡ expected
  pub low : r ≤ most_part

-- a sum of that many parts
pub record Sum (expected parts r : ℕ) : Type 0 where
  pub is : r ≡ expected
  pub low : r ≤ most_part * parts
