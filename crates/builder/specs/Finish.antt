-- What the last part of a build has in hand: marks and loads as the flow leaves them, and the price that they come to. Private functions cite these; no
-- public promise does.
use Rattle.std.specs.Prelude.{ℕ, ◌+◌, ◌*◌, ◌-◌, ◌≤◌, ◌<◌, ◌≡◌, List, cond, T, eqb, ℤ, length, take, drop}
use Rattle.mathematics.specs.Bound.{reads_through, Marks}
use Rattle.mathematics.specs.Reach.{useful}
use Rattle.mathematics.specs.Links.{in_node, out_node, link_from, link_to, side_mark}
use Rattle.forms.specs.GraphForm.{vertex_count, arc_count, opening_price, arc_at, arc_cost}
use Rattle.forms.specs.GraphOf.{graph_of, arc_item}
use Rattle.forms.specs.GraphReads.{Reads}
use Rattle.forms.specs.GraphFaults.{nothing_refused}
use Rattle.checker.specs.Check.{check_verdict}
use Rattle.network.specs.Network.{nth, sum_to, base, span, most_edges, most_moved, highest}
use Rattle.paths.specs.Slots.{prepared_of, plain_slots, across_slot, reading_slot, link_at, in_use, edge_cost, first_load, copies_of}
use Rattle.paths.specs.Peel.{GoesRound}
use Rattle.reads.specs.ReadTable.{row_length, table_rows}
use Rattle.forms.specs.Limits.{max_demand, max_opening, max_cost, room_arcs}
use Rattle.writing.specs.Writing.{held_marks}

-- ---- sizes, from those of the form, of the tables and of the network

-- what passes an arc at the most: what its link carries, its first load with all that is moved, and each prepared read, twice for each vertex in its row
abbrev pub most_through : ℕ
most_through = most_moved + max_demand + 2 * row_length * table_rows

-- so no price is higher
abbrev pub most_price : ℕ
most_price = most_moved * max_opening + room_arcs * (most_through * max_cost)

-- ---- what stands in the arrays

-- Marks of the nodes and loads added to the first ones, once all is carried: marks are near the root's, no slack of a link in use is below 0, a link with an
-- added load is in use and has slack 0; `full` is what each link carries in all.
pub record Settled (s mark added full : List ℕ) : Type 0 where
  pub at_root : nth mark 0 ≡ base
  pub in_near : (v : ℕ) → T (useful (graph_of s) v) → (nth mark (in_node v) ≤ highest) × (base ≤ nth mark (in_node v) + span)
  pub out_near : (v : ℕ) → T (useful (graph_of s) v) → (nth mark (out_node v) ≤ highest) × (base ≤ nth mark (out_node v) + span)
  pub slacks : (e : ℕ) → e < plain_slots s → T (in_use s (link_at s e)) →
      nth mark (link_to 0 (link_at s e)) ≤ edge_cost s e + nth mark (link_from (link_at s e))
  pub added_in_use : (e : ℕ) → e < plain_slots s → 1 ≤ nth added e → T (in_use s (link_at s e))
  pub tight : (e : ℕ) → e < plain_slots s → 1 ≤ nth added e →
      nth mark (link_to 0 (link_at s e)) ≡ edge_cost s e + nth mark (link_from (link_at s e))
  pub plain : (e : ℕ) → e < plain_slots s → nth full e ≡ first_load s e + nth added e
  pub reads : (r : ℕ) → r < length (prepared_of s) → nth full (reading_slot s r) ≡ 1

-- what the copies through arc a cost there
abbrev pub arc_worth : List ℕ → List ℕ → ℕ → ℕ
arc_worth s full a = (nth full (across_slot s a) + reads_through (arc_item s a) (prepared_of s)) * arc_cost s (arc_at s a)

-- "The price of a cover", from the loads that its paths carry
unfoldable pub price_from : List ℕ → List ℕ → ℕ
price_from s full = copies_of s full * opening_price s + sum_to (arc_count s) (arc_worth s full)

-- The mark of a side of vertex v, held with `base` added: its node's where v is useful; the greatest where no start leads to v; else the least.
unfoldable pub held_mark : List ℕ → (ℕ → ℕ) → List ℕ → ℕ → ℕ
held_mark s side mark v = side_mark (graph_of s) (base - span) highest (nth mark (side v)) v

-- the final marks of the form's vertices
abbrev pub final_marks : List ℕ → List ℕ → Marks ℤ
final_marks s mark = held_marks (held_mark s in_node mark) (held_mark s out_node mark)

-- the arrays hold the final marks of all vertices of the form
pub record MarksHeld (s mark into out : List ℕ) : Type 0 where
  pub into_held : (v : ℕ) → v < vertex_count s → nth into v ≡ held_mark s in_node mark v
  pub out_held : (v : ℕ) → v < vertex_count s → nth out v ≡ held_mark s out_node mark v

-- the loads have a price that is small enough to reckon with, and the counts are those of the prepared reads through each arc
pub record Priced (s full arc_reads : List ℕ) : Type 0 where
  pub reads : Reads s
  pub few : copies_of s full ≤ most_moved
  pub low : price_from s full ≤ most_price
  pub totals : (a : ℕ) → a < arc_count s → nth full (across_slot s a) + reads_through (arc_item s a) (prepared_of s) ≤ most_through
  pub counted : (a : ℕ) → a < arc_count s → nth arc_reads a ≡ reads_through (arc_item s a) (prepared_of s)

-- What the flow adds to the first loads of the first `plain` edges: what it carries there, but nothing on a loop, which stands for a link that is not in use.
pub record Added (plain : ℕ) (from to load first added full : List ℕ) : Type 0 where
  pub long : length full ≡ most_edges
  pub added_is : (e : ℕ) → e < plain → nth added e ≡ cond (eqb (nth from e) (nth to e)) 0 (nth load e)
  pub full_is : (e : ℕ) → e < plain → nth full e ≡ nth first e + nth added e
  pub kept : (e : ℕ) → plain ≤ e → nth full e ≡ nth first e

-- Full loads once all is carried: they go round, each prepared read has its unit, and no more copies open than an answer may hold.
pub record Loaded (s from to full : List ℕ) : Type 0 where
  pub goes : GoesRound s (2 * vertex_count s + 1) from to full
  pub reads : (r : ℕ) → r < length (prepared_of s) → nth full (reading_slot s r) ≡ 1
  pub few : copies_of s full ≤ most_moved
  pub low : (e : ℕ) → e < plain_slots s → nth full e ≤ most_moved + max_demand
  pub long : length full ≡ most_edges

-- Marks and full loads once all is carried.
pub record Flowed (s from to mark full : List ℕ) : Type 0 where
  pub added : List ℕ
  pub settled : Settled s mark added full
  pub loaded : Loaded s from to full

-- An answer that the checker accepts stands in the first r bytes, and every other byte is as it was.
pub record Answered (s before after : List ℕ) (r : ℕ) : Type 0 where
  pub accepted : check_verdict s (take r after) ≡ nothing_refused
  pub fits : r ≤ length before
  pub behind : drop r after ≡ drop r before
  pub same_length : length after ≡ length before
