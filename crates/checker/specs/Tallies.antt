-- What reading the paths of an answer tallies: for each vertex and arc the weights of the paths through it, for each read whether a path holds it,
-- and the price of the paths. Document 01: "the weights of the paths through it total at least its demand, and each read is satisfied by some path".
use Rattle.std.specs.Prelude.{ℕ, zero, suc, ◌+◌, ◌*◌, ◌<◌, ◌≤◌, ◌≡◌, List, [], Bool, false, length, get_or, pos}
use Rattle.mathematics.specs.Price.{whole}
use Rattle.mathematics.specs.Lists.{some_holds}
use Rattle.mathematics.specs.Cover.{vert, trail, arc_costs, total, paths, price}
use Rattle.forms.specs.AnswerFaults.{path_head_or, path_fault, paths_verdict}
use Rattle.forms.specs.AnswerForm.{path_count, first_path_at, path_weight, path_length, path_vertices, path_end, cover_of}
use Rattle.forms.specs.GraphFaults.{refusal, nothing_refused}
use Rattle.forms.specs.GraphForm.{vertex_count, arc_count, read_count}
use Rattle.forms.specs.GraphOf.{graph_of, arcs_of, arc_item}
use Rattle.forms.specs.Layout.{max_weight, max_path_length}
use Rattle.forms.specs.Limits.{room_vertices, room_arcs, room_reads, max_cost}
use Rattle.certify.specs.Growth.{Grown}
use Rattle.tally.specs.Tally.{read_of, ReadsMet}

-- the head of a path's record, so far as it can be judged without the graph: 15, 16, 15 or 17
unfoldable pub path_head_fault : List ℕ → List ℕ → ℕ → ℕ → ℕ
path_head_fault s t at copies = path_head_or s t at copies 0

-- the head of a path's record is right
pub record PathHead (s t : List ℕ) (at copies : ℕ) : Type 0 where
  pub whole : path_end s t at ≤ length t
  pub some : 1 ≤ path_length s t at
  pub short : path_length s t at ≤ max_path_length s
  pub weighs : 1 ≤ path_weight t at
  pub few_copies : copies + path_weight t at ≤ max_weight s

-- a path's record is right and is tallied: totals grown (b before, a after), reads marked, the costs of its arcs found
pub record Recorded (s t : List ℕ) (at copies : ℕ) (vb va ab aa : List ℕ) (mb ma : List Bool) (cost : ℕ) : Type 0 where
  pub head : PathHead s t at copies
  pub grown : Grown s (path_weight t at) (trail (path_vertices s t at)) vb va ab aa
  pub marked : ReadsMet s (path_vertices s t at) mb ma
  pub costs : pos cost ≡ arc_costs whole (arcs_of s) (path_vertices s t at)
  pub low_cost : cost ≤ max_cost * room_vertices

-- what reading one path's record gives: its fault, and where there is none the tallies
pub record PathRead (s t : List ℕ) (at : ℕ) (before : List ℕ) (copies : ℕ) (vb va ab aa : List ℕ) (mb ma : List Bool) (fault cost : ℕ) : Type 0 where
  pub is_fault : fault ≡ path_fault s t at before copies
  pub tallied : fault ≡ 0 → Recorded s t at copies vb va ab aa mb ma cost

-- nothing is tallied yet
pub record NothingTallied (vertex_totals arc_totals : List ℕ) (met : List Bool) : Type 0 where
  pub vertices_long : length vertex_totals ≡ room_vertices
  pub arcs_long : length arc_totals ≡ room_arcs
  pub reads_long : length met ≡ room_reads
  pub vertices : (v : ℕ) → get_or vertex_totals v 0 ≡ 0
  pub arcs : (k : ℕ) → get_or arc_totals k 0 ≡ 0
  pub reads : (r : ℕ) → get_or met r false ≡ false

-- the tallies are those of all paths of the answer
pub record Tallied (s t vertex_totals arc_totals : List ℕ) (met : List Bool) (cost : ℕ) : Type 0 where
  pub vertices : (v : ℕ) → v < vertex_count s → get_or vertex_totals v 0 ≡ total (vert v) (cover_of s t)
  pub arcs : (k : ℕ) → k < arc_count s → get_or arc_totals k 0 ≡ total (arc_item s k) (cover_of s t)
  pub reads : (r : ℕ) → r < read_count s → get_or met r false ≡ some_holds (paths (cover_of s t)) (read_of s r)
  pub costs : pos cost ≡ price whole (graph_of s) (cover_of s t)

-- what reading all paths gives: the verdict, and where nothing is refused the tallies
pub record PathsRead (s t vertex_totals arc_totals : List ℕ) (met : List Bool) (number place cost : ℕ) : Type 0 where
  pub verdict : refusal number place ≡ paths_verdict s t (path_count t) (first_path_at s) [] 0 nothing_refused
  pub tallied : number ≡ 0 → Tallied s t vertex_totals arc_totals met cost

-- the records of count paths, the first at an offset, lie within the answer
abbrev pub PathsStand : List ℕ → List ℕ → ℕ → ℕ → Type 0
PathsStand s t zero at = Unit {0}
PathsStand s t (suc count) at = (path_end s t at ≤ length t) × PathsStand s t count (path_end s t at)
