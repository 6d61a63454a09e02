-- Document 01, "Numbers allowed": the limits that are the same in every version (Layout has the others), and how much room the library's tables have.
-- The code has them as constants of the graph and answer types; that each is the number here is proved.
use Rattle.std.specs.Prelude.{ℕ}

-- "opening price 0..1,000,000,000, arc cost 0..1,000,000, demand of a vertex or arc 0..1,000,000"
abbrev pub max_opening : ℕ
max_opening = 1_000_000_000

abbrev pub max_cost : ℕ
max_cost = 1_000_000

abbrev pub max_demand : ℕ
max_demand = 1_000_000

-- "A read (subpath constraint) is 2 to 16 vertices"
abbrev pub min_read_length : ℕ
min_read_length = 2

-- "marks -2,000,000,000..2,000,000,000"
abbrev pub mark_limit : ℕ
mark_limit = 2_000_000_000

-- How many vertices, arcs, reads, vertices of a read and paths the tables hold: as many as any version that reads allows. No refusal depends on them.
abbrev pub room_vertices : ℕ
room_vertices = 64

abbrev pub room_arcs : ℕ
room_arcs = 256

abbrev pub room_reads : ℕ
room_reads = 16

abbrev pub room_read_length : ℕ
room_read_length = 16

abbrev pub room_paths : ℕ
room_paths = 464
