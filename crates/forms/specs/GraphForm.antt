-- Document 01, "The two forms": where each field of a graph form stands. One accessor for each field; what a version fixes is Layout's.
use Rattle.std.specs.Prelude.{ℕ, ◌+◌, ◌*◌, List}
use Rattle.forms.specs.Bytes.{byte, be16, be32, part}
use Rattle.forms.specs.Layout.{count_bytes, count_at, vertex_length}

-- "Graph: length (4 bytes), version (1), n (1), number of arcs (2), number of reads (1), opening price (4): 13 bytes."
abbrev pub header_length : List ℕ → ℕ
header_length s = 12 + count_bytes s

abbrev pub length_word : List ℕ → ℕ
length_word s = be32 s 0

abbrev pub vertex_count_at : ℕ
vertex_count_at = 5

abbrev pub vertex_count : List ℕ → ℕ
vertex_count s = count_at s s vertex_count_at

abbrev pub arc_count_at : List ℕ → ℕ
arc_count_at s = 5 + count_bytes s

abbrev pub arc_count : List ℕ → ℕ
arc_count s = be16 s (arc_count_at s)

abbrev pub read_count_at : List ℕ → ℕ
read_count_at s = 7 + count_bytes s

abbrev pub read_count : List ℕ → ℕ
read_count s = byte s (read_count_at s)

abbrev pub opening_price_at : List ℕ → ℕ
opening_price_at s = 8 + count_bytes s

abbrev pub opening_price : List ℕ → ℕ
opening_price s = be32 s (opening_price_at s)

-- "Then per vertex a flag byte (1 start, 2 end, 3 both, 0 neither) and demand (4)."
unfoldable pub vertex_at : List ℕ → ℕ → ℕ
vertex_at s v = header_length s + vertex_length s * v

abbrev pub flags : List ℕ → ℕ → ℕ
flags s v = byte s (vertex_at s v)

abbrev pub vertex_demand : List ℕ → ℕ → ℕ
vertex_demand s v = be32 s (vertex_at s v + 1)

-- "Then per arc tail (1), head (1), cost (4), demand (4)". An arc's fields are read at the offset of its record.
abbrev pub first_arc_at : List ℕ → ℕ
first_arc_at s = vertex_at s (vertex_count s)

abbrev pub arc_length : ℕ
arc_length = 10

abbrev pub arc_at : List ℕ → ℕ → ℕ
arc_at s a = first_arc_at s + arc_length * a

abbrev pub arc_tail : List ℕ → ℕ → ℕ
arc_tail s at = byte s at

abbrev pub arc_head : List ℕ → ℕ → ℕ
arc_head s at = byte s (at + 1)

abbrev pub arc_cost : List ℕ → ℕ → ℕ
arc_cost s at = be32 s (at + 2)

abbrev pub arc_demand : List ℕ → ℕ → ℕ
arc_demand s at = be32 s (at + 6)

-- "Then per read its vertex count (1) and its vertices (1 each)." A read is named by the offset of its record.
abbrev pub first_read_at : List ℕ → ℕ
first_read_at s = arc_at s (arc_count s)

abbrev pub read_length : List ℕ → ℕ → ℕ
read_length s at = count_at s s at

abbrev pub read_vertices_at : List ℕ → ℕ → ℕ
read_vertices_at s at = at + count_bytes s

abbrev pub read_vertices : List ℕ → ℕ → List ℕ
read_vertices s at = part s (read_vertices_at s at) (read_length s at)

-- where the record ends and the next begins
abbrev pub read_end : List ℕ → ℕ → ℕ
read_end s at = read_vertices_at s at + read_length s at
