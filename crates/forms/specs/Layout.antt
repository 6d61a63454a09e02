-- Documents 01 and 02: everything that the version of a graph form fixes, in document 01's order. Each is a function of the graph form s, of which it looks at
-- nothing but the version; an answer is laid out by the version of its graph. Version 1 is the only one that reads, so each has version 1's number.
-- What no version changes stands in Limits, GraphForm and AnswerForm. A proof looks into what is shut here in
-- proofs/LayoutLaws alone, but for a case that is evaluated as a whole.
use Rattle.std.specs.Prelude.{ℕ, List}
use Rattle.forms.specs.Bytes.{byte}

-- "length (4 bytes), version (1)"
abbrev pub version_at : ℕ
version_at = 4

abbrev pub version : List ℕ → ℕ
version s = byte s version_at

-- 2: "graph version not 1": versions 1 to the newest read
abbrev pub newest : ℕ
newest = 1

-- "Vertices 1..64, arcs 0..256, reads 0..16"
unfoldable pub max_vertices : List ℕ → ℕ
max_vertices s = 64

unfoldable pub max_arcs : List ℕ → ℕ
max_arcs s = 256

unfoldable pub max_reads : List ℕ → ℕ
max_reads s = 16

-- "A read (subpath constraint) is 2 to 16 vertices"
unfoldable pub max_read_length : List ℕ → ℕ
max_read_length s = 16

-- "In an answer: paths 0..464 (64+256+64+64+16), weights totalling at most 320,000,016"
unfoldable pub max_paths : List ℕ → ℕ
max_paths s = 464

unfoldable pub max_weight : List ℕ → ℕ
max_weight s = 320_000_016

-- "n (1)", "per read its vertex count (1)", "vertex count 1..64 (1)": in how many bytes a count of vertices stands, in a graph form and in an answer to it
unfoldable pub count_bytes : List ℕ → ℕ
count_bytes s = 1

-- the count of vertices at an offset of a form t, which is the graph form s or an answer to it
unfoldable pub count_at : List ℕ → List ℕ → ℕ → ℕ
count_at s t at = byte t at

-- "per vertex a flag byte (1 start, 2 end, 3 both, 0 neither) and demand (4)": the greatest flag byte, and how long the record is
unfoldable pub max_flag : List ℕ → ℕ
max_flag s = 3

unfoldable pub vertex_length : List ℕ → ℕ
vertex_length s = 5

-- "The longest is 3,165 bytes."
unfoldable pub longest_graph : List ℕ → ℕ
longest_graph s = 3165

-- 12: "answer version not 1": the version of an answer to the graph
unfoldable pub answer_version_of : List ℕ → ℕ
answer_version_of s = 1

-- "price (8)", "in-mark and out-mark, each a signed 4-byte two's complement number": of how many numbers a price and a mark are
unfoldable pub price_parts : List ℕ → ℕ
price_parts s = 1

-- "vertex count 1..64"
unfoldable pub max_path_length : List ℕ → ℕ
max_path_length s = 64

-- "Answer: .. The longest is 32,543 bytes."
unfoldable pub longest_answer : List ℕ → ℕ
longest_answer s = 32_543
