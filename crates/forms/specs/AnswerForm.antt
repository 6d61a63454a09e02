-- Document 01, "The two forms": where each field of an answer form t to the graph form s stands, and the marks and weighted paths that it gives.
-- What a version fixes is Layout's, and goes by the graph.
use Rattle.std.specs.Prelude.{ℕ, zero, suc, ◌+◌, ◌*◌, ◌-◌, List, [], ◌∷◌, cond, ltb, ℤ, pos, neg_ℤ}
use Rattle.mathematics.specs.Cover.{Weighted}
use Rattle.mathematics.specs.Bound.{Marks}
use Rattle.forms.specs.Bytes.{byte, be16, be32, be64, part}
use Rattle.forms.specs.Layout.{count_bytes, count_at, price_parts}
use Rattle.forms.specs.GraphForm.{vertex_count}

-- "Answer: length (4), version (1), number of paths (2), price (8): 15 bytes." Only the price is not the same in every version.
abbrev pub answer_length_word : List ℕ → ℕ
answer_length_word t = be32 t 0

abbrev pub answer_version_at : ℕ
answer_version_at = 4

abbrev pub answer_version : List ℕ → ℕ
answer_version t = byte t answer_version_at

abbrev pub path_count_at : ℕ
path_count_at = 5

abbrev pub path_count : List ℕ → ℕ
path_count t = be16 t path_count_at

abbrev pub price_at : ℕ
price_at = 7

abbrev pub answer_header_length : List ℕ → ℕ
answer_header_length s = price_at + 8 * price_parts s

abbrev pub stated_price : List ℕ → List ℕ → ℕ
stated_price s t = be64 t price_at

-- "Then per vertex its in-mark and out-mark, each a signed 4-byte two's complement number."
abbrev pub mark_part_length : ℕ
mark_part_length = 4

abbrev pub mark_length : List ℕ → ℕ
mark_length s = mark_part_length * price_parts s

unfoldable pub in_mark_at : List ℕ → ℕ → ℕ
in_mark_at s v = answer_header_length s + 2 * mark_length s * v

abbrev pub out_mark_at : List ℕ → ℕ → ℕ
out_mark_at s v = in_mark_at s v + mark_length s

-- of how many 4-byte numbers the marks of all vertices are
unfoldable pub mark_parts : List ℕ → ℕ
mark_parts s = 2 * price_parts s * vertex_count s

-- the signed number in the 4 bytes at an offset
unfoldable pub signed32 : List ℕ → ℕ → ℤ
signed32 t at = cond (ltb (be32 t at) 2_147_483_648) (pos (be32 t at)) (neg_ℤ (pos (4_294_967_296 - be32 t at)))

unfoldable pub answer_marks : List ℕ → List ℕ → Marks ℤ
answer_marks s t = record { into = λ v. signed32 t (in_mark_at s v); out = λ v. signed32 t (out_mark_at s v) }

-- where the marks end
abbrev pub first_path_at : List ℕ → ℕ
first_path_at s = in_mark_at s (vertex_count s)

-- "Then per path weight (4), vertex count 1..64 (1), vertices (1 each)." A path is named by the offset of its record.
abbrev pub path_header_length : List ℕ → ℕ
path_header_length s = 4 + count_bytes s

abbrev pub path_weight : List ℕ → ℕ → ℕ
path_weight t at = be32 t at

abbrev pub path_length : List ℕ → List ℕ → ℕ → ℕ
path_length s t at = count_at s t (at + 4)

abbrev pub path_vertices_at : List ℕ → ℕ → ℕ
path_vertices_at s at = at + path_header_length s

abbrev pub path_vertices : List ℕ → List ℕ → ℕ → List ℕ
path_vertices s t at = part t (path_vertices_at s at) (path_length s t at)

abbrev pub path_end : List ℕ → List ℕ → ℕ → ℕ
path_end s t at = path_vertices_at s at + path_length s t at

abbrev pub path_of : List ℕ → List ℕ → ℕ → Weighted
path_of s t at = record { weight = path_weight t at; path = path_vertices s t at }

-- count paths, the first at an offset
abbrev pub paths_from : List ℕ → List ℕ → ℕ → ℕ → List Weighted
paths_from s t zero at = []
paths_from s t (suc count) at = path_of s t at ∷ paths_from s t count (path_end s t at)

-- the weighted paths of the answer
unfoldable pub cover_of : List ℕ → List ℕ → List Weighted
cover_of s t = paths_from s t (path_count t) (first_path_at s)
