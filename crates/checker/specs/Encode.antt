-- Document 01, "The two forms", the other way round: the answer form to the graph form s of given marks and weighted paths at a stated price. What the
-- version of the graph fixes is the forms' Layout.
use Rattle.std.specs.Prelude.{ℕ, zero, suc, ◌+◌, ◌-◌, ◌/◌, ◌%◌, List, [], ◌∷◌, ◌++◌, cond, length, ℤ, pos, negsuc}
use Rattle.mathematics.specs.Cover.{Weighted}
use Rattle.mathematics.specs.Bound.{Marks}
use Rattle.forms.specs.AnswerFaults.{list_before}
use Rattle.forms.specs.GraphForm.{vertex_count}
use Rattle.forms.specs.Layout.{answer_version_of}

-- "All numbers big-endian": a number in 2 bytes, in 4 bytes, in 8 bytes
abbrev pub bytes16 : ℕ → List ℕ
bytes16 x = x / 256 ∷ x % 256 ∷ []

abbrev pub bytes32 : ℕ → List ℕ
bytes32 x = bytes16 (x / 65_536) ++ bytes16 (x % 65_536)

abbrev pub bytes64 : ℕ → List ℕ
bytes64 x = bytes32 (x / 4_294_967_296) ++ bytes32 (x % 4_294_967_296)

-- "vertex count 1..64 (1)": a count of vertices, in as many bytes as the version gives it
unfoldable pub count_in : List ℕ → ℕ → List ℕ
count_in s x = x ∷ []

-- "two's complement": 4,294,967,296 is added to a number below 0; negsuc k is -(k + 1)
abbrev pub word32 : ℤ → ℕ
word32 (pos k) = k
word32 (negsuc k) = 4_294_967_295 - k

-- "Then per vertex its in-mark and out-mark": count vertices, the first of them number v
abbrev pub mark_bytes : Marks ℤ → ℕ → ℕ → List ℕ
mark_bytes m zero v = []
mark_bytes m (suc count) v = bytes32 (word32 (m.into v)) ++ (bytes32 (word32 (m.out v)) ++ mark_bytes m count (suc v))

-- "Then per path weight (4), vertex count 1..64 (1), vertices (1 each)."
abbrev pub path_record : List ℕ → Weighted → List ℕ
path_record s w = bytes32 w.weight ++ (count_in s (length w.path) ++ w.path)

-- the records one behind the other
abbrev pub path_bytes : List ℕ → List Weighted → List ℕ
path_bytes s [] = []
path_bytes s (w ∷ W) = path_record s w ++ path_bytes s W

-- "version (1), number of paths (2), price (8)", and what follows
abbrev pub after_length : List ℕ → ℕ → Marks ℤ → List Weighted → List ℕ
after_length s price m W = answer_version_of s ∷ (bytes16 (length W) ++ (bytes64 price ++ (mark_bytes m (vertex_count s) 0 ++ path_bytes s W)))

-- the answer form; "the total length stands first and counts itself"
unfoldable pub encode_answer : List ℕ → ℕ → Marks ℤ → List Weighted → List ℕ
encode_answer s price m W = bytes32 (4 + length (after_length s price m W)) ++ after_length s price m W

-- "Paths strictly ascend as lists of numbers": a cover is a set, and this is its one order for an answer form
abbrev pub insert_path : Weighted → List Weighted → List Weighted
insert_path w [] = w ∷ []
insert_path w (x ∷ W) = cond (list_before w.path x.path) (w ∷ x ∷ W) (x ∷ insert_path w W)

abbrev pub sorted : List Weighted → List Weighted
sorted [] = []
sorted (w ∷ W) = insert_path w (sorted W)
