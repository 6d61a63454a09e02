-- Reading back what `encode_answer` writes gives the same paths, price and marks; its length is stated rightly, and within the limits each entry is a byte.
use Rattle.std.proofs.Common.{ℕ, zero, suc, ◌+◌, ◌*◌, ◌-◌, ◌/◌, ◌%◌, ◌≤◌, ◌<◌, add_assoc, mul-suc, mul-le-mul_left, arith, ◌≡◌, refl, sym, ap, ap₂, ◌∙◌, List, [], ◌∷◌, ◌++◌, append_assoc, cond, ltb, leb→le, length, take, drop, length-append, get_or-append-add, ℤ, pos, negsuc, neg_ℤ, lt-ltb, le-ltb}
use lib.Seq.{drop-append-add, take-append_seam}
use Rattle.mathematics.specs.Lists.{All}
use Rattle.mathematics.specs.Cover.{Weighted}
use Rattle.mathematics.specs.Bound.{Marks}
use Rattle.mathematics.proofs.Basics.{all_append}
use Rattle.forms.specs.AnswerForm.{answer_length_word, answer_version, path_count, stated_price, mark_part_length, in_mark_at, out_mark_at, signed32, answer_marks, first_path_at, path_header_length, path_weight, path_length, path_vertices_at, path_vertices, path_end, paths_from, cover_of}
use Rattle.forms.specs.Bytes.{byte, be16, be32, be64, part}
use Rattle.forms.specs.GraphForm.{vertex_count}
use Rattle.forms.specs.Layout.{max_vertices, max_paths, count_bytes, count_at, answer_version_of, max_path_length, longest_answer}
use Rattle.forms.specs.Limits.{mark_limit}
use Rattle.forms.proofs.LayoutLaws.{count_bytes_is, count_at_is, price_parts_is, answer_version_is, longest_answer_is, vertices_room, paths_room, path_length_limit, mark_grows, mark_sum, answer_longest}
use Rattle.checker.specs.Encode.{bytes16, bytes32, bytes64, count_in, word32, mark_bytes, path_record, path_bytes, after_length, encode_answer}
use Rattle.checker.specs.Accepted.{InRange}
use Rattle.checker.specs.Acceptable.{Bytes, Holdable}

-- the bytes behind p are those of q
byte_behind : (p q : List ℕ) (at : ℕ) → byte (p ++ q) (length p + at) ≡ byte q at
byte_behind p q at = get_or-append-add p q at 0

be32_behind : (p q : List ℕ) (at : ℕ) → be32 (p ++ q) (length p + at) ≡ be32 q at
unfolding be32
be32_behind p q at =
    simp (add_assoc (length p) at 1, add_assoc (length p) at 2, add_assoc (length p) at 3, byte_behind p q at, byte_behind p q (at + 1), byte_behind p q (at + 2), byte_behind p q (at + 3))

-- a number's 4 bytes read back
be32_bytes32 : (x : ℕ) (q : List ℕ) → be32 (bytes32 x ++ q) 0 ≡ x
unfolding be32
be32_bytes32 x q = omega arith

-- a mark in range reads back from its two's complement
signed_word : (x : ℤ) → InRange x → cond (ltb (word32 x) 2_147_483_648) (pos (word32 x)) (neg_ℤ (pos (4_294_967_296 - word32 x))) ≡ x
signed_word (pos k) h =
    let low : k < 2_147_483_648 = omega (arith, leb→le k mark_limit h.1) in
    simp (lt-ltb _ _ low)
signed_word (negsuc k) h =
    let low : k ≤ 1_999_999_999 = leb→le k 1_999_999_999 h.0 in
    let high : 2_147_483_648 ≤ 4_294_967_295 - k = omega arith in
    let back : 4_294_967_296 - (4_294_967_295 - k) ≡ suc k = omega arith in
    simp (le-ltb _ _ high, back)

word_low : (x : ℤ) → InRange x → word32 x < 4_294_967_296
word_low (pos k) h = omega (arith, leb→le k mark_limit h.1)
word_low (negsuc k) h = omega arith

signed_at : (t : List ℕ) (at : ℕ) (x : ℤ) → be32 t at ≡ word32 x → InRange x → signed32 t at ≡ x
unfolding signed32
signed_at t at x e h = simp e (signed_word x h)

-- the marks of vertex v, where the first vertex written is number k
in_word : (m : Marks ℤ) (count k v : ℕ) (q : List ℕ) → v < count → be32 (mark_bytes m count k ++ q) (8 * v) ≡ word32 (m.into (k + v))
in_word m zero k v q h = absurd (omega arith)
in_word m (suc count) k zero q h = be32_bytes32 (word32 (m.into k)) _ ∙ ap (λ i. word32 (m.into i)) (let e : k ≡ k + 0 = omega arith in e)
in_word m (suc count) k (suc v) q h =
    let pair = bytes32 (word32 (m.into k)) ++ bytes32 (word32 (m.out k)) in
    ap (be32 (pair ++ (mark_bytes m count (suc k) ++ q))) (let e : 8 * suc v ≡ 8 + 8 * v = omega arith in e) ∙
    (be32_behind pair (mark_bytes m count (suc k) ++ q) (8 * v) ∙
    (in_word m count (suc k) v q (omega arith) ∙ ap (λ i. word32 (m.into i)) (let e : suc k + v ≡ k + suc v = omega arith in e)))

out_word : (m : Marks ℤ) (count k v : ℕ) (q : List ℕ) → v < count → be32 (mark_bytes m count k ++ q) (8 * v + 4) ≡ word32 (m.out (k + v))
out_word m zero k v q h = absurd (omega arith)
out_word m (suc count) k zero q h =
    be32_behind (bytes32 (word32 (m.into k))) (bytes32 (word32 (m.out k)) ++ (mark_bytes m count (suc k) ++ q)) 0 ∙
    (be32_bytes32 (word32 (m.out k)) _ ∙ ap (λ i. word32 (m.out i)) (let e : k ≡ k + 0 = omega arith in e))
out_word m (suc count) k (suc v) q h =
    let pair = bytes32 (word32 (m.into k)) ++ bytes32 (word32 (m.out k)) in
    ap (be32 (pair ++ (mark_bytes m count (suc k) ++ q))) (let e : 8 * suc v + 4 ≡ 8 + (8 * v + 4) = omega arith in e) ∙
    (be32_behind pair (mark_bytes m count (suc k) ++ q) (8 * v + 4) ∙
    (out_word m count (suc k) v q (omega arith) ∙ ap (λ i. word32 (m.out i)) (let e : suc k + v ≡ k + suc v = omega arith in e)))

pub marks_length : (m : Marks ℤ) (count v : ℕ) → length (mark_bytes m count v) ≡ 8 * count
marks_length m zero v = refl
marks_length m (suc count) v = let e = marks_length m count (suc v) in omega arith

-- a count of vertices stands in as many bytes as the version gives it, and reads back
module _ (s : List ℕ) where
  pub count_length : (x : ℕ) → length (count_in s x) ≡ count_bytes s
  unfolding count_in
  count_length x = count_bytes_is s

  pub count_back : (p q : List ℕ) (x : ℕ) → count_at s (p ++ (count_in s x ++ q)) (length p) ≡ x
  unfolding count_in
  count_back p q x =
      sym (count_at_is s (p ++ (x ∷ q)) (length p))
      ∙ (ap (byte (p ++ (x ∷ q))) (let z : length p ≡ length p + 0 = omega arith in z) ∙ byte_behind p (x ∷ q) 0)

-- a path record that stands behind p, read back field by field
module _ (s : List ℕ) (w : Weighted) (W : List Weighted) (p : List ℕ) (at : ℕ) (e : length p ≡ at) where
  abbrev count : List ℕ
  count = count_in s (length w.path)

  -- its weight and count stand behind p, its vertices behind them
  to_count : p ++ path_bytes s (w ∷ W) ≡ (p ++ bytes32 w.weight) ++ (count ++ (w.path ++ path_bytes s W))
  to_count =
      ap (λ q. p ++ (bytes32 w.weight ++ q)) (append_assoc count w.path (path_bytes s W))
      ∙ sym (append_assoc p (bytes32 w.weight) (count ++ (w.path ++ path_bytes s W)))

  to_vertices : p ++ path_bytes s (w ∷ W) ≡ ((p ++ bytes32 w.weight) ++ count) ++ (w.path ++ path_bytes s W)
  to_vertices = to_count ∙ sym (append_assoc (p ++ bytes32 w.weight) count (w.path ++ path_bytes s W))

  count_place : length (p ++ bytes32 w.weight) ≡ at + 4
  count_place = omega (arith, e, length-append p (bytes32 w.weight))

  vertices_place : length ((p ++ bytes32 w.weight) ++ count) ≡ path_vertices_at s at
  vertices_place = omega (arith, count_place, length-append (p ++ bytes32 w.weight) count, count_length s (length w.path))

  pub record_weight : path_weight (p ++ path_bytes s (w ∷ W)) at ≡ w.weight
  record_weight =
      ap (be32 (p ++ path_bytes s (w ∷ W))) (let z : at ≡ length p + 0 = omega arith in z) ∙
      (be32_behind p (path_bytes s (w ∷ W)) 0 ∙ be32_bytes32 w.weight _)

  pub record_length : path_length s (p ++ path_bytes s (w ∷ W)) at ≡ length w.path
  record_length = ap₂ (count_at s) to_count (sym count_place) ∙ count_back s (p ++ bytes32 w.weight) (w.path ++ path_bytes s W) (length w.path)

  pub record_path : path_vertices s (p ++ path_bytes s (w ∷ W)) at ≡ w.path
  unfolding part
  record_path =
      let front = (p ++ bytes32 w.weight) ++ count in
      let place : path_vertices_at s at ≡ length front + 0 = omega (arith, vertices_place) in
      ap₂ (λ c u. take c (drop (path_vertices_at s at) u)) record_length to_vertices ∙
      (ap (λ k. take (length w.path) (drop k (front ++ (w.path ++ path_bytes s W)))) place ∙
      (ap (take (length w.path)) (drop-append-add front (w.path ++ path_bytes s W) 0) ∙ take-append_seam w.path (path_bytes s W)))

  -- what follows the record stands behind p and the record
  pub record_end : length (p ++ path_record s w) ≡ path_end s (p ++ path_bytes s (w ∷ W)) at
  record_end = omega (arith, e, length-append p (path_record s w), length-append count w.path, count_length s (length w.path), record_length)

  pub record_split : p ++ path_bytes s (w ∷ W) ≡ (p ++ path_record s w) ++ path_bytes s W
  record_split = sym (append_assoc p (path_record s w) (path_bytes s W))

-- the paths behind p read back
paths_back : (s : List ℕ) (W : List Weighted) (p : List ℕ) (at : ℕ) → length p ≡ at → paths_from s (p ++ path_bytes s W) (length W) at ≡ W
paths_back s [] p at e = refl
paths_back s (w ∷ W) p at e =
    let end = path_end s (p ++ path_bytes s (w ∷ W)) at in
    ap₂ {C = List Weighted} (λ x xs. x ∷ xs) (λ i. record { weight = record_weight s w W p at e i; path = record_path s w W p at e i })
    (ap (λ u. paths_from s u (length W) end) (record_split s w W p at e) ∙ paths_back s W (p ++ path_record s w) end (record_end s w W p at e))

module _ (s : List ℕ) (price : ℕ) (m : Marks ℤ) (W : List Weighted) where
  -- the bytes of the header
  header_bytes : List ℕ
  header_bytes = bytes32 (4 + length (after_length s price m W)) ++ (answer_version_of s ∷ (bytes16 (length W) ++ bytes64 price))

  -- where the in-mark of a vertex stands, prices and marks being one number each
  mark_place : (v : ℕ) → length header_bytes + 8 * v ≡ in_mark_at s v
  unfolding header_bytes
  mark_place v = mark_sum s v 1 mark_part_length (price_parts_is s) (omega (arith, price_parts_is s))

  -- "the total length stands first and counts itself"
  pub encoded_length_word : answer_length_word (encode_answer s price m W) ≡ length (encode_answer s price m W)
  unfolding encode_answer
  encoded_length_word =
      be32_bytes32 (4 + length (after_length s price m W)) (after_length s price m W) ∙
      sym (length-append (bytes32 (4 + length (after_length s price m W))) (after_length s price m W))

  pub encoded_version : answer_version (encode_answer s price m W) ≡ answer_version_of s
  unfolding encode_answer
  encoded_version = refl

  pub encoded_path_count : path_count (encode_answer s price m W) ≡ length W
  unfolding encode_answer be16
  encoded_path_count = omega arith

  pub encoded_price : stated_price s (encode_answer s price m W) ≡ price
  unfolding encode_answer be64 be32
  encoded_price =
      let high = be32_bytes32 (price / 4_294_967_296) [] in
      let low = be32_bytes32 (price % 4_294_967_296) [] in
      ap₂ (λ a b. a * 4_294_967_296 + b) high low ∙ (let e : price / 4_294_967_296 * 4_294_967_296 + price % 4_294_967_296 ≡ price = omega arith in e)

  -- the path records stand behind header and marks
  pub encoded_front : (p : List ℕ) × (length p ≡ first_path_at s) × (encode_answer s price m W ≡ p ++ path_bytes s W)
  unfolding encode_answer header_bytes
  encoded_front = (
    header_bytes ++ mark_bytes m (vertex_count s) 0,
    omega (arith, length-append header_bytes (mark_bytes m (vertex_count s) 0), marks_length m (vertex_count s) 0, mark_place (vertex_count s)),
    sym (append_assoc header_bytes (mark_bytes m (vertex_count s) 0) (path_bytes s W)),
  )

  pub encoded_length : length (encode_answer s price m W) ≡ first_path_at s + length (path_bytes s W)
  encoded_length =
      let (p, l, e) = encoded_front in
      ap length e ∙ (length-append p (path_bytes s W) ∙ ap (λ k. k + length (path_bytes s W)) l)

  -- the weighted paths read back
  pub encoded_cover : cover_of s (encode_answer s price m W) ≡ W
  unfolding cover_of
  encoded_cover =
      let (p, l, e) = encoded_front in
      ap₂ (λ t c. paths_from s t c (first_path_at s)) e encoded_path_count ∙ paths_back s W p (first_path_at s) l

  -- and so does each mark of a vertex of the graph
  pub encoded_into : (v : ℕ) → v < vertex_count s → InRange (m.into v) → (answer_marks s (encode_answer s price m W)).into v ≡ m.into v
  unfolding encode_answer answer_marks header_bytes
  encoded_into v h r =
      signed_at (encode_answer s price m W) (in_mark_at s v) (m.into v)
      (ap (be32 (encode_answer s price m W)) (sym (mark_place v)) ∙
      (be32_behind header_bytes (mark_bytes m (vertex_count s) 0 ++ path_bytes s W) (8 * v) ∙
      (in_word m (vertex_count s) 0 v (path_bytes s W) h ∙ ap (λ i. word32 (m.into i)) (let e : 0 + v ≡ v = omega arith in e)))) r

  pub encoded_out : (v : ℕ) → v < vertex_count s → InRange (m.out v) → (answer_marks s (encode_answer s price m W)).out v ≡ m.out v
  unfolding encode_answer answer_marks header_bytes
  encoded_out v h r =
      let place : out_mark_at s v ≡ length header_bytes + (8 * v + 4) = omega (arith, mark_place v, price_parts_is s) in
      signed_at (encode_answer s price m W) (out_mark_at s v) (m.out v)
      (ap (be32 (encode_answer s price m W)) place ∙
      (be32_behind header_bytes (mark_bytes m (vertex_count s) 0 ++ path_bytes s W) (8 * v + 4) ∙
      (out_word m (vertex_count s) 0 v (path_bytes s W) h ∙ ap (λ i. word32 (m.out i)) (let e : 0 + v ≡ v = omega arith in e)))) r

bytes32_are : (x : ℕ) → x < 4_294_967_296 → Bytes (bytes32 x)
bytes32_are x h = (omega arith, (omega arith, (omega arith, (omega arith, tt))))

count_is_bytes : (s : List ℕ) (x : ℕ) → x ≤ max_path_length s → Bytes (count_in s x)
unfolding count_in
count_is_bytes s x h = (omega (arith, path_length_limit s, vertices_room s), tt)

paths_length : (s : List ℕ) (W : List Weighted) → All (Holdable s) W → length (path_bytes s W) ≤ (path_header_length s + max_path_length s) * length W
paths_length s [] h = omega arith
paths_length s (w ∷ W) h =
    omega (
      arith,
      length-append (path_record s w) (path_bytes s W),
      length-append (count_in s (length w.path)) w.path,
      count_length s (length w.path),
      h.0.few_vertices,
      paths_length s W h.1,
      mul-suc (path_header_length s + max_path_length s) (length W),
    )

paths_are_bytes : (s : List ℕ) (W : List Weighted) → All (Holdable s) W → Bytes (path_bytes s W)
paths_are_bytes s [] h = tt
paths_are_bytes s (w ∷ W) h =
    all_append (λ b. b < 256) (path_record s w) (path_bytes s W)
    (all_append (λ b. b < 256) (bytes32 w.weight) (count_in s (length w.path) ++ w.path) (bytes32_are w.weight h.0.low_weight)
    (all_append (λ b. b < 256) (count_in s (length w.path)) w.path (count_is_bytes s (length w.path) h.0.few_vertices) h.0.low_vertices))
    (paths_are_bytes s W h.1)

marks_are_bytes : (m : Marks ℤ) (count k : ℕ) → ((v : ℕ) → v < k + count → InRange (m.into v) × InRange (m.out v)) → Bytes (mark_bytes m count k)
marks_are_bytes m zero k h = tt
marks_are_bytes m (suc count) k h =
    let r = h k (omega arith) in
    all_append (λ b. b < 256) (bytes32 (word32 (m.into k))) (bytes32 (word32 (m.out k)) ++ mark_bytes m count (suc k)) (bytes32_are _ (word_low (m.into k) r.0))
    (all_append (λ b. b < 256) (bytes32 (word32 (m.out k))) (mark_bytes m count (suc k)) (bytes32_are _ (word_low (m.out k) r.1))
    (marks_are_bytes m count (suc k) (λ v l. h v (omega arith))))

module _ (s : List ℕ) (price : ℕ) (m : Marks ℤ) (W : List Weighted) (few : vertex_count s ≤ max_vertices s) (paths : length W ≤ max_paths s) (holdable : All (Holdable s) W) where
  -- "The longest is 32,543 bytes."
  pub encoded_fits : length (encode_answer s price m W) ≤ longest_answer s
  encoded_fits =
      omega (
        arith,
        encoded_length s price m W,
        paths_length s W holdable,
        mul-le-mul_left (path_header_length s + max_path_length s) paths,
        mark_grows s (vertex_count s) (max_vertices s) few,
        answer_longest s,
      )

  -- a byte string: each entry is below 256
  pub encoded_bytes : price < 18_446_744_073_709_551_616 → ((v : ℕ) → v < vertex_count s → InRange (m.into v) × InRange (m.out v)) → Bytes (encode_answer s price m W)
  unfolding encode_answer
  encoded_bytes low range =
      let l : 4 + length (after_length s price m W) ≤ longest_answer s = omega (arith, encoded_fits) in
      all_append (λ b. b < 256) (bytes32 (4 + length (after_length s price m W))) (after_length s price m W) (bytes32_are _ (omega (arith, longest_answer_is s))) (
        omega (arith, answer_version_is s),
        (
          omega (arith, paths_room s),
          (
            omega arith,
            all_append (λ b. b < 256) (bytes64 price) (mark_bytes m (vertex_count s) 0 ++ path_bytes s W)
                (all_append (λ b. b < 256) (bytes32 (price / 4_294_967_296)) (bytes32 (price % 4_294_967_296)) (bytes32_are _ (omega arith)) (bytes32_are _ (omega arith)))
                (all_append (λ b. b < 256) (mark_bytes m (vertex_count s) 0) (path_bytes s W) (marks_are_bytes m (vertex_count s) 0 (λ v h. range v (omega arith))) (paths_are_bytes s W holdable)),
          ),
        ),
      )
