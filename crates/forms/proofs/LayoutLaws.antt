-- What the definitions of specs/Layout give, the only place that looks into them: the number of each, its range over all versions, and the places that are reckoned from
-- them. Everything else cites these laws, so a version that gives other numbers changes the laws of the first part and nothing that stands on the others.
use Prim.Native.Nat.{ℕ, suc, ◌+◌, ◌*◌, ◌<◌, ◌≤◌}
use native.Mathlib.Nat.{mul-zero, mul-suc, mul_assoc, mul-le-mul_left, mul-le-mul_right}
use native.Mathlib.Omega.{arith}
use mathlib.Core.Path.{◌≡◌, refl, sym, ap, ◌∙◌}
use mathlib.Core.List.{List}
use lib.ListN.{length, get_or-eq_default}
use Rattle.forms.specs.Bytes.{byte}
use Rattle.forms.specs.Limits.{max_demand, room_vertices, room_arcs, room_reads, room_read_length, room_paths}
use Rattle.forms.specs.Layout.{version_at, version, max_vertices, max_arcs, max_reads, max_read_length, max_paths, max_weight, count_bytes, count_at, max_flag, vertex_length, longest_graph, answer_version_of, price_parts, max_path_length, longest_answer}
use Rattle.forms.specs.GraphForm.{header_length, vertex_count, vertex_at, arc_length}
use Rattle.forms.specs.AnswerForm.{price_at, answer_header_length, mark_part_length, mark_length, in_mark_at, out_mark_at, mark_parts, first_path_at, path_header_length}

regroup : (p n : ℕ) → 2 * (4 * p) * n ≡ 4 * (2 * p * n)
regroup p n =
    let a : 2 * (4 * p) ≡ 4 * (2 * p) = omega arith in
    ap (λ x. x * n) a ∙ mul_assoc 4 (2 * p) n

module _ (s : List ℕ) where
  -- a form too short to have a version counts as one of version 0
  pub no_version : length s ≤ version_at → 0 ≡ version s
  no_version h = sym (get_or-eq_default s 0 h)

  -- the number of each
  pub max_vertices_is : 64 ≡ max_vertices s
  unfolding max_vertices
  max_vertices_is = refl

  pub max_arcs_is : 256 ≡ max_arcs s
  unfolding max_arcs
  max_arcs_is = refl

  pub max_reads_is : 16 ≡ max_reads s
  unfolding max_reads
  max_reads_is = refl

  pub max_read_length_is : 16 ≡ max_read_length s
  unfolding max_read_length
  max_read_length_is = refl

  pub max_paths_is : 464 ≡ max_paths s
  unfolding max_paths
  max_paths_is = refl

  pub max_weight_is : 320_000_016 ≡ max_weight s
  unfolding max_weight
  max_weight_is = refl

  pub count_bytes_is : 1 ≡ count_bytes s
  unfolding count_bytes
  count_bytes_is = refl

  pub count_at_is : (t : List ℕ) (at : ℕ) → byte t at ≡ count_at s t at
  unfolding count_at
  count_at_is t at = refl

  pub max_flag_is : 3 ≡ max_flag s
  unfolding max_flag
  max_flag_is = refl

  pub vertex_length_is : 5 ≡ vertex_length s
  unfolding vertex_length
  vertex_length_is = refl

  pub longest_graph_is : 3165 ≡ longest_graph s
  unfolding longest_graph
  longest_graph_is = refl

  pub answer_version_is : 1 ≡ answer_version_of s
  unfolding answer_version_of
  answer_version_is = refl

  pub price_parts_is : 1 ≡ price_parts s
  unfolding price_parts
  price_parts_is = refl

  pub max_path_length_is : 64 ≡ max_path_length s
  unfolding max_path_length
  max_path_length_is = refl

  pub longest_answer_is : 32_543 ≡ longest_answer s
  unfolding longest_answer
  longest_answer_is = refl

  -- their ranges, over all versions
  pub bytes_few : (1 ≤ count_bytes s) × (count_bytes s ≤ 2)
  bytes_few = (omega (arith, count_bytes_is), omega (arith, count_bytes_is))

  pub vertex_few : (5 ≤ vertex_length s) × (vertex_length s ≤ 13)
  vertex_few = (omega (arith, vertex_length_is), omega (arith, vertex_length_is))

  pub flags_few : (3 ≤ max_flag s) × (max_flag s ≤ 7)
  flags_few = (omega (arith, max_flag_is), omega (arith, max_flag_is))

  pub parts_few : (1 ≤ price_parts s) × (price_parts s ≤ 2)
  parts_few = (omega (arith, price_parts_is), omega (arith, price_parts_is))

  -- the first byte of a count stands within the form that has the count
  pub count_inside : (at size : ℕ) → at + count_bytes s ≤ size → at < size
  count_inside at size h = omega (arith, bytes_few)

  -- a price of one part, or the first of two, stands within the form that has the header
  pub price_inside : (size : ℕ) → answer_header_length s ≤ size → 15 ≤ size
  price_inside size h = omega (arith, parts_few)

  -- each limit is at most what the tables have room for
  pub vertices_room : max_vertices s ≤ room_vertices
  vertices_room = omega (arith, max_vertices_is)

  pub arcs_room : max_arcs s ≤ room_arcs
  arcs_room = omega (arith, max_arcs_is)

  pub reads_room : max_reads s ≤ room_reads
  reads_room = omega (arith, max_reads_is)

  pub read_length_room : max_read_length s ≤ room_read_length
  read_length_room = omega (arith, max_read_length_is)

  pub paths_room : max_paths s ≤ room_paths
  paths_room = omega (arith, max_paths_is)

  -- "464 (64+256+64+64+16)": the limits of an answer come from those of a graph
  pub path_limit_lem : 3 * max_vertices s + max_arcs s + max_reads s ≡ max_paths s
  path_limit_lem = omega (arith, max_vertices_is, max_arcs_is, max_reads_is, max_paths_is)

  pub weight_limit_lem : (max_vertices s + max_arcs s) * max_demand + max_reads s ≡ max_weight s
  weight_limit_lem = omega (arith, max_vertices_is, max_arcs_is, max_reads_is, max_weight_is)

  pub path_length_limit : max_vertices s ≡ max_path_length s
  path_length_limit = omega (arith, max_vertices_is, max_path_length_is)

  -- where the record of a vertex stands
  pub vertex_first : vertex_at s 0 ≡ header_length s
  unfolding vertex_at
  vertex_first = omega (arith, mul-zero (vertex_length s))

  pub vertex_next : (v : ℕ) → vertex_at s (suc v) ≡ vertex_at s v + vertex_length s
  unfolding vertex_at
  vertex_next v = omega (arith, mul-suc (vertex_length s) v)

  pub vertex_long : (v : ℕ) → header_length s ≤ vertex_at s v
  unfolding vertex_at
  vertex_long v = omega arith

  pub vertex_grows : (v w : ℕ) → v ≤ w → vertex_at s v ≤ vertex_at s w
  unfolding vertex_at
  vertex_grows v w h = omega (arith, mul-le-mul_left (vertex_length s) h)

  pub vertex_before : (v w : ℕ) → v < w → vertex_at s v + vertex_length s ≤ vertex_at s w
  vertex_before v w h = omega (arith, vertex_next v, vertex_grows (suc v) w h)

  pub vertex_most : (v : ℕ) → vertex_at s v ≤ 14 + 13 * v
  unfolding vertex_at
  vertex_most v = omega (arith, bytes_few, mul-le-mul_right v vertex_few.1)

  pub vertex_range : (v at : ℕ) → at ≡ vertex_at s v → v < 65536 → at < 1048576
  vertex_range v at e h = omega (arith, vertex_most v)

  pub vertex_fits : (v : ℕ) → v < 65536 → vertex_at s v < 18446744073709551616
  vertex_fits v h = omega (arith, vertex_most v)

  -- flag byte and demand stand within the form that has the record
  pub vertex_inside : (v at size : ℕ) → at ≡ vertex_at s v → vertex_at s v + vertex_length s ≤ size → at + 4 < size
  vertex_inside v at size e h = omega (arith, vertex_few)

  -- the place, as the code reckons it
  pub vertex_product : (v l : ℕ) → l ≡ vertex_length s → vertex_at s v < 18446744073709551616 → l * v < 18446744073709551616
  unfolding vertex_at
  vertex_product v l e h = rw e (omega arith)

  pub vertex_sum : (v h l : ℕ) → h ≡ header_length s → l ≡ vertex_length s → h + l * v ≡ vertex_at s v
  unfolding vertex_at
  vertex_sum v h l e f = rw (e, f)

  -- where the marks of a vertex stand
  pub mark_first : in_mark_at s 0 ≡ answer_header_length s
  unfolding in_mark_at
  mark_first = omega (arith, mul-zero (2 * mark_length s))

  pub mark_next : (v : ℕ) → in_mark_at s (suc v) ≡ in_mark_at s v + 2 * mark_length s
  unfolding in_mark_at
  mark_next v = omega (arith, mul-suc (2 * mark_length s) v)

  pub mark_long : (v : ℕ) → answer_header_length s ≤ in_mark_at s v
  unfolding in_mark_at
  mark_long v = omega arith

  pub mark_grows : (v w : ℕ) → v ≤ w → in_mark_at s v ≤ in_mark_at s w
  unfolding in_mark_at
  mark_grows v w h = omega (arith, mul-le-mul_left (2 * mark_length s) h)

  pub mark_before : (v w : ℕ) → v < w → in_mark_at s v + 2 * mark_length s ≤ in_mark_at s w
  mark_before v w h = omega (arith, mark_next v, mark_grows (suc v) w h)

  pub mark_most : (v : ℕ) → in_mark_at s v ≤ 23 + 16 * v
  unfolding in_mark_at
  mark_most v =
      let two : 2 * mark_length s ≤ 16 = omega (arith, parts_few) in
      omega (arith, parts_few, mul-le-mul_right v two)

  pub mark_range : (v at : ℕ) → at ≡ in_mark_at s v → v < 65536 → (15 ≤ at) × (at < 2097152)
  mark_range v at e h = (omega (arith, mark_long v, parts_few), omega (arith, mark_most v))

  pub mark_fits : (v : ℕ) → v < 65536 → in_mark_at s v < 18446744073709551616
  mark_fits v h = omega (arith, mark_most v)

  -- the longest forms have all that the limits allow
  pub graph_longest : vertex_at s (max_vertices s) + arc_length * max_arcs s + (count_bytes s + max_read_length s) * max_reads s ≡ longest_graph s
  unfolding vertex_at count_bytes vertex_length max_vertices max_arcs max_reads max_read_length longest_graph
  graph_longest = refl

  pub answer_longest : in_mark_at s (max_vertices s) + (path_header_length s + max_path_length s) * max_paths s ≡ longest_answer s
  unfolding in_mark_at count_bytes price_parts max_vertices max_path_length max_paths longest_answer
  answer_longest = refl

  -- the marks of all vertices, as 4-byte numbers one after the other, lie between the header and the first path
  pub marks_end : answer_header_length s + mark_part_length * mark_parts s ≡ first_path_at s
  unfolding in_mark_at mark_parts
  marks_end =
      let same : 2 * mark_length s * vertex_count s ≡ mark_part_length * (2 * price_parts s * vertex_count s) = regroup (price_parts s) (vertex_count s) in
      omega arith

  pub marks_product : (p n : ℕ) → p ≡ price_parts s → n ≡ vertex_count s → 2 * p * n ≡ mark_parts s
  unfolding mark_parts
  marks_product p n e f = rw (e, f)

  -- the places of marks, as the code reckons them
  pub mark_product : (v l : ℕ) → l ≡ mark_length s → in_mark_at s v < 18446744073709551616 → 2 * l * v < 18446744073709551616
  unfolding in_mark_at
  mark_product v l e h = rw e (omega arith)

  pub mark_sum : (v p l : ℕ) → p ≡ price_parts s → l ≡ mark_length s → price_at + 8 * p + 2 * l * v ≡ in_mark_at s v
  unfolding in_mark_at
  mark_sum v p l e f = rw (e, f)

  -- the marks of a vertex stand within the form that has all marks
  pub in_mark_inside : (v size : ℕ) → v < vertex_count s → first_path_at s ≤ size → in_mark_at s v + mark_part_length ≤ size
  in_mark_inside v size h fits = omega (arith, parts_few, mark_before v (vertex_count s) h)

  pub out_mark_inside : (v size : ℕ) → v < vertex_count s → first_path_at s ≤ size → out_mark_at s v + mark_part_length ≤ size
  out_mark_inside v size h fits = omega (arith, parts_few, mark_before v (vertex_count s) h)

  -- and so does the header
  pub header_inside : (size : ℕ) → first_path_at s ≤ size → answer_header_length s ≤ size
  header_inside size fits = omega (arith, mark_long (vertex_count s))
