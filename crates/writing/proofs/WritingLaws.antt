-- Laws of bytes put into the output: what is put after one another, and in front of what is there; then marks, path records and the whole answer form.
use Rattle.std.proofs.Common.{ℕ, zero, suc, ◌+◌, ◌*◌, ◌≤◌, ◌<◌, mul-zero, mul-suc, mul-le-mul_left, arith, add-one, ◌≡◌, refl, sym, ap, ap₂, subst, ◌∙◌, List, [], ◌∷◌, ◌++◌, append_assoc, append-nil, ℤ, length, get_or, take, drop, set, length-append, length-drop, take-append-drop, take_at, drop_at, drop-drop, length-take-le, get_or-take, rules, w16, w32, w64}
use Rattle.std.proofs.Math.IntN.{sub_ℕ}
use Rattle.std.proofs.Math.Seq.{sets-eq}
use Rattle.mathematics.specs.Cover.{Weighted}
use Rattle.mathematics.specs.Bound.{Marks}
use Rattle.forms.specs.Bytes.{tabulate}
use Rattle.forms.specs.Layout.{max_vertices, max_paths, count_bytes, answer_version_of, max_path_length, longest_answer}
use Rattle.forms.specs.GraphForm.{vertex_count}
use Rattle.forms.specs.GraphReads.{HeaderRight}
use Rattle.forms.specs.AnswerForm.{answer_version_at, path_count_at, price_at, in_mark_at, out_mark_at, first_path_at, path_vertices_at}
use Rattle.forms.proofs.LayoutLaws.{count_inside, price_parts_is, mark_first, mark_next, mark_grows, answer_longest, path_length_limit, vertices_room, paths_room}
use Rattle.forms.proofs.GraphFacts.{length_tabulate}
use Rattle.checker.specs.Encode.{bytes16, bytes32, bytes64, count_in, word32, mark_bytes, path_record, path_bytes, after_length, encode_answer}
use Rattle.checker.proofs.Encoding.{marks_length, count_length}
use Rattle.reads.specs.ReadTable.{row_length}
use Rattle.network.specs.Network.{nth, base}
use Rattle.paths.specs.declared.collect.Paths.{Paths}
use Rattle.paths.specs.declared.collect.Path.{Path}
use Rattle.paths.specs.Peel.{no_path, path_at, collected_at, collected}
use Rattle.std.specs.Int.{to_be_bytes}
use Rattle.writing.specs.Writing.{Placed, held_marks, longest_record, longest_records, PathsFit}

module _ (a b : List ℕ) (place : ℕ) (x : List ℕ) (P : Placed a place x b) where
  front_length : length (take place a) ≡ place
  front_length = length-take-le place a (let h = P.room in omega arith)

  pub placed_length : length b ≡ length a
  placed_length =
      ap length P.is ∙ simp (length-append, length-drop, front_length) (let h = P.room in omega arith)

  -- what stands behind is kept
  placed_behind : drop (place + length x) b ≡ drop (place + length x) a
  placed_behind =
      ap (drop (place + length x)) (P.is ∙ sym (append_assoc (take place a) x (drop (place + length x) a))) ∙
      drop_at (take place a ++ x) (drop (place + length x) a) (place + length x) (length-append (take place a) x ∙ ap (λ k. k + length x) front_length)

  placed_through : take (place + length x) b ≡ take place a ++ x
  placed_through =
      ap (take (place + length x)) (P.is ∙ sym (append_assoc (take place a) x (drop (place + length x) a))) ∙
      take_at (take place a ++ x) (drop (place + length x) a) (place + length x) (length-append (take place a) x ∙ ap (λ k. k + length x) front_length)

-- a number's bytes, as the toolchain's library gives them
pub be_bytes16 : (x : ℕ) → x < 65_536 → to_be_bytes w16 x ≡ bytes16 x
be_bytes16 x h = search rules

pub be_bytes32 : (x : ℕ) → x < 4_294_967_296 → to_be_bytes w32 x ≡ bytes32 x
be_bytes32 x h = search rules

pub be_bytes64 : (x : ℕ) → x < 18_446_744_073_709_551_616 → to_be_bytes w64 x ≡ bytes64 x
be_bytes64 x h = search rules

pub placed_one : (a : List ℕ) (place x : ℕ) → place < length a → Placed a place (x ∷ []) (set a place x)
placed_one a place x h = record { room = omega arith; is = sets-eq (x ∷ []) a place (omega arith) ∙ append_assoc (take place a) (x ∷ []) (drop (place + 1) a) }

-- bytes that are the same list
pub placed_same : (a b : List ℕ) (place : ℕ) {x y : List ℕ} → Placed a place x b → x ≡ y → Placed a place y b
placed_same a b place P e = subst (λ z. Placed a place z b) e P

-- nothing put
pub placed_none : (a : List ℕ) (place : ℕ) → place ≤ length a → Placed a place [] a
placed_none a place h =
    record { room = omega arith; is = sym (ap (λ k. take place a ++ drop k a) (let e : place + 0 ≡ place = omega arith in e) ∙ take-append-drop place a) }

-- what is put behind what was put just before stands with it
pub placed_both : (a b c : List ℕ) (place next : ℕ) (x y : List ℕ) → Placed a place x b → next ≡ place + length x → Placed b next y c → Placed a place (x ++ y) c
placed_both a b c place next x y P e Q =
    let l = placed_length a b place x P in
    let r = Q.room in
    let s = length-append x y in
    record {
      room = omega arith;
      is =
          Q.is ∙
          (ap₂ (λ f k. f ++ (y ++ k)) (ap (λ k. take k b) e ∙ placed_through a b place x P) behind ∙
          (append_assoc (take place a) x (y ++ drop (place + length (x ++ y)) a) ∙
          ap (λ z. take place a ++ z) (sym (append_assoc x y (drop (place + length (x ++ y)) a)))));
    }
  where
    behind : drop (next + length y) b ≡ drop (place + length (x ++ y)) a
    behind =
        let s = length-append x y in
        ap (λ k. drop k b) (let q : next + length y ≡ place + length x + length y = omega arith in q) ∙
        (sym (drop-drop (length y) (place + length x) b) ∙
        (ap (drop (length y)) (placed_behind a b place x P) ∙
        (drop-drop (length y) (place + length x) a ∙ ap (λ k. drop k a) (let q : place + length x + length y ≡ place + length (x ++ y) = omega arith in q))))

-- what is put in front of what was put stands with it
pub placed_front : (a b c : List ℕ) (x y : List ℕ) → Placed a (length x) y b → Placed b 0 x c → Placed a 0 (x ++ y) c
placed_front a b c x y P Q =
    let s = length-append x y in
    let r = P.room in
    record {
      room = omega arith;
      is =
          Q.is ∙
          (ap (λ z. x ++ z)
          (ap (λ k. drop k b) (let q : 0 + length x ≡ length x = omega arith in q) ∙
          (ap (drop (length x)) P.is ∙ drop_at (take (length x) a) (y ++ drop (length x + length y) a) (length x) (front_length a b (length x) y P))) ∙
          (sym (append_assoc x y (drop (length x + length y) a)) ∙
          ap (λ k. (x ++ y) ++ drop k a) (let q : length x + length y ≡ 0 + length (x ++ y) = omega arith in q)));
    }

-- what is put at the very front can be taken off it, and the rest is as it was
pub placed_taken : (a b : List ℕ) (x : List ℕ) → Placed a 0 x b → (take (length x) b ≡ x) × (drop (length x) b ≡ drop (length x) a)
placed_taken a b x P =
    let e : 0 + length x ≡ length x = omega arith in
    (ap (λ k. take k b) (sym e) ∙ placed_through a b 0 x P, ap (λ k. drop k b) (sym e) ∙ (placed_behind a b 0 x P ∙ ap (λ k. drop k a) e))

-- ---- marks, one vertex after another

marks_snoc : (m : Marks ℤ) (k i : ℕ) → mark_bytes m (suc k) i ≡ mark_bytes m k i ++ (bytes32 (word32 (m.into (i + k))) ++ bytes32 (word32 (m.out (i + k))))
marks_snoc m zero i = ap (λ j. bytes32 (word32 (m.into j)) ++ bytes32 (word32 (m.out j))) (let e : i ≡ i + 0 = omega arith in e)
marks_snoc m (suc k) i =
    ap (λ z. bytes32 (word32 (m.into i)) ++ (bytes32 (word32 (m.out i)) ++ z))
    (marks_snoc m k (suc i) ∙
    ap (λ j. mark_bytes m k (suc i) ++ (bytes32 (word32 (m.into j)) ++ bytes32 (word32 (m.out j)))) (let e : suc i + k ≡ i + suc k = omega arith in e))

-- a price and a mark are of one number: where the marks of vertex v stand
mark_place : (s : List ℕ) (v : ℕ) → in_mark_at s v ≡ in_mark_at s 0 + 8 * v
mark_place s zero = omega arith
mark_place s (suc v) = omega (arith, mark_next s v, mark_place s v, price_parts_is s)

first_mark : (s : List ℕ) → in_mark_at s 0 ≡ price_at + 8
first_mark s = omega (arith, mark_first s, price_parts_is s)

module _ (s a into out : List ℕ) where
  abbrev held : Marks ℤ
  held = held_marks (nth into) (nth out)

  -- the marks of vertex v stand behind those of the vertices before it
  pub marks_turn : (v p q : ℕ) (b c d : List ℕ) → Placed a (in_mark_at s 0) (mark_bytes (held_marks (nth into) (nth out)) v 0) b → p ≡ in_mark_at s v → q ≡ out_mark_at s v →
      Placed b p (bytes32 (word32 (sub_ℕ (nth into v) base))) c → Placed c q (bytes32 (word32 (sub_ℕ (nth out v) base))) d →
      Placed a (in_mark_at s 0) (mark_bytes (held_marks (nth into) (nth out)) (v + 1) 0) d
  marks_turn v p q b c d P ep eq Q R =
      subst (λ x. Placed a (in_mark_at s 0) x d)
      (sym
      (ap (λ k. mark_bytes held k 0) (add-one v) ∙
      (marks_snoc held v 0 ∙
      ap (λ j. mark_bytes held v 0 ++ (bytes32 (word32 (held.into j)) ++ bytes32 (word32 (held.out j)))) (let e : 0 + v ≡ v = omega arith in e))))
      (placed_both a b d (in_mark_at s 0) p (mark_bytes held v 0) (bytes32 (word32 (sub_ℕ (nth into v) base)) ++ bytes32 (word32 (sub_ℕ (nth out v) base))) P
      (omega (arith, ep, mark_place s v, marks_length held v 0))
      (placed_both b c d p q (bytes32 (word32 (sub_ℕ (nth into v) base))) (bytes32 (word32 (sub_ℕ (nth out v) base))) Q (omega (arith, ep, eq, price_parts_is s)) R))

-- ---- paths, one after another

-- a count put into its one byte
pub count_placed : (s a : List ℕ) (place x : ℕ) → place + count_bytes s ≤ length a → Placed a place (count_in s x) (set a place x)
unfolding count_in
count_placed s a place x h = placed_one a place x (count_inside s place (length a) h)

-- one more in a list made from numbers
tabulate_snoc : {A : Type 0} (f : ℕ → A) (k i : ℕ) → tabulate f (suc k) i ≡ tabulate f k i ++ (f (i + k) ∷ [])
tabulate_snoc f zero i = ap (λ j. f j ∷ []) (let e : i ≡ i + 0 = omega arith in e)
tabulate_snoc f (suc k) i =
    ap (λ xs. f i ∷ xs) (tabulate_snoc f k (suc i) ∙ ap (λ j. tabulate f k (suc i) ++ (f j ∷ [])) (let e : suc i + k ≡ i + suc k = omega arith in e))

paths_snoc : (s : List ℕ) (W : List Weighted) (w : Weighted) → path_bytes s (W ++ (w ∷ [])) ≡ path_bytes s W ++ path_record s w
paths_snoc s [] w = append-nil (path_record s w)
paths_snoc s (x ∷ W) w = ap (λ z. path_record s x ++ z) (paths_snoc s W w) ∙ sym (append_assoc (path_record s x) (path_bytes s W) (path_record s w))

-- how long the longest records are
module _ (s : List ℕ) where
  records_none : longest_records s 0 ≡ 0
  unfolding longest_records
  records_none = mul-zero (longest_record s)

  records_next : (i : ℕ) → longest_records s (i + 1) ≡ longest_records s i + longest_record s
  unfolding longest_records
  records_next i = ap (λ k. longest_record s * k) (add-one i) ∙ mul-suc (longest_record s) i

  records_grow : (i j : ℕ) → i ≤ j → longest_records s i ≤ longest_records s j
  unfolding longest_records
  records_grow i j h = mul-le-mul_left (longest_record s) h

  -- one more record has room
  pub record_room : (i count : ℕ) → i < count → longest_records s i + longest_record s ≤ longest_records s count
  record_room i count h = omega (arith, records_next i, records_grow (i + 1) count (omega arith))

  -- "The longest is 32,543 bytes": header, marks, and as many records as an answer may have
  pub answer_room : (count : ℕ) → HeaderRight s → count ≤ max_paths s → (price_at + 8 ≤ first_path_at s) × (first_path_at s + longest_records s count ≤ longest_answer s)
  unfolding longest_records
  answer_room count h few = (
    omega (arith, mark_place s (vertex_count s), first_mark s),
    omega (arith, answer_longest s, mark_grows s (vertex_count s) (max_vertices s) h.few_vertices, mul-le-mul_left (longest_record s) few),
  )

  -- a path's vertices have room in a row
  pub path_in_row_lem : max_path_length s ≤ row_length
  path_in_row_lem = omega (arith, path_length_limit s, vertices_room s)

-- an answer form for paths that fit has room in an output that is long enough for the longest
pub answer_inside : (s : List ℕ) (table : Paths) (n : ℕ) → PathsFit s table → longest_answer s ≤ n →
    (price_at + 8 ≤ first_path_at s) × (first_path_at s + longest_records s table.count ≤ n)
answer_inside s table n fit long = let room = answer_room s table.count fit.header fit.few in (room.0, omega (arith, room.1))

-- the first i paths of the table
abbrev pub first_paths : Paths → ℕ → List Weighted
first_paths table i = tabulate (collected_at table) i 0

-- the slice of the paths of a table: as many as there are, and each of them as in its row
pub slice_long : (s : List ℕ) (table : Paths) (rows : List Path) → PathsFit s table → rows ≡ take table.count table.rows → length rows ≡ table.count
slice_long s table rows fit e = ap length e ∙ length-take-le table.count table.rows (omega (arith, fit.tall, fit.few, paths_room s))

pub row_of : (table : Paths) (rows : List Path) (k : ℕ) → rows ≡ take table.count table.rows → k < table.count → get_or rows k no_path ≡ path_at table k
row_of table rows k e h = ap (λ rs. get_or rs k no_path) e ∙ get_or-take table.count table.rows k no_path h

-- the end of the records of the first i paths
pub record PathsEnd (s : List ℕ) (table : Paths) (i end : ℕ) : Type 0 where
  pub is : end ≡ first_path_at s + length (path_bytes s (first_paths table i))
  pub most : end ≤ first_path_at s + longest_records s i

module _ (s : List ℕ) (table : Paths) where
  collected_more : (i : ℕ) → path_bytes s (first_paths table (i + 1)) ≡ path_bytes s (first_paths table i) ++ path_record s (collected_at table i)
  collected_more i =
      ap (λ k. path_bytes s (tabulate (collected_at table) k 0)) (add-one i) ∙
      (ap (path_bytes s) (tabulate_snoc (collected_at table) i 0 ∙
      ap (λ j. tabulate (collected_at table) i 0 ++ (collected_at table j ∷ [])) (let e : 0 + i ≡ i = omega arith in e)) ∙
      paths_snoc s (tabulate (collected_at table) i 0) (collected_at table i))

  pub paths_none : (a : List ℕ) (place : ℕ) → place ≤ length a → Placed a place (path_bytes s (first_paths table 0)) a
  paths_none a place h = placed_none a place h

  pub ends_none : {place : ℕ} → place ≡ first_path_at s → PathsEnd s table 0 place
  ends_none e = record { is = omega arith; most = omega (arith, records_none s) }

  pub ends_turn : (i end next : ℕ) → length (path_at table i).row ≡ row_length → (path_at table i).size ≤ max_path_length s → PathsEnd s table i end →
      next ≡ path_vertices_at s end + (path_at table i).size → PathsEnd s table (i + 1) next
  ends_turn i end next wide short E e =
      let path : List ℕ = take (path_at table i).size (path_at table i).row in
      let k : length path ≡ (path_at table i).size = length-take-le (path_at table i).size (path_at table i).row (omega (arith, path_in_row_lem s)) in
      let l = ap length (collected_more i) ∙ length-append (path_bytes s (first_paths table i)) (path_record s (collected_at table i)) in
      let r : length (path_record s (collected_at table i)) ≡ 4 + count_bytes s + (path_at table i).size =
      length-append (bytes32 (path_at table i).weight) (count_in s (length path) ++ path) ∙ omega (arith, k, length-append (count_in s (length path)) path, count_length s (length path)) in
      let f = E.is in
      let g = E.most in
      record { is = omega arith; most = omega (arith, records_next s i) }

  pub paths_turn : (a b c : List ℕ) (i end : ℕ) → PathsEnd s table i end → Placed a (first_path_at s) (path_bytes s (first_paths table i)) b →
      Placed b end (path_record s (collected_at table i)) c → Placed a (first_path_at s) (path_bytes s (first_paths table (i + 1))) c
  paths_turn a b c i end E P Q =
      subst (λ x. Placed a (first_path_at s) x c) (sym (collected_more i))
      (placed_both a b c (first_path_at s) end (path_bytes s (first_paths table i)) (path_record s (collected_at table i)) P E.is Q)

-- once all paths of the table are put
pub all_put : (s : List ℕ) (table : Paths) (a b : List ℕ) (i end : ℕ) → i ≡ table.count → PathsEnd s table i end →
    Placed a (first_path_at s) (path_bytes s (first_paths table i)) b →
    Placed a (first_path_at s) (path_bytes s (collected table)) b ×
    (end ≡ first_path_at s + length (path_bytes s (collected table))) × (end ≤ first_path_at s + longest_records s table.count)
unfolding collected
all_put s table a b i end e E P = (
  subst (λ k. Placed a (first_path_at s) (path_bytes s (first_paths table k)) b) e P,
  E.is ∙ ap (λ k. first_path_at s + length (path_bytes s (first_paths table k))) e,
  rw (← e) E.most,
)

pub collected_length : (table : Paths) → length (collected table) ≡ table.count
unfolding collected
collected_length table = length_tabulate (collected_at table) table.count 0

-- weight, count and vertices of a path
pub record_placed : (s a b c d : List ℕ) (place at weight len : ℕ) (row : List ℕ) → length row ≡ row_length → len ≤ max_path_length s → at ≡ path_vertices_at s place →
    Placed a place (bytes32 weight) b → Placed b (place + 4) (count_in s len) c → Placed c at (take len row) d →
    Placed a place (path_record s (record { weight = weight; path = take len row })) d
record_placed s a b c d place at weight len row wide short e P Q R =
    subst (λ k. Placed a place (bytes32 weight ++ (count_in s k ++ take len row)) d) (sym (length-take-le len row (omega (arith, path_in_row_lem s))))
    (placed_both a b d place (place + 4) (bytes32 weight) (count_in s len ++ take len row) P refl
    (placed_both b c d (place + 4) at (count_in s len) (take len row) Q (omega (arith, e, count_length s len)) R))

-- ---- the answer form, piece after piece, its length last
module _ (s a b c d e f : List ℕ) (price : ℕ) (m : Marks ℤ) (W : List Weighted) (version count end : ℕ) where
  pub answer_placed : answer_version_at < length a → version ≡ answer_version_of s → length W ≡ count → Placed (set a answer_version_at version) path_count_at (bytes16 count) b → Placed b price_at (bytes64 price) c →
      Placed c (in_mark_at s 0) (mark_bytes m (vertex_count s) 0) d → Placed d (first_path_at s) (path_bytes s W) e → end ≡ first_path_at s + length (path_bytes s W) →
      Placed e 0 (bytes32 end) f → Placed a 0 (encode_answer s price m W) f × (end ≡ length (encode_answer s price m W))
  unfolding encode_answer
  answer_placed long known counted P16 P64 PM PW ends P32 =
      let l = length-append (mark_bytes m (vertex_count s) 0) (path_bytes s W) in
      let k = marks_length m (vertex_count s) 0 in
      let first : first_path_at s ≡ price_at + 8 + 8 * vertex_count s = omega (arith, mark_place s (vertex_count s), first_mark s) in
      let rest : List ℕ = mark_bytes m (vertex_count s) 0 ++ path_bytes s W in
      let after = after_length s price m W in
      let is : end ≡ 4 + length after = omega arith in (
        placed_front a e f (bytes32 (4 + length after)) after
            (subst (λ x. Placed a answer_version_at (x ∷ (bytes16 (length W) ++ (bytes64 price ++ rest))) e) known
            (subst (λ j. Placed a answer_version_at (version ∷ (bytes16 j ++ (bytes64 price ++ rest))) e) (sym counted)
            (placed_both a (set a answer_version_at version) e answer_version_at path_count_at (version ∷ []) (bytes16 count ++ (bytes64 price ++ rest)) (placed_one a answer_version_at version (omega arith)) refl
            (placed_both (set a answer_version_at version) b e path_count_at price_at (bytes16 count) (bytes64 price ++ rest) P16 refl
            (placed_both b c e price_at (in_mark_at s 0) (bytes64 price) rest P64 (first_mark s)
            (placed_both c d e (in_mark_at s 0) (first_path_at s) (mark_bytes m (vertex_count s) 0) (path_bytes s W) PM (omega (arith, mark_place s (vertex_count s), k)) PW))))))
            (subst (λ j. Placed e 0 (bytes32 j) f) is P32),
        omega arith,
      )
