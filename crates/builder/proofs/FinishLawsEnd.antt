-- What the last calls of a build ask, from what the flow and the paths taken off it give: the price is small, marks and paths fit the form's fields, and what
-- is written is accepted.
use Prim.Native.Nat.{ℕ, zero, suc, ◌+◌, ◌*◌, ◌-◌, ◌≤◌, ◌<◌}
use native.Mathlib.Omega.{arith}
use native.Mathlib.Nat.{mul-le-mul}
use mathlib.Core.Path.{◌≡◌, refl, sym, ap, ap₂, subst, ◌∙◌}
use mathlib.Core.List.{List, [], ◌∷◌, ◌++◌}
use mathlib.Core.Logic.{◌⊎◌, inl, inr}
use lib.Dec.{T}
use lib.IntN.{ℤ, sub_ℕ}
use lib.ListN.{length, take, drop}
use lib.Seq.{length-take-le}
use Rattle.mathematics.specs.Lists.{All}
use Rattle.mathematics.specs.Graph.{linked, is_path}
use Rattle.mathematics.specs.Cover.{Item, Weighted, total_weight}
use Rattle.mathematics.specs.Bound.{Marks, reads_through}
use Rattle.mathematics.specs.Reach.{useful}
use Rattle.mathematics.proofs.Basics.{all_weaken}
use Rattle.mathematics.proofs.Items.{reads_few}
use Rattle.mathematics.proofs.Prepared.{prepared_linked, prepared_fewer}
use Rattle.mathematics.proofs.Reach.{arc_rises, linked_first}
use Rattle.mathematics.proofs.Links.{in_node, out_node}
use Rattle.mathematics.proofs.Marked.{side_among}
use Rattle.forms.specs.Bytes.{tabulate}
use Rattle.forms.specs.GraphForm.{vertex_count, arc_count}
use Rattle.forms.specs.GraphOf.{graph_of, arc_item}
use Rattle.forms.specs.GraphReads.{Reads}
use Rattle.forms.specs.GraphFaults.{graph_verdict}
use Rattle.checker.specs.Check.{check_verdict}
use Rattle.checker.specs.Encode.{bytes16, bytes32, bytes64, word32, mark_bytes, path_bytes, encode_answer}
use Rattle.forms.specs.Layout.{answer_version_of, max_path_length}
use Rattle.forms.proofs.LayoutLaws.{path_length_limit, max_weight_is}
use Rattle.forms.proofs.GraphFacts.{graph_well_formed, graph_within, graph_room}
use Rattle.checker.proofs.Inside.{linked_inside, path_inside}
use Rattle.network.specs.Network.{nth, sum_to, base, span, most_moved, highest}
use Rattle.paths.specs.Slots.{prepared_of, across_slot, copies_of}
use Rattle.wiring.specs.Lay.{ArcsCounted}
use Rattle.paths.specs.declared.collect.Paths.{Paths}
use Rattle.paths.specs.Peel.{path_at, collected_at, collected, PathTable, Peeled}
use Rattle.builder.specs.Finish.{Flowed, arc_worth, price_from, held_mark, final_marks, MarksHeld, Priced, Answered, most_through, most_price}
use Rattle.reads.specs.ReadTable.{row_length, table_rows}
use Rattle.forms.specs.Limits.{max_cost}
use Rattle.writing.specs.Writing.{Placed, held_marks, Writable, PathsFit}
use Rattle.writing.proofs.WritingLaws.{placed_length, placed_taken, collected_length}
use Rattle.wiring.proofs.SlotLaws
use Rattle.builder.proofs.Certificate.{slots_few, certificate_accepted}

-- ---- reads through an item are few

module _ (s : List ℕ) (right : Reads s) where
  reads_short : All (λ r. length r ≤ row_length) (prepared_of s)
  reads_short =
      all_weaken (λ r. (2 ≤ length r) × T (linked (graph_of s).arcs r)) (λ r. length r ≤ row_length) (prepared_of s) short (prepared_linked (graph_of s) (graph_well_formed s right))
    where
      short : (r : List ℕ) → (2 ≤ length r) × T (linked (graph_of s).arcs r) → length r ≤ row_length
      short [] h = omega arith
      short (v ∷ []) h = omega arith
      short (v ∷ w ∷ r) h =
          let g = graph_well_formed s right in
          let a = arc_rises (length (graph_of s).vertices) (graph_of s).arcs v w g.rises (linked_first (graph_of s).arcs v w r h.1) in
          let b = (linked_inside (graph_of s) g v (w ∷ r) (omega (arith, a.0, a.1)) h.1).1 in
          omega (arith, (graph_room s right).vertices)

  reads_through_lem : (i : Item) → reads_through i (prepared_of s) ≤ 2 * row_length * table_rows
  reads_through_lem i = omega (arith, reads_few row_length i (prepared_of s) reads_short, prepared_fewer (graph_of s).reads, (graph_room s right).reads)

  module _ (from to mark full : List ℕ) (fl : Flowed s from to mark full) where
    total_low : (a : ℕ) → a < arc_count s → nth full (across_slot s a) + reads_through (arc_item s a) (prepared_of s) ≤ most_through
    total_low a h = omega (arith, fl.loaded.low (across_slot s a) (omega arith), reads_through_lem (arc_item s a))

    worth_low : (a : ℕ) → a < arc_count s → arc_worth s full a ≤ most_through * max_cost
    worth_low a h =
        let k = mul-le-mul (total_low a h) (right.arcs.each a h).low_cost in
        omega arith

    sum_low : (k : ℕ) → k ≤ arc_count s → sum_to k (arc_worth s full) ≤ k * (most_through * max_cost)
    sum_low zero h = omega arith
    sum_low (suc k) h = omega (arith, sum_low k (omega arith), worth_low k h)

    price_low : price_from s full ≤ most_price
    unfolding price_from
    price_low =
        let h = right.arcs.header in
        let k = mul-le-mul fl.loaded.few h.low_opening in
        omega (arith, sum_low (arc_count s) (omega arith), h.arcs_room)

    -- the price can be reckoned
    pub priced : (arc_reads : List ℕ) → ArcsCounted s arc_reads → Priced s full arc_reads
    priced arc_reads counts =
        record {
          reads = right;
          few = fl.loaded.few;
          low = price_low;
          totals = λ a h. omega (arith, total_low a h);
          counted = counts.each;
        }

    module _ (into out : List ℕ) (M : MarksHeld s mark into out) where
      held_low : (side : ℕ → ℕ) → ((v : ℕ) → T (useful (graph_of s) v) → nth mark (side v) ≤ highest) → (v : ℕ) → held_mark s side mark v ≤ 2 * base
      unfolding held_mark
      held_low side h v =
          side_among (λ x. x ≤ 2 * base) (graph_of s) (base - span) highest (nth mark (side v)) v (λ u. omega (arith, h v u)) (omega arith) (omega arith)

      -- the marks fit their fields
      pub writable : Writable s into out
      writable =
          record {
            header = right.arcs.header;
            into_low = λ v h. omega (arith, M.into_held v h, held_low in_node (λ w u. (fl.settled.in_near w u).0) v);
            out_low = λ v h. omega (arith, M.out_held v h, held_low out_node (λ w u. (fl.settled.out_near w u).0) v);
          }

-- ---- the paths fit their fields

-- what holds of a whole list made from numbers holds of each of its parts
all_untabulate : {A : Type 0} (f : ℕ → A) (P : A → Type 0) (k i : ℕ) → All P (tabulate f k i) → (j : ℕ) → i ≤ j → j < i + k → P (f j)
all_untabulate f P zero i h j a b = absurd (omega arith)
all_untabulate f P (suc k) i h j a b = pick (SlotLaws.first_or_later i j a) (λ g. all_untabulate f P k (suc i) h.1 j g (omega arith))
  where
    pick : (i ≡ j) ⊎ (suc i ≤ j) → (suc i ≤ j → P (f j)) → P (f j)
    pick (inl e) more = subst (λ x. P (f x)) e h.0
    pick (inr g) more = more g

weight_below : (f : ℕ → Weighted) (k i j : ℕ) → i ≤ j → j < i + k → (f j).weight ≤ total_weight (tabulate f k i)
weight_below f zero i j h l = absurd (omega arith)
weight_below f (suc k) i j h l = pick (SlotLaws.first_or_later i j h) (λ g. weight_below f k (suc i) j g (omega arith))
  where
    pick : (i ≡ j) ⊎ (suc i ≤ j) → (suc i ≤ j → (f j).weight ≤ total_weight (tabulate f k (suc i))) → (f j).weight ≤ total_weight (tabulate f (suc k) i)
    pick (inl e) more = omega (arith, ap (λ x. (f x).weight) e)
    pick (inr g) more = omega (arith, more g)

module _ (s : List ℕ) (right : Reads s) (full : List ℕ) (table : Paths) (rows : PathTable table) (taken : Peeled s full (collected table)) where
  -- the path in a row has no more vertices than the graph
  path_short : (k : ℕ) → k < table.count → (path_at table k).size ≤ max_path_length s
  unfolding collected
  path_short k h =
      let p : List ℕ = (collected_at table k).path in
      let long : length p ≡ (path_at table k).size = length-take-le (path_at table k).size (path_at table k).row (omega (arith, rows.wide k h, rows.fit k h)) in
      let is_a_path : T (is_path (graph_of s) p) = all_untabulate (collected_at table) (λ w. T (is_path (graph_of s) w.path)) table.count 0 taken.are_paths k (omega arith) (omega arith) in
      let inside = path_inside (graph_of s) (graph_well_formed s right) p is_a_path in
      omega (arith, inside.2, long, (graph_within s right).few_vertices, path_length_limit s)

  pub paths_fit : copies_of s full ≤ most_moved → PathsFit s table
  unfolding collected
  paths_fit few =
      record {
        header = right.arcs.header;
        few = omega (arith, taken.few, collected_length table, slots_few s right);
        tall = rows.tall;
        wide = rows.wide;
        short = path_short;
        light = λ k h.
            omega (arith, weight_below (collected_at table) table.count 0 k (omega arith) (omega arith), taken.copies ∙ SlotLaws.opens_worth s full);
      }

-- ---- what is written is accepted

marks_same : (m q : Marks ℤ) (n k : ℕ) → ((v : ℕ) → k ≤ v → v < k + n → (m.into v ≡ q.into v) × (m.out v ≡ q.out v)) → mark_bytes m n k ≡ mark_bytes q n k
marks_same m q zero k h = refl
marks_same m q (suc n) k h =
    let e = h k (omega arith) (omega arith) in
    ap₂ (λ a b. bytes32 (word32 a) ++ (bytes32 (word32 b) ++ mark_bytes m n (suc k))) e.0 e.1 ∙
    ap (λ z. bytes32 (word32 (q.into k)) ++ (bytes32 (word32 (q.out k)) ++ z)) (marks_same m q n (suc k) (λ v a b. h v (omega arith) (omega arith)))

encode_same : (s : List ℕ) (price : ℕ) (m q : Marks ℤ) (W : List Weighted) → ((v : ℕ) → v < vertex_count s → (m.into v ≡ q.into v) × (m.out v ≡ q.out v)) →
    encode_answer s price m W ≡ encode_answer s price q W
unfolding encode_answer
encode_same s price m q W h =
    ap (λ z. let after = answer_version_of s ∷ (bytes16 (length W) ++ (bytes64 price ++ (z ++ path_bytes s W))) in bytes32 (4 + length after) ++ after)
    (marks_same m q (vertex_count s) 0 (λ v a b. h v (omega arith)))

-- The answer form put at the front is accepted, and every other byte is kept.
pub answered : (s before after mark full : List ℕ) (from to : List ℕ) (into out : List ℕ) (W : List Weighted) (price r : ℕ) → (graph_verdict s).number ≡ 0 →
    Flowed s from to mark full → Peeled s full W → MarksHeld s mark into out → price ≡ price_from s full →
    Placed before 0 (encode_answer s price (held_marks (nth into) (nth out)) W) after → r ≡ length (encode_answer s price (held_marks (nth into) (nth out)) W) → Answered s before after r
answered s before after mark full from to into out W price r reads fl taken M ep P er =
    record {
      accepted = ap (check_verdict s) (ap (λ k. take k after) er ∙ (t.0 ∙ same)) ∙ certificate_accepted s reads mark fl.added full fl.settled W taken (omega (arith, fl.loaded.few, max_weight_is s));
      fits = omega (arith, P.room);
      behind = ap (λ k. drop k after) er ∙ (t.1 ∙ sym (ap (λ k. drop k before) er));
      same_length = placed_length before after 0 _ P;
    }
  where
    t : (take (length (encode_answer s price (held_marks (nth into) (nth out)) W)) after ≡ encode_answer s price (held_marks (nth into) (nth out)) W) ×
        (drop (length (encode_answer s price (held_marks (nth into) (nth out)) W)) after ≡ drop (length (encode_answer s price (held_marks (nth into) (nth out)) W)) before)
    t = placed_taken before after _ P

    same : encode_answer s price (held_marks (nth into) (nth out)) W ≡ encode_answer s (price_from s full) (final_marks s mark) W
    same =
        ap (λ b. encode_answer s b (held_marks (nth into) (nth out)) W) ep ∙
        encode_same s (price_from s full) (held_marks (nth into) (nth out)) (final_marks s mark) W
        (λ v h. (ap (λ x. sub_ℕ x base) (M.into_held v h), ap (λ x. sub_ℕ x base) (M.out_held v h)))
