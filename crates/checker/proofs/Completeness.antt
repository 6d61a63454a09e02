-- Completeness of the checker: for every lowest-price cover within the answer form's limits there are marks with which its answer form is accepted, and where
-- a cover exists some answer form is accepted. Document 01 shuts out by name "a builder or checker that refuses always (.. demand 3's acceptance of every
-- lowest-price cover)".
use Rattle.std.proofs.Common.{ℕ, zero, suc, ◌+◌, ◌*◌, ◌≤◌, ◌<◌, arith, ◌≡◌, refl, sym, ap, subst, subst₂, ◌∙◌, List, [], ◌∷◌, ◌++◌, T, length, length-append, ℤ, pos}
use lib.Signed.{le_z}
use Rattle.mathematics.specs.Price.{whole}
use Rattle.mathematics.specs.Lists.{All}
use Rattle.mathematics.specs.Graph.{is_path}
use Rattle.mathematics.specs.Cover.{Weighted, total_weight, paths, price, IsCover, IsLowest}
use Rattle.mathematics.specs.Bound.{Marks, bound}
use Rattle.mathematics.specs.Exists.{Coverable}
use Rattle.mathematics.proofs.Basics.{and_in, all_weaken}
use Rattle.mathematics.proofs.PriceKinds.{whole_ordered}
use Rattle.mathematics.proofs.Duality.{Best, strong_duality}
use Rattle.mathematics.proofs.Lowest.{Shows, same_marks_serve, shown_is_lowest}
use Rattle.mathematics.proofs.Limits.{whole_marks_fit, path_limit_within, weight_limit_within}
use Rattle.mathematics.proofs.Existence.{cover_shows_coverable}
use Rattle.forms.specs.AnswerFaults.{list_before}
use Rattle.forms.specs.AnswerForm.{path_count, mark_part_length, in_mark_at, out_mark_at, mark_parts, answer_marks, first_path_at, path_weight, path_vertices, path_end}
use Rattle.forms.specs.GraphFaults.{nothing_refused, all_below, graph_verdict}
use Rattle.forms.specs.GraphForm.{vertex_count}
use Rattle.forms.specs.GraphOf.{graph_of}
use Rattle.forms.specs.GraphReads.{Reads}
use Rattle.forms.specs.Layout.{max_vertices, max_arcs, max_reads, max_paths, max_weight}
use Rattle.forms.specs.Limits.{room_vertices, max_opening, max_cost, max_demand}
use Rattle.checker.specs.Check.{same_price, check_verdict}
use Rattle.checker.specs.Encode.{path_record, path_bytes, encode_answer, sorted}
use Rattle.checker.specs.Accepted.{InRange, MarkRight, MarksRight, PathsRight, Certified, Accepted}
use Rattle.checker.specs.Acceptable.{Ascending, Holdable, MarksFit, Acceptable}
use Rattle.checker.proofs.Accepted.{accepted_nothing_refused}
use Rattle.checker.proofs.GraphReads.{number_zero_iff_reads}
use Rattle.forms.proofs.LayoutLaws.{price_parts_is, vertices_room, path_limit_lem, weight_limit_lem, path_length_limit, mark_next, marks_product}
use Rattle.forms.proofs.GraphFacts.{graph_well_formed, graph_costs_hold, graph_within}
use Rattle.forms.proofs.GraphRange.{vertices_length, demands_low, costs_low}
use Rattle.checker.proofs.Encoding
use Rattle.checker.proofs.Encoding.{record_weight, record_length, record_path, record_end, record_split}
use Rattle.tally.proofs.PathWalkLaws.{path_length_room, weight_low}
use Rattle.checker.proofs.AnswerPaths.{most_price}
use Rattle.checker.proofs.Inside.{all_below_lem, path_inside}
use Rattle.checker.proofs.MarksAgree.{slacks_agree, bound_agrees}
use Rattle.checker.proofs.PriceNumber.{price_at_most}
use Rattle.checker.proofs.Sorted.{sorted_lowest, sorted_length, sorted_weight, sorted_ascends}

-- marks in range at each vertex from k on are marks of the form in range, each mark being one number
marks_right : (s t : List ℕ) (n k : ℕ) → ((v : ℕ) → v < k + n → MarkRight t (in_mark_at s v) × MarkRight t (out_mark_at s v)) → MarksRight t (2 * n) (in_mark_at s k)
marks_right s t zero k h = tt
marks_right s t (suc n) k h =
    let r = h k (omega arith) in
    let two : suc (suc (2 * n)) ≡ 2 * suc n = omega arith in
    let behind : out_mark_at s k ≡ in_mark_at s k + mark_part_length = omega (arith, price_parts_is s) in
    let next : in_mark_at s (suc k) ≡ in_mark_at s k + mark_part_length + mark_part_length = omega (arith, mark_next s k, price_parts_is s) in
    subst (λ c. MarksRight t c (in_mark_at s k)) two
    (r.0, (subst (MarkRight t) behind r.1, subst (MarksRight t (2 * n)) next (marks_right s t n (suc k) (λ v l. h v (omega arith)))))

-- equal prices pass the test of equality
equal_same : (a b : ℤ) → a ≡ b → T (same_price whole a b)
equal_same a b e =
    and_in (le_z a b) (le_z b a) (subst (λ x. T (le_z a x)) e (whole_ordered.le_refl a)) (subst (λ x. T (le_z x a)) e (whole_ordered.le_refl a))

module _ (s : List ℕ) (r : Reads s) where
  -- the path records of a cover, which stand behind p, are right
  paths_right : (W : List Weighted) (p : List ℕ) (at : ℕ) (before : List ℕ) (copies : ℕ) → length p ≡ at → Ascending before (paths W) →
      All (λ w. T (is_path (graph_of s) w.path)) W → All (λ w. 1 ≤ w.weight) W → copies + total_weight W ≤ max_weight s →
      PathsRight s (p ++ path_bytes s W) (length W) at before copies
  paths_right [] p at before copies e a h k l = let x = length-append p [] in omega arith
  paths_right (w ∷ W) p at before copies e a h k l = (
    record {
      some_vertex = omega (arith, count, inside.1);
      few_vertices = omega (arith, count, inside.2, (graph_within s r).few_vertices, path_length_limit s);
      within = omega (arith, ap length (record_split s w W p at e), length-append (p ++ path_record s w) (path_bytes s W), record_end s w W p at e);
      some_copy = omega (arith, weight, k.0);
      few_copies = omega (arith, weight);
      vertices_known =
          subst (λ q. T (all_below (vertex_count s) q)) (sym path)
          (all_below_lem (vertex_count s) w.path (subst (λ n. All (λ v. v < n) w.path) (vertices_length s) inside.0));
      is_a_path = subst (λ q. T (is_path (graph_of s) q)) (sym path) h.0;
      ascends = subst (λ q. T (list_before before q)) (sym path) a.0;
    },
    subst (λ u. PathsRight s u (length W) end (path_vertices s t at) (copies + path_weight t at)) (sym (record_split s w W p at e))
        (subst₂ (λ q c. PathsRight s ((p ++ path_record s w) ++ path_bytes s W) (length W) end q (copies + c)) (sym path) (sym weight)
        (paths_right W (p ++ path_record s w) end w.path (copies + w.weight) (record_end s w W p at e) a.1 h.1 k.1 (omega arith))),
  )
    where
      t : List ℕ
      t = p ++ path_bytes s (w ∷ W)

      end : ℕ
      end = path_end s t at

      weight : path_weight t at ≡ w.weight
      weight = record_weight s w W p at e

      count : Rattle.forms.specs.AnswerForm.path_length s t at ≡ length w.path
      count = record_length s w W p at e

      path : path_vertices s t at ≡ w.path
      path = record_path s w W p at e

      inside : All (λ v. v < length (graph_of s).vertices) w.path × (1 ≤ length w.path) × (length w.path ≤ length (graph_of s).vertices)
      inside = path_inside (graph_of s) (graph_well_formed s r) w.path h.0

  module _ (reads : (graph_verdict s).number ≡ 0) (W : List Weighted) (c : IsCover (graph_of s) W) (few : length W ≤ max_paths s)
      (light : total_weight W ≤ max_weight s) (ascending : Ascending [] (paths W)) (m : Marks ℤ) (fit : MarksFit s m) where
    module _ (p : ℕ) where
      form : List ℕ
      form = encode_answer s p m W

      low : (v : ℕ) → v < vertex_count s → v < length (graph_of s).vertices
      low v l = subst (λ n. v < n) (sym (vertices_length s)) l

      into_back : (v : ℕ) → v < vertex_count s → (answer_marks s form).into v ≡ m.into v
      unfolding form
      into_back v l = Encoding.encoded_into s p m W v l (fit v (low v l)).0

      out_back : (v : ℕ) → v < vertex_count s → (answer_marks s form).out v ≡ m.out v
      unfolding form
      out_back v l = Encoding.encoded_out s p m W v l (fit v (low v l)).1

      form_marks : MarksRight form (mark_parts s) (in_mark_at s 0)
      unfolding answer_marks
      form_marks =
          subst (λ c. MarksRight form c (in_mark_at s 0)) (marks_product s 1 (vertex_count s) (price_parts_is s) refl)
          (marks_right s form (vertex_count s) 0
          (λ v h. let l : v < vertex_count s = omega arith in (subst InRange (sym (into_back v l)) (fit v (low v l)).0, subst InRange (sym (out_back v l)) (fit v (low v l)).1)))

      form_paths : PathsRight s form (path_count form) (first_path_at s) [] 0
      unfolding form
      form_paths =
          let (front, long, split) = Encoding.encoded_front s p m W in
          subst₂ (λ u k. PathsRight s u k (first_path_at s) [] 0) (sym split) (sym (Encoding.encoded_path_count s p m W))
          (paths_right W front (first_path_at s) [] 0 long ascending c.are_paths c.weights (omega arith))

      agree : (v : ℕ) → v < length (graph_of s).vertices → (m.into v ≡ (answer_marks s form).into v) × (m.out v ≡ (answer_marks s form).out v)
      agree v l = let k : v < vertex_count s = subst (λ n. v < n) (vertices_length s) l in (sym (into_back v k), sym (out_back v k))

      -- marks that show a cover make its form an accepted one
      shown_accepted : Shows whole (graph_of s) m W → price whole (graph_of s) W ≡ pos p → Accepted s form
      unfolding form
      shown_accepted shown e =
          record {
            graph_reads = reads;
            header = record {
              long = omega (arith, Encoding.encoded_length s p m W);
              length_stated = Encoding.encoded_length_word s p m W;
              version_known = Encoding.encoded_version s p m W;
              few_paths = omega (arith, Encoding.encoded_path_count s p m W);
            };
            marks = form_marks;
            paths = form_paths;
            certificate = subst₂ (λ U q. Certified whole (graph_of s) U (pos q) (answer_marks s form)) (sym (Encoding.encoded_cover s p m W))
                (sym (Encoding.encoded_price s p m W))
                (record {
                  demands_met = c.demands_met;
                  reads_met = c.reads_met;
                  price_stated = equal_same (price whole (graph_of s) W) (pos p) e;
                  slacks_hold = slacks_agree whole (graph_of s) (graph_well_formed s r) m (answer_marks s form) agree shown.0;
                  bound_stated = equal_same (bound whole (graph_of s) (answer_marks s form)) (pos p)
                      (sym (bound_agrees whole (graph_of s) (graph_well_formed s r) m (answer_marks s form) agree) ∙ (shown.1 ∙ e));
                });
          }

module _ (s : List ℕ) (r : Reads s) where
  -- paths of the graph and weights of at most the limit fit the form's fields
  pub all_holdable : (W : List Weighted) → total_weight W ≤ max_weight s → All (λ w. T (is_path (graph_of s) w.path)) W → All (Holdable s) W
  all_holdable [] l h = tt
  all_holdable (w ∷ W) l h =
      let inside = path_inside (graph_of s) (graph_well_formed s r) w.path h.0 in
      let few = (graph_within s r).few_vertices in (
        record {
          low_weight = omega (arith, weight_low s);
          few_vertices = omega (arith, inside.2, path_length_limit s);
          low_vertices = all_weaken (λ v. v < length (graph_of s).vertices) (λ v. v < 256) w.path (λ v k. omega (arith, vertices_room s)) inside.0;
        },
        all_holdable W (omega arith) h.1,
      )

  -- marks in range that show a cover within the limits, in ascending order, make an accepted form of it
  shown_acceptable : (W : List Weighted) → IsCover (graph_of s) W → (graph_verdict s).number ≡ 0 → length W ≤ max_paths s → total_weight W ≤ max_weight s → Ascending [] (paths W) →
      (m : Marks ℤ) → MarksFit s m → Shows whole (graph_of s) m W → Acceptable s W
  unfolding form
  shown_acceptable W c reads few light ascending m fit shown =
      let holdable = all_holdable W light c.are_paths in
      let short = all_weaken (Holdable s) (λ w. length w.path ≤ room_vertices) W (λ w h. omega (arith, h.few_vertices, path_length_room s)) holdable in
      let q = price_at_most (graph_of s) max_opening max_cost room_vertices (graph_within s r).low_opening (graph_within s r).low_arc_costs W short in
      let p = q.number in
      let e : price whole (graph_of s) W ≡ pos p = q.is in
      let l : p ≤ total_weight W * most_price = q.low in
      let small : vertex_count s ≤ max_vertices s = omega (arith, (graph_within s r).few_vertices, vertices_length s) in
      record {
        marks = m;
        marks_fit = fit;
        stated = p;
        price_stated = e;
        accepted = accepted_nothing_refused s (encode_answer s p m W) (shown_accepted s r reads W c few light ascending m fit p shown e);
        gives = Encoding.encoded_cover s p m W;
        bytes = Encoding.encoded_bytes s p m W small few holdable (omega (arith, weight_low s)) (λ v k. fit v (subst (λ n. v < n) (sym (vertices_length s)) k));
        fits = Encoding.encoded_fits s p m W small few holdable;
      }

  -- The answer form of a cover within the limits, in ascending order, at its price, with marks in range that show it, is accepted.
  pub shown_form_accepted : (W : List Weighted) → IsCover (graph_of s) W → (graph_verdict s).number ≡ 0 → length W ≤ max_paths s → total_weight W ≤ max_weight s → Ascending [] (paths W) →
      (m : Marks ℤ) → MarksFit s m → Shows whole (graph_of s) m W → (p : ℕ) → price whole (graph_of s) W ≡ pos p →
      check_verdict s (encode_answer s p m W) ≡ nothing_refused
  unfolding form
  shown_form_accepted W c reads few light ascending m fit shown p e =
      accepted_nothing_refused s (encode_answer s p m W) (shown_accepted s r reads W c few light ascending m fit p shown e)

module _ (s : List ℕ) (reads : (graph_verdict s).number ≡ 0) where
  known : Reads s
  known = (number_zero_iff_reads s).0 reads

  best : Coverable (graph_of s) → Best whole (graph_of s)
  best c = strong_duality whole whole_ordered (graph_of s) (graph_well_formed s known) (graph_costs_hold s) c

  best_lowest : (c : Coverable (graph_of s)) → IsLowest whole (graph_of s) (best c).cover
  best_lowest c =
      shown_is_lowest whole whole_ordered (graph_of s) (graph_well_formed s known) (best c).marks (best c).cover (best c).is_cover ((best c).slacks_hold, sym (best c).price_is_bound)

  best_fits : (c : Coverable (graph_of s)) → MarksFit s (best c).marks
  best_fits c v l =
      let o = (graph_within s known).low_opening in
      let few : length (graph_of s).vertices ≤ 256 = omega (arith, (graph_within s known).few_vertices, vertices_room s) in
      let within = (best c).marks_within v l in (
        whole_marks_fit (graph_of s) o.number ((best c).marks.into v) few o.low o.is (costs_low s (graph_of s) (graph_within s known)) within.0,
        whole_marks_fit (graph_of s) o.number ((best c).marks.out v) few o.low o.is (costs_low s (graph_of s) (graph_within s known)) within.1,
      )

  -- Every lowest-price cover within the limits of the answer form, in ascending order, has marks with which its form is accepted.
  pub lowest_cover_accepted : (W : List Weighted) → IsLowest whole (graph_of s) W → length W ≤ max_paths s → total_weight W ≤ max_weight s → Ascending [] (paths W) → Acceptable s W
  lowest_cover_accepted W w few light ascending =
      let c = cover_shows_coverable (graph_of s) W w.cover in
      shown_acceptable s known W w.cover reads few light ascending (best c).marks (best_fits c)
      (same_marks_serve whole whole_ordered (graph_of s) (best c).marks (best c).cover W (best_lowest c) w ((best c).slacks_hold, sym (best c).price_is_bound))

  -- A cover is a set: in whatever order a lowest-price cover comes, put in ascending order it is accepted.
  pub lowest_cover_accepted_sorted : (W : List Weighted) → IsLowest whole (graph_of s) W → length W ≤ max_paths s → total_weight W ≤ max_weight s → Acceptable s (sorted W)
  lowest_cover_accepted_sorted W w few light =
      lowest_cover_accepted (sorted W) (sorted_lowest whole whole_ordered (graph_of s) (graph_well_formed s known) W w)
      (subst (λ k. k ≤ max_paths s) (sym (sorted_length W)) few) (subst (λ k. k ≤ max_weight s) (sym (sorted_weight W)) light)
      (sorted_ascends (graph_of s) W w.cover.are_paths w.cover.distinct)

  -- Where a cover exists some answer form is accepted: a checker that refuses always is shut out.
  pub something_is_accepted : Coverable (graph_of s) → (W : List Weighted) × Acceptable s W
  something_is_accepted c =
      let w = graph_within s known in
      let few = path_limit_within (graph_of s) (max_vertices s) (max_arcs s) (max_reads s) w.few_vertices w.few_arcs w.few_reads in
      let light = weight_limit_within (graph_of s) (max_vertices s) (max_arcs s) (max_reads s) max_demand w.few_vertices w.few_arcs w.few_reads (demands_low s (graph_of s) w) in (
        sorted (best c).cover,
        lowest_cover_accepted_sorted (best c).cover (best_lowest c) (omega (arith, few, path_limit_lem s, (best c).few_paths)) (omega (arith, light, weight_limit_lem s, (best c).few_copies)),
      )
