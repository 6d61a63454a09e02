-- Document 01, "Numbers to hold against the definitions": the marked rows, from the definitions, as one table under one theorem. A row that names a price
-- holds an answer form that is accepted, its paths and its price; by soundness no cover has a lower price.
use Rattle.std.proofs.Common.{ℕ, zero, suc, ◌≤◌, ◌<◌, arith, ◌≡◌, refl, subst, ap, ◌∙◌, sym, List, [], ◌∷◌, not, ◌||◌, inl, inr, T, ltb, eqb, ltb→lt, T_not, length, get_or, take, ℤ, pos}
use Rattle.mathematics.specs.Price.{whole}
use Rattle.mathematics.specs.Lists.{All}
use Rattle.mathematics.specs.Graph.{Graph, linked}
use Rattle.mathematics.specs.Cover.{Ask, asks, IsLowest, price}
use Rattle.mathematics.specs.Prepare.{prepare, overlap, longest, join_at}
use Rattle.mathematics.specs.Bound.{bound}
use Rattle.mathematics.specs.Exists.{ItemOnPath}
use Rattle.mathematics.specs.Range.{OneOf}
use Rattle.mathematics.specs.Reach.{item_list, item_lies, ask_lies, from_start, to_end}
use Rattle.mathematics.proofs.Basics.{all_among, all_weaken}
use Rattle.mathematics.proofs.Existence.{cover_shows_coverable, asks_linked, ask_lies_lem}
use Rattle.forms.specs.AnswerFaults.{answer_header_verdict, mark_fault, marks_verdict, path_fault, paths_verdict}
use Rattle.forms.specs.AnswerForm.{stated_price, signed32, answer_marks, cover_of, in_mark_at, mark_parts}
use Rattle.forms.specs.BuildFaults.{room_asked, no_ask, asks_lie_verdict, reads_lie_verdict, cover_verdict, build_verdict}
use Rattle.forms.specs.Bytes.{be16, be32, be64, part}
use Rattle.forms.specs.GraphFaults.{refusal, nothing_refused, then, first_fault, header_verdict, vertex_fault, arc_fault, walks, read_fault, reads_verdict, graph_verdict}
use Rattle.forms.specs.GraphForm.{vertex_at}
use Rattle.forms.specs.GraphOf.{graph_of}
use Rattle.forms.specs.Layout.{max_vertices, max_arcs, max_reads, max_read_length, max_paths, max_weight, count_bytes, count_at, max_flag, vertex_length, answer_version_of, price_parts, max_path_length, longest_answer}
use Rattle.checker.specs.Check.{demands_verdict, reads_met_verdict, vertex_slacks_verdict, arc_slacks_verdict, certificate_verdict, answer_verdict, check_verdict}
use Rattle.checker.specs.Rows.{Row, priced, refused, shut, RowHolds, rows}
use Rattle.checker.proofs.GraphReads.{number_zero_iff_reads}
use Rattle.forms.proofs.GraphFacts.{graph_well_formed}
use Rattle.checker.proofs.Soundness.{accepted_is_lowest}

-- what of a row is found by computing
abbrev Computes : Row → Type 0
Computes (priced s t W p) = (check_verdict s t ≡ nothing_refused) × (cover_of s t ≡ W) × (stated_price s t ≡ p)
Computes (refused s t number place) = check_verdict s t ≡ refusal number place
Computes (shut s item) =
    ((graph_verdict s).number ≡ 0) × T (ltb item (length (asks (graph_of s)))) ×
    All (λ a. T (ask_lies (graph_of s) a)) (take item (asks (graph_of s))) × T (not (ask_lies (graph_of s) (get_or (asks (graph_of s)) item no_ask))) ×
    (build_verdict s (room_asked s) ≡ refusal 8 item)

rows_compute : All Computes rows
unfolding rows max_vertices max_arcs max_reads max_read_length max_paths max_weight count_bytes count_at max_flag vertex_length answer_version_of price_parts max_path_length longest_answer vertex_at in_mark_at mark_parts prepare overlap longest join_at bound be16 be32 be64 part graph_of then first_fault header_verdict vertex_fault arc_fault walks read_fault reads_verdict graph_verdict signed32 answer_marks cover_of answer_header_verdict mark_fault marks_verdict path_fault paths_verdict demands_verdict reads_met_verdict vertex_slacks_verdict arc_slacks_verdict certificate_verdict answer_verdict check_verdict from_start to_end asks_lie_verdict reads_lie_verdict cover_verdict build_verdict
rows_compute = (
  (refl, refl, refl),
  (
    (refl, refl, refl),
    ((refl, refl, refl), ((refl, refl, refl), ((refl, refl, refl), ((refl, tt, tt, tt, refl), ((refl, refl, refl), ((refl, refl, refl), (refl, (refl, (refl, (refl, tt)))))))))),
  ),
)

get_or_among : {A : Type 0} (xs : List A) (k : ℕ) (d : A) → k < length xs → OneOf xs (get_or xs k d)
get_or_among [] k d h = absurd (omega arith)
get_or_among (x ∷ xs) zero d h = inl refl
get_or_among (x ∷ xs) (suc k) d h = inr (get_or_among xs k d (omega arith))

asks_for : (G : Graph ℤ) (a : Ask) → T (not (ask_lies G a)) → 1 ≤ a.demand
asks_for G a h = at a.demand h
  where
    at : (d : ℕ) → T (not (eqb d 0 || item_lies G a.item)) → 1 ≤ d
    at zero z = absurd z
    at (suc d) z = omega arith

row_holds : (r : Row) → Computes r → RowHolds r
row_holds (priced s t W p) c =
    let h = accepted_is_lowest s t (ap (λ v. v.number) c.0) in
    (c.0, c.1, subst (IsLowest whole (graph_of s)) c.1 h.0, ap (price whole (graph_of s)) (sym c.1) ∙ (h.1 ∙ ap pos c.2))
row_holds (refused s t number place) c = c
row_holds (shut s item) c = (
  c.0,
  record {
    before_lie = c.2;
    asks_something = asked;
    on_no_path = off;
    no_cover = λ W w. off (all_among (λ a. 1 ≤ a.demand → ItemOnPath G a.item) (asks G) ask (cover_shows_coverable G W w).items_lie one asked);
  },
  c.4,
)
  where
    G : Graph ℤ
    G = graph_of s

    ask : Ask
    ask = get_or (asks G) item no_ask

    one : OneOf (asks G) ask
    one = get_or_among (asks G) item no_ask (ltb→lt _ _ c.1)

    asked : 1 ≤ ask.demand
    asked = asks_for G ask c.3

    off : ItemOnPath G ask.item → ⊥
    off p =
        T_not (ask_lies G ask) c.3
        ((ask_lies_lem G (graph_well_formed s ((number_zero_iff_reads s).0 c.0)) ask (all_among (λ a. T (linked G.arcs (item_list a.item))) (asks G) ask (asks_linked G) one)).1 (λ d. p))

-- every marked row of document 01 holds
pub rows_hold : All RowHolds rows
rows_hold = all_weaken Computes RowHolds rows row_holds rows_compute
