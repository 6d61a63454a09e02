-- What the listing uses of an accepted answer: each path's record lies within the answer, its vertices are those handed out, the stated price is the
-- price and the bound, and how long the whole listing is at the most.
use Prim.Native.Nat.{ℕ, zero, suc, ◌+◌, ◌-◌, ◌*◌, ◌≤◌, ◌<◌}
use native.Mathlib.Numerals.{add-one}
use native.Mathlib.Omega.{arith}
use mathlib.Core.Path.{◌≡◌, refl, sym, ap, subst}
use mathlib.Core.List.{List, [], ◌++◌}
use lib.ListN.{length, length-append, length-take}
use lib.IntN.{pos, nat_abs}
use lib.Signed.{le_z}
use borrow.Author.Tests.{eq-eqb, lt-ltb}
use Rattle.mathematics.specs.Price.{whole}
use Rattle.mathematics.specs.Cover.{price}
use Rattle.mathematics.specs.Bound.{bound}
use Rattle.mathematics.proofs.Basics.{and_l, and_r, is_true, all_weaken}
use Rattle.mathematics.proofs.PriceKinds.{whole_ordered}
use Rattle.forms.specs.AnswerForm.{answer_header_length, path_count, stated_price, answer_marks, first_path_at, path_weight, path_vertices, path_end, cover_of}
use Rattle.forms.specs.Bytes.{part}
use Rattle.forms.specs.GraphForm.{header_length, vertex_count}
use Rattle.forms.specs.GraphOf.{graph_of}
use Rattle.forms.specs.Limits.{room_vertices, room_paths}
use Rattle.checker.specs.Check.{check_verdict, hand_out_verdict, path_at, handed_out}
use Rattle.forms.proofs.RightLaws.{below_all}
use Rattle.forms.proofs.LayoutLaws.{mark_long, max_weight_is, path_length_limit, vertices_room, paths_room}
use Rattle.checker.proofs.GraphReads.{number_zero_iff_reads}
use Rattle.checker.specs.Accepted.{PathRight, PathsRight}
use Rattle.checker.proofs.Accepted.{number_zero_accepted}
use Rattle.checker.proofs.Soundness.{accepted_is_lowest}
use Rattle.text.specs.Text.{TextFits}
use Rattle.text.proofs.Storing.{Still, still_all}
use Rattle.listing.specs.Lines.{cover_word, pair_line, path_line, bound_line}
use Rattle.listing.specs.Listing.{weight_of, path_lines, cover_listing, longest_line, longest_listing}
use Rattle.listing.proofs.Lengths.{cover_line_few, bound_line_few, path_line_few}

-- "bound differs from the price", "stated price differs from the paths' price": in an accepted answer they do not
pub price_is_stated : (s t : List ℕ) → (check_verdict s t).number ≡ 0 → nat_abs (price whole (graph_of s) (cover_of s t)) ≡ stated_price s t
price_is_stated s t e = ap nat_abs (accepted_is_lowest s t e).1

pub bound_is_stated : (s t : List ℕ) → (check_verdict s t).number ≡ 0 → nat_abs (bound whole (graph_of s) (answer_marks s t)) ≡ stated_price s t
bound_is_stated s t e =
    let h = (number_zero_accepted s t e).certificate.bound_stated in
    let B = bound whole (graph_of s) (answer_marks s t) in
    let P = pos (stated_price s t) in
    ap nat_abs (whole_ordered.le_antisym B P (and_l (le_z B P) (le_z P B) h) (and_r (le_z B P) (le_z P B) h))

-- how long the forms are at the least
pub graph_long : (s t : List ℕ) → (check_verdict s t).number ≡ 0 → header_length s ≤ length s
graph_long s t e = ((number_zero_iff_reads s).0 (number_zero_accepted s t e).graph_reads).arcs.header.long

pub answer_long : (s t : List ℕ) → (check_verdict s t).number ≡ 0 → answer_header_length s ≤ length t
answer_long s t e = omega (arith, (number_zero_accepted s t e).header.long, mark_long s (vertex_count s))

-- the next path's record begins where the record of path k ends
pub path_at_next : (s t : List ℕ) (k at : ℕ) → path_at s t (suc k) at ≡ path_end s t (path_at s t k at)
path_at_next s t zero at = refl
path_at_next s t (suc k) at = path_at_next s t k (path_end s t at)

-- path k of the answer t for the graph s: its record, which begins at an offset, is right, and its vertices are handed out
pub record PathHere (s t : List ℕ) (k : ℕ) : Type 0 where
  pub before : List ℕ
  pub copies : ℕ
  pub right : PathRight s t (path_at s t k (first_path_at s)) before copies
  pub vertices : handed_out s t k ≡ path_vertices s t (path_at s t k (first_path_at s))

path_right : (s t : List ℕ) (count at k : ℕ) (before : List ℕ) (copies : ℕ) → k < count → PathsRight s t count at before copies →
    (b : List ℕ) × (c : ℕ) × PathRight s t (path_at s t k at) b c
path_right s t zero at k before copies l h = absurd (omega arith)
path_right s t (suc count) at zero before copies l h = (before, copies, h.0)
path_right s t (suc count) at (suc k) before copies l h =
    path_right s t count (path_end s t at) k (path_vertices s t at) (copies + path_weight t at) (omega arith) h.1

pub path_here : (s t : List ℕ) (k : ℕ) → (check_verdict s t).number ≡ 0 → k < path_count t → PathHere s t k
unfolding handed_out hand_out_verdict
path_here s t k e l =
    let r = path_right s t (path_count t) (first_path_at s) k [] 0 l (number_zero_accepted s t e).paths in
    record { before = r.0; copies = r.1; right = r.2; vertices = simp (eq-eqb _ _ e, lt-ltb _ _ l) }

-- a path's line has at most as many bytes as `longest_line` says
line_few : (s t : List ℕ) (k : ℕ) → (check_verdict s t).number ≡ 0 → k < path_count t → length (path_line (weight_of s t k) (handed_out s t k)) ≤ longest_line
unfolding part
line_few s t k e l =
    let p = path_here s t k e l in
    let at = path_at s t k (first_path_at s) in
    let few = ((number_zero_iff_reads s).0 (number_zero_accepted s t e).graph_reads).arcs.header.vertices_room in
    let low = below_all (vertex_count s) (path_vertices s t at) (is_true _ p.right.vertices_known) in
    path_line_few (weight_of s t k) (handed_out s t k) (omega (arith, p.right.few_copies, max_weight_is s))
    (rw p.vertices (rw length-take (omega (arith, p.right.few_vertices, path_length_limit s, vertices_room s))))
    (rw p.vertices (all_weaken (λ v. v < vertex_count s) (λ v. v < room_vertices) (path_vertices s t at) (λ v h. omega (arith, few)) low))

lines_few : (s t : List ℕ) (count k : ℕ) → (check_verdict s t).number ≡ 0 → k + count ≤ path_count t → length (path_lines s t count k) ≤ longest_line * count
lines_few s t zero k e l = omega arith
lines_few s t (suc count) k e l =
    simp length-append (omega (arith, line_few s t k e (omega arith), lines_few s t count (suc k) e (omega arith)))

-- the lines of all paths
pub all_lines_few : (s t : List ℕ) → (check_verdict s t).number ≡ 0 → length (path_lines s t (path_count t) 0) ≤ longest_line * room_paths
all_lines_few s t e = omega (arith, (number_zero_accepted s t e).header.few_paths, paths_room s, lines_few s t (path_count t) 0 e (omega arith))

-- a cover's listing has at most as many bytes as `longest_listing` says
pub cover_listing_few : (s t : List ℕ) → (check_verdict s t).number ≡ 0 → length (cover_listing s t) ≤ longest_listing
unfolding cover_listing
cover_listing_few s t e =
    let few = (number_zero_accepted s t e).header.few_paths in
    let P = nat_abs (price whole (graph_of s) (cover_of s t)) in
    let B = nat_abs (bound whole (graph_of s) (answer_marks s t)) in
    omega (
      arith,
      length-append (pair_line cover_word (path_count t) P) (path_lines s t (path_count t) 0 ++ bound_line B),
      length-append (path_lines s t (path_count t) 0) (bound_line B),
      cover_line_few (path_count t) P (omega (arith, few, paths_room s)),
      all_lines_few s t e,
      bound_line_few B,
    )

-- the lines that are left begin with that of the next path
pub path_lines_next : (s t : List ℕ) (count k : ℕ) → k < count →
    path_lines s t (count - k) k ≡ path_line (weight_of s t k) (handed_out s t k) ++ path_lines s t (count - (k + 1)) (k + 1)
path_lines_next s t count k l =
    let e : count - k ≡ suc (count - (k + 1)) = omega arith in
    rw e (ap (λ j. path_line (weight_of s t k) (handed_out s t k) ++ path_lines s t (count - (k + 1)) j) (sym (add-one k)))

-- the listing of an accepted answer by its parts, with the stated price as the price and the bound
listing_parts : (s t : List ℕ) (count stated : ℕ) → (check_verdict s t).number ≡ 0 → count ≡ path_count t → stated ≡ stated_price s t →
    cover_listing s t ≡ pair_line cover_word count stated ++ (path_lines s t (path_count t) 0 ++ bound_line stated)
unfolding cover_listing
listing_parts s t count stated e c p = rw (c, p, price_is_stated s t e, bound_is_stated s t e)

pub listing_begins : (s t out : List ℕ) (count stated : ℕ) → (check_verdict s t).number ≡ 0 → TextFits out 0 (cover_listing s t) → count ≡ path_count t →
    stated ≡ stated_price s t →
    Still out 0 (cover_listing s t) out 0 (pair_line cover_word count stated ++ (path_lines s t (path_count t) 0 ++ bound_line stated))
listing_begins s t out count stated e h c p = subst (Still out 0 (cover_listing s t) out 0) (listing_parts s t count stated e c p) (still_all h)

-- the bytes of its parts together
pub listing_counted : (s t : List ℕ) (count stated : ℕ) → (check_verdict s t).number ≡ 0 → count ≡ path_count t → stated ≡ stated_price s t →
    length (cover_listing s t) ≡ length (pair_line cover_word count stated) + length (path_lines s t (path_count t) 0) + length (bound_line stated)
listing_counted s t count stated e c p = rw (listing_parts s t count stated e c p) (simp length-append (omega arith))

-- its last line tells the stated price
pub bound_next : {before : List ℕ} {start : ℕ} {text out : List ℕ} {at bound stated : ℕ} → bound ≡ stated → Still before start text out at (bound_line stated) →
    Still before start text out at (bound_line bound)
bound_next e h = rw e h
