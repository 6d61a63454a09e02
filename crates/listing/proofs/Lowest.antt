-- What is listed for an accepted answer: the paths of a cover of lowest price, that price, and the bound that shows it. It is one price for every such answer.
use Prim.Native.Nat.{ℕ, zero, suc, ◌+◌, ◌≤◌}
use native.Mathlib.Omega.{arith}
use mathlib.Core.Path.{◌≡◌, refl, sym, ap, ap₂, ◌∙◌}
use mathlib.Core.List.{List, ◌++◌}
use lib.ListN.{length}
use lib.IntN.{nat_abs}
use borrow.Author.Tests.{eq-eqb}
use Rattle.mathematics.specs.Price.{whole}
use Rattle.mathematics.specs.Cover.{Weighted, IsLowest, price}
use Rattle.mathematics.proofs.PriceKinds.{whole_ordered}
use Rattle.mathematics.proofs.Lowest.{lowest_prices_equal}
use Rattle.forms.specs.declared.Verdict.{Verdict}
use Rattle.forms.specs.AnswerForm.{path_count, stated_price, first_path_at, paths_from, cover_of}
use Rattle.forms.specs.GraphFaults.{nothing_refused}
use Rattle.forms.specs.GraphOf.{graph_of}
use Rattle.checker.specs.Check.{check_verdict, path_at}
use Rattle.checker.proofs.Soundness.{accepted_is_lowest}
use Rattle.checker.proofs.HandedOut.{paths_length}
use Rattle.listing.specs.Lines.{cover_line, path_line, bound_line}
use Rattle.listing.specs.Listing.{path_lines, cover_lines, cover_listing, listing_of}
use Rattle.listing.proofs.Accepted.{price_is_stated, bound_is_stated, path_at_next, path_here}

lines_are_paths : (s t : List ℕ) (count k : ℕ) → (check_verdict s t).number ≡ 0 → k + count ≤ path_count t →
    path_lines s t count k ≡ cover_lines (paths_from s t count (path_at s t k (first_path_at s)))
lines_are_paths s t zero k e l = refl
lines_are_paths s t (suc count) k e l =
    ap₂ ◌++◌ (ap (path_line _) (path_here s t k e (omega arith)).vertices)
    (lines_are_paths s t count (suc k) e (omega arith) ∙
    ap (λ at. cover_lines (paths_from s t count at)) (path_at_next s t k (first_path_at s)))

-- the listing in terms of the answer's cover and its price
lists_cover_of : (s t : List ℕ) → (check_verdict s t).number ≡ 0 →
    let W = cover_of s t in
    let p = nat_abs (price whole (graph_of s) W) in
    listing_of s t ≡ cover_line (length W) p ++ (cover_lines W ++ bound_line p)
unfolding listing_of cover_listing cover_of
lists_cover_of s t e =
    let at = first_path_at s in
    simp (eq-eqb _ _ e)
    (ap₂ ◌++◌ (ap (λ n. cover_line n (nat_abs (price whole (graph_of s) (cover_of s t)))) (sym (paths_length s t (path_count t) at)))
    (ap₂ ◌++◌ (lines_are_paths s t (path_count t) 0 e (omega arith)) (ap bound_line (bound_is_stated s t e ∙ sym (price_is_stated s t e)))))

-- The paths listed are a cover of the graph of these bytes, no cover of any size has a lower price, and that price is listed as price and as bound.
pub listed_is_lowest : (s t : List ℕ) → (check_verdict s t).number ≡ 0 →
    (W : List Weighted) × IsLowest whole (graph_of s) W ×
    (listing_of s t ≡ cover_line (length W) (nat_abs (price whole (graph_of s) W)) ++ (cover_lines W ++ bound_line (nat_abs (price whole (graph_of s) W))))
listed_is_lowest s t e = (cover_of s t, (accepted_is_lowest s t e).0, lists_cover_of s t e)

-- any two answers that the checker accepts with a graph state one price
pub accepted_prices_equal : (s t t' : List ℕ) → check_verdict s t ≡ nothing_refused → check_verdict s t' ≡ nothing_refused → stated_price s t ≡ stated_price s t'
accepted_prices_equal s t t' e e' =
    let a = accepted_is_lowest s t (ap (λ (v : Verdict). v.number) e) in
    let b = accepted_is_lowest s t' (ap (λ (v : Verdict). v.number) e') in
    ap nat_abs (sym a.1 ∙ (lowest_prices_equal whole whole_ordered (graph_of s) (cover_of s t) (cover_of s t') a.0 b.0 ∙ b.1))
