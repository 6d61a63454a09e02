-- An output of as many bytes as `longest_listing` says takes every text that is listed, so that 29 does not arise where a program lends it.
use Prim.Native.Nat.{ℕ, ◌≤◌}
use native.Mathlib.Omega.{arith}
use mathlib.Core.Path.{◌≡◌}
use mathlib.Core.List.{List}
use mathlib.Core.Bool.{cond}
use lib.Dec.{ltb, leb, eqb}
use lib.ListN.{length}
use borrow.Author.Tests.{eqb-true}
use Rattle.forms.specs.GraphFaults.{graph_verdict}
use Rattle.checker.specs.Check.{check_verdict}
use Rattle.text.specs.Text.{Writes}
use Rattle.text.proofs.Digits.{chosen}
use Rattle.listing.specs.Lines.{refused_word, refused_line}
use Rattle.listing.specs.Listing.{cover_listing, listing_of, longest_input, inputs_listing, longest_listing, Listed, Lists}
use Rattle.listing.proofs.Lengths.{pair_line_few}
use Rattle.listing.proofs.Accepted.{cover_listing_few}
use Rattle.listing.proofs.Writing.{listed_whole}

-- a refusal's line
pub refused_few : (number place : ℕ) → length (refused_line number place) ≤ longest_listing
refused_few number place = omega (arith, pair_line_few refused_word number place)

-- the listing of any answer form for any graph form
pub listing_few : (s t : List ℕ) → length (listing_of s t) ≤ longest_listing
unfolding listing_of
listing_few s t =
    chosen (λ l. length l ≤ longest_listing) (eqb (check_verdict s t).number 0) (cover_listing s t) (refused_line (check_verdict s t).number (check_verdict s t).place)
    (λ e. cover_listing_few s t (eqb-true _ _ e)) (λ e. refused_few (check_verdict s t).number (check_verdict s t).place)

-- the listing of inputs of any length
pub inputs_few : (s t : List ℕ) → length (inputs_listing s t) ≤ longest_listing
unfolding inputs_listing
inputs_few s t =
    let Few : List ℕ → Type 0 = λ l. length l ≤ longest_listing in
    let bad = refused_line (graph_verdict s).number (graph_verdict s).place in
    let long = cond (eqb (graph_verdict s).number 0) (refused_line 11 0) bad in
    chosen Few (ltb longest_input (length s)) (refused_line 1 0) (cond (leb (length t) longest_input) (listing_of s t) long) (λ e. refused_few 1 0)
    (λ e.
    chosen Few (leb (length t) longest_input) (listing_of s t) long (λ e. listing_few s t)
    (λ e. chosen Few (eqb (graph_verdict s).number 0) (refused_line 11 0) bad (λ e. refused_few 11 0) (λ e. refused_few (graph_verdict s).number (graph_verdict s).place)))

-- and so the lent output of a program takes it whole
pub inputs_whole : (s t : List ℕ) {before after : List ℕ} {r : Listed} → length before ≡ longest_listing → Lists before (inputs_listing s t) after r →
    Writes before (inputs_listing s t) after r.written
inputs_whole s t long l = (listed_whole (omega (arith, inputs_few s t)) l).1
