-- What `assemble` prints where nothing is refused: the paths of a cover of lowest price, that price, and the bound that shows it.
use Prim.Native.Nat.{ℕ}
use mathlib.Core.Path.{◌≡◌, ap, ◌∙◌}
use mathlib.Core.List.{List, ◌++◌}
use lib.ListN.{length, take}
use lib.IntN.{nat_abs}
use borrow.Author.Tests.{eq-eqb}
use Rattle.mathematics.specs.Price.{whole}
use Rattle.mathematics.specs.Cover.{Weighted, IsLowest, price}
use Rattle.forms.specs.declared.Verdict.{Verdict}
use Rattle.forms.specs.GraphOf.{graph_of}
use Rattle.text.specs.Text.{Writes}
use Rattle.text.proofs.Writing.{written_is_text}
use Rattle.listing.specs.Lines.{cover_line, bound_line}
use Rattle.listing.specs.Listing.{cover_lines, listing_of, input_verdict}
use Rattle.listing.proofs.Lowest.{listed_is_lowest}
use Rattle.assemble.specs.Assemble.{assembled_listing, Assembled, ListsAccepted}

-- where nothing is refused, the listing of an accepted answer is written
pub lists_accepted : {s before after : List ℕ} {r : ℕ} → (input_verdict s).number ≡ 0 → Assembled s before after r → ListsAccepted s (take r after)
unfolding assembled_listing
lists_accepted {s} {before} {after} {r} z h =
    let w : Writes before (listing_of s h.answer) after r = simp (eq-eqb _ _ z) at h.writes in
    record { answer = h.answer; accepted = h.accepted z; listed = written_is_text w }

pub assembled_is_lowest : {s before after : List ℕ} {r : ℕ} → (input_verdict s).number ≡ 0 → Assembled s before after r →
    (W : List Weighted) × IsLowest whole (graph_of s) W ×
    (take r after ≡ cover_line (length W) (nat_abs (price whole (graph_of s) W)) ++ (cover_lines W ++ bound_line (nat_abs (price whole (graph_of s) W))))
assembled_is_lowest {s} z h =
    let l = lists_accepted z h in
    let listed = listed_is_lowest s l.answer (ap (λ (v : Verdict). v.number) l.accepted) in
    (listed.0, listed.1, l.listed ∙ listed.2)
