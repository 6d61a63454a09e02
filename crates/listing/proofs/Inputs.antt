-- What a program that builds answers for graph bytes of any length, from what the builder answers.
use Prim.Native.Nat.{ℕ, ◌≤◌, ◌<◌}
use mathlib.Core.Path.{◌≡◌, ap, ◌∙◌}
use mathlib.Core.List.{List}
use lib.ListN.{length}
use borrow.Author.Tests.{lt-ltb, le-ltb}
use Rattle.forms.specs.declared.Verdict.{Verdict}
use Rattle.forms.specs.BuildFaults.{room_asked, build_verdict}
use Rattle.forms.specs.GraphFaults.{refusal}
use Rattle.forms.proofs.LayoutLaws.{longest_answer_is}
use Rattle.listing.specs.Listing.{longest_input, answer_lent, input_verdict}

-- what a program lends for an answer is what the builder asks for, so it never gives 9 there
pub lent_is_asked : (s : List ℕ) → answer_lent ≡ room_asked s
lent_is_asked s = longest_answer_is s

pub input_too_long : (s : List ℕ) → longest_input < length s → refusal 1 0 ≡ input_verdict s
unfolding input_verdict
input_too_long s h = simp (lt-ltb _ _ h)

pub input_built : (s : List ℕ) {room : ℕ} {v : Verdict} → length s ≤ longest_input → room ≡ answer_lent → v ≡ build_verdict s room → v ≡ input_verdict s
unfolding input_verdict
input_built s short asked e = simp (le-ltb _ _ short) (e ∙ ap (build_verdict s) asked)
