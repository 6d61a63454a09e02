-- `builder_vectors::print_built` is safe: the bytes that the builder says it wrote are within what was lent. Assumes nothing.
use Rattle.std.proofs.Common.{ℕ, ◌≤◌, ◌≡◌, sym, List, Result, Ok, Err, length-take-le, rules, arith}
use Rattle.std.specs.Result.{result_unwrap_or}
use Rattle.forms.specs.declared.refusals.Refused.{Refused}
use Rattle.forms.specs.AnswerForm.{answer_header_length}
use Rattle.forms.specs.Refusals.{value_of}
use Rattle.forms.proofs.LayoutLaws.{parts_few}
use Rattle.builder_vectors.proofs.print_built.Goals as goal

-- an output of so many bytes has room for a price of either kind
price_inside : (s : List ℕ) {n : ℕ} → 23 ≤ n → answer_header_length s ≤ n
price_inside s h = omega (arith, parts_few s)

counted : (r : Result ℕ Refused) {n : ℕ} → n ≡ result_unwrap_or r 0 → n ≡ value_of r
counted (Ok m) e = e
counted (Err w) e = e

pub slice_bounds-check-end : goal.slice_bounds-check-end
slice_bounds-check-end c =
    let p = c.build_within-built.ensures in
    sym (length-take-le _ _ (omega (arith, counted c.build_within-built.result c.unwrap_or-written.ensures, p.fits, p.same_length)))

pub stated_price-requires : goal.stated_price-requires
stated_price-requires c = price_inside _ (search rules)
