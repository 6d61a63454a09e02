-- `listing::cover_length` meets its contract: first line, lines of the paths and last line together.
-- Assumes nothing.
use native.Mathlib.Omega.{arith}
use Rattle.listing.proofs.Accepted.{answer_long, listing_counted}
use Rattle.listing.proofs.cover_length.Goals as goal

pub path_count-count-requires : goal.path_count-count-requires
path_count-count-requires c = omega (arith, answer_long _ _ c.requires)

pub stated_price-price-requires : goal.stated_price-price-requires
stated_price-price-requires c = omega (arith, answer_long _ _ c.requires)

pub overflow_add-result : goal.overflow_add-result
overflow_add-result c = omega arith

pub overflow_add-result-2 : goal.overflow_add-result-2
overflow_add-result-2 c = omega arith

pub returns : goal.returns
returns c =
    let count = c.path_count-count in
    let price = c.stated_price-price in
    omega (arith, listing_counted c.args.graph.now c.args.answer.now count.result price.result c.requires count.ensures.value price.ensures)
