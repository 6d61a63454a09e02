-- `listing::put_cover` meets its contract: first line, lines of the paths and last line are stored one behind the other.
-- Assumes nothing.
use native.Mathlib.Omega.{arith}
use mathlib.Core.List.{◌++◌}
use borrow.Author.Rules.{rules}
use Rattle.forms.specs.AnswerForm.{path_count}
use Rattle.text.proofs.Storing.{Still, still_next, still_room, still_fits, still_last}
use Rattle.listing.specs.Lines.{cover_word, pair_line, bound_line}
use Rattle.listing.specs.Listing.{path_lines, cover_listing}
use Rattle.listing.proofs.Accepted.{answer_long, listing_begins, bound_next}
use Rattle.listing.proofs.put_cover.Goals as goal
use Rattle.listing.proofs.put_cover.Goals.{After-put_pair_line-first}

-- what is still to store behind the first line
after-first : (c : After-put_pair_line-first) →
    Still c.args.out.now 0 (cover_listing c.args.graph.now c.args.answer.now) c.put_pair_line-first.new.out c.put_pair_line-first.result
    (path_lines c.args.graph.now c.args.answer.now (path_count c.args.answer.now) 0 ++ bound_line c.stated_price-price.result)
after-first c =
    still_next c.put_pair_line-first.ensures
    (listing_begins _ _ _ _ _ c.requires.answer_value c.requires.text_fits c.path_count-count.ensures.value c.stated_price-price.ensures)

pub path_count-count-requires : goal.path_count-count-requires
path_count-count-requires c = omega (arith, answer_long _ _ c.requires.answer_value)

pub stated_price-price-requires : goal.stated_price-price-requires
stated_price-price-requires c = omega (arith, answer_long _ _ c.requires.answer_value)

pub put_pair_line-first-requires : goal.put_pair_line-first-requires
put_pair_line-first-requires c =
    still_room (pair_line cover_word c.path_count-count.result c.stated_price-price.result) _
    (listing_begins _ _ _ _ _ c.requires.answer_value c.requires.text_fits c.path_count-count.ensures.value c.stated_price-price.ensures)

pub put_paths-last-requires : goal.put_paths-last-requires
put_paths-last-requires c =
    record {
      answer_value = c.requires.answer_value;
      text_fits = still_room (path_lines c.args.graph.now c.args.answer.now (path_count c.args.answer.now) 0) _
          (after-first ((goal.at.put_paths-last-requires c).After-put_pair_line-first));
    }

pub put_bound_line-requires : goal.put_bound_line-requires
put_bound_line-requires c =
    still_fits
    (bound_next (search rules) (still_next c.put_paths-last.ensures (after-first ((goal.at.put_bound_line-requires c).After-put_pair_line-first))))

pub returns : goal.returns
returns c =
    still_last c.put_bound_line.ensures
    (bound_next (search rules) (still_next c.put_paths-last.ensures (after-first ((goal.at.returns c).After-put_pair_line-first))))
