-- `listing::list_inputs` meets its contract: inputs that are too long are refused, and others are listed.
-- Assumes nothing.
use Rattle.std.proofs.Common.{arith}
use Rattle.listing.proofs.Writing.{lists_as, inputs_long_graph, inputs_short, inputs_bad_graph, inputs_long_answer}
use Rattle.listing.proofs.list_inputs.Goals as goal

pub returns-then-is_too_long : goal.returns-then-is_too_long
returns-then-is_too_long c = lists_as (inputs_long_graph _ _ (omega arith) c.new.ensures) c.list_refused.ensures

pub returns-then-answer-le-LONGEST_INPUT : goal.returns-then-answer-le-LONGEST_INPUT
returns-then-answer-le-LONGEST_INPUT c = lists_as (inputs_short _ _ (omega arith) (omega arith)) c.list_cover.ensures

pub returns-in-Ok : goal.returns-in-Ok
returns-in-Ok c =
    lists_as (inputs_long_answer _ _ (omega arith) (omega arith) c.in-Ok.ensures c.new-in-Ok.ensures)
    c.list_refused-in-Ok.ensures

pub returns-in-Err : goal.returns-in-Err
returns-in-Err c = lists_as (inputs_bad_graph _ _ (omega arith) (omega arith) _ c.in-Err.ensures) c.list_refused-in-Err.ensures
