-- `answer::answer` meets its contract: a law for each way through it.
-- Assumes nothing.
use Rattle.std.proofs.Common.{refl, rules}
use Rattle.forms.proofs.ThenLaws.{number_positive}
use Rattle.listing.proofs.Writing.{written_of}
use Rattle.answer.proofs.Laws.{refuses_long, refuses_built, answers}
use Rattle.answer.proofs.answer.Goals as goal

pub returns-then-graph-gt-LONGEST_INPUT : goal.returns-then-graph-gt-LONGEST_INPUT
returns-then-graph-gt-LONGEST_INPUT c =
    rw (written_of c.list_refusal.result c.unwrap_or-line.ensures) (refuses_long c.if-graph-gt-LONGEST_INPUT.true (search rules) c.number.ensures c.list_refusal.ensures.lists)

pub returns-in-Ok : goal.returns-in-Ok
returns-in-Ok c = answers c.if-graph-gt-LONGEST_INPUT.false (search rules) c.in-Ok.ensures refl

pub returns-in-Err : goal.returns-in-Err
returns-in-Err c =
    rw (written_of c.list_refusal-in-Err.result c.unwrap_or-line-in-Err.ensures)
    (refuses_built c.if-graph-gt-LONGEST_INPUT.false (search rules) c.in-Err.ensures (number_positive c.in-Err.refused.fault) (search rules)
    c.list_refusal-in-Err.ensures.lists c.number-in-Err.ensures refl)
