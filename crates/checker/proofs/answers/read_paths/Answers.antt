-- `checker::answers::read_paths` reads one record after another: what is tallied and what the records left add is what all give.
use Rattle.std.proofs.Common.{refl, sym, arith, rules}
use Rattle.forms.proofs.ThenLaws.{number_positive}
use Rattle.checker.proofs.AnswerPaths.{paths_begin, paths_room, paths_stop, paths_remain, paths_end, paths_turn, price_low, head_low}
use Rattle.checker.proofs.answers.read_paths.Goals as goal

pub loop-init : goal.loop-init
loop-init c = paths_begin c.requires.reads.0 c.requires.reads.3 c.requires.nothing_tallied (omega (arith, c.requires.reads.4)) c.first_path_at-at.ensures.value

pub read_path-requires : goal.read_path-requires
read_path-requires c =
    record {
      reads = (c.requires.reads.0, c.requires.reads.1, c.requires.reads.2, search rules, search rules);
      totals_fit = (paths_room c.loop.invariant, search rules);
    }

pub returns-in-Err : goal.returns-in-Err
returns-in-Err c = rw (c.new.ensures.0, c.new.ensures.1) (paths_stop c.loop.invariant (omega arith) c.in-Err.ensures.read.is_fault (number_positive _))

pub overflow_add-tallies-in-loop : goal.overflow_add-tallies-in-loop
overflow_add-tallies-in-loop c =
    let read = c.in-Ok.ensures.read in
    let done = read.tallied refl in
    omega (arith, price_low c.loop.invariant (omega arith) done (sym read.is_fault) c.path_weight-weight.result c.opening_price-opening.result (omega (arith, c.opening_price-opening.ensures.value, c.requires.reads.0.arcs.header.low_opening)), head_low done.head, c.path_weight-weight.ensures.value, c.loop.invariant.within, c.in-Ok.ensures.kept)

pub overflow_add-tallies-in-loop-2 : goal.overflow_add-tallies-in-loop-2
overflow_add-tallies-in-loop-2 c = omega (arith, head_low (c.in-Ok.ensures.read.tallied refl).head, c.path_weight-weight.ensures.value, c.in-Ok.ensures.kept)

pub loop-preserved : goal.loop-preserved
loop-preserved c =
    let read = c.in-Ok.ensures.read in
    paths_turn c.loop.invariant (omega arith) (read.tallied refl) (sym read.is_fault) c.in-Ok.ensures.kept c.path_weight-weight.ensures.value c.opening_price-opening.ensures.value c.requires.reads.0.arcs.header.low_opening
    c.path_vertices_at-from.ensures c.path_end-at.ensures (omega arith)

pub returns-then-at-t : goal.returns-then-at-t
returns-then-at-t c = rw (c.new-then-at-t.ensures.0, c.new-then-at-t.ensures.1) (paths_remain c.loop.invariant (omega arith) (search rules))

pub returns : goal.returns
returns c = paths_end c.loop.invariant (omega arith) (search rules) c.requires.reads.0
