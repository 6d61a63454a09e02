-- `builder::build::build_within` meets its contract: one law of FinishLawsPromise for each way through the call.
use Rattle.std.proofs.lemmas.Result.{err_from_is_err_and}
use Rattle.builder.proofs.FinishLawsPromise.{promise_unread, reads_then, graph_reads, promise_refused, coverable_then, room_then, promise_built}
use Rattle.builder.proofs.build.build_within.Goals as goal

pub returns-in_err-read_graph : goal.returns-in_err-read_graph
returns-in_err-read_graph c =
    let p = err_from_is_err_and c.from_residual.result c.from_residual.ensures.1 in
    rw (p.1, p.2) (promise_unread _ _ _ c.in_err-read_graph.ensures)

pub roles-roles-requires : goal.roles-roles-requires
roles-roles-requires c = reads_then _ c.args.out.now c.in_ok-read_graph.ensures

pub of-reach-requires : goal.of-reach-requires
of-reach-requires c = (reads_then _ c.args.out.now c.in_ok-read_graph.ensures, c.roles-roles.ensures)

pub returns-in_err-first_refusal : goal.returns-in_err-first_refusal
returns-in_err-first_refusal c =
    let p = err_from_is_err_and c.from_residual-in_err-first_refusal.result c.from_residual-in_err-first_refusal.ensures.1 in
    rw (p.1, p.2) (promise_refused _ _ c.in_ok-read_graph.ensures _ c.in_err-first_refusal.ensures)

pub answer-requires : goal.answer-requires
answer-requires c =
    let o = c.args.out.now in let e = c.in_ok-read_graph.ensures in let n = c.in_ok-first_refusal.ensures in
    record {
      reachable = (c.of-reach.ensures, c.roles-roles.ensures, coverable_then _ o e n, graph_reads _ o e);
      s_in_bounds = room_then _ o e n;
    }

pub returns : goal.returns
returns c = promise_built _ _ c.in_ok-read_graph.ensures c.in_ok-first_refusal.ensures c.answer.ensures
