-- `builder::build::answer` meets its contract: marks, price and paths come from one flow, and their answer form is accepted.
use Rattle.builder.proofs.FinishLawsEnd.{priced, writable, paths_fit, answered}
use Rattle.reads.proofs.TableRows.{blank_table}
use Rattle.builder.proofs.FinishLawsStages.{blank_counts, all_base, zeros}
use Rattle.network.specs.Network.{most_edges}
use Rattle.builder.proofs.build.answer.Goals as goal

pub prepare_table-count-requires : goal.prepare_table-count-requires
prepare_table-count-requires c = (c.requires.reachable.0.reads, blank_table, blank_counts _)

pub find_flow-requires : goal.find_flow-requires
find_flow-requires c =
    record {
      layable = (record { reads = c.requires.reachable.0.reads; coverable = c.requires.reachable.2; marked = c.keep_useful-kept.ensures }, c.requires.reachable.1);
      reads_ready = c.prepare_table-count.ensures;
      nothing_moved = (zeros most_edges, all_base);
    }

pub final_price-price-requires : goal.final_price-price-requires
final_price-price-requires c = priced _ c.requires.reachable.0.reads _ _ _ _ c.find_flow.ensures.flowed _ c.prepare_table-count.ensures.arcs

pub take_paths-requires : goal.take_paths-requires
take_paths-requires c =
    record {
      reads = (c.requires.reachable.0.reads, c.requires.reachable.2, c.prepare_table-count.ensures.table, c.find_flow.ensures.flowed.loaded);
      in_use = c.find_flow.ensures.in_use;
    }

pub write_answer-requires : goal.write_answer-requires
write_answer-requires c =
    record {
      s_in_bounds = c.requires.s_in_bounds;
      writable = writable _ c.requires.reachable.0.reads _ _ _ _ c.find_flow.ensures.flowed _ _ c.final_marks.ensures;
      paths_fit = paths_fit _ c.requires.reachable.0.reads _ _ c.take_paths.ensures.table c.take_paths.ensures.peeled c.find_flow.ensures.flowed.loaded.few;
    }

pub returns : goal.returns
returns c = answered _ _ _ _ _ _ _ _ _ _ _ _ c.requires.reachable.3 c.find_flow.ensures.flowed c.take_paths.ensures.peeled c.final_marks.ensures c.final_price-price.ensures c.write_answer.ensures.placed c.write_answer.ensures.value
