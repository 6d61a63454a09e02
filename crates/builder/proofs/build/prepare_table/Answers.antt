-- `builder::build::prepare_table` meets its contract: the table holds what preparing the reads of the form leaves, and the counts are of those.
use Rattle.builder.proofs.FinishLawsStages.{reads_ready}
use Rattle.builder.proofs.build.prepare_table.Goals as goal

pub returns : goal.returns
returns c = reads_ready _ _ _ _ _ _ _ _ _ c.load_reads-all.ensures c.prepare_reads-count.ensures c.count_reads.ensures
