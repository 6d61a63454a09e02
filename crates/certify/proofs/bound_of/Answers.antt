-- `certify::bound_of` sums the parts of vertices and arcs, with the prepared reads counted, which is the bound.
use Rattle.reads.proofs.TableRows.{blank_table}
use Rattle.certify.proofs.CertifyLawsCount.{counts_none}
use Rattle.certify.proofs.CertifyLawsTotal.{sums_are_bound}
use Rattle.certify.proofs.bound_of.Goals as goal

pub load_reads-loaded-requires : goal.load_reads-loaded-requires
load_reads-loaded-requires c = (c.requires.0, blank_table)

pub count_reads-requires : goal.count_reads-requires
count_reads-requires c = (c.requires.1, c.prepare_reads-count.ensures.table, counts_none)

pub returns : goal.returns
returns c = sums_are_bound _ _ c.requires.0 c.requires.3 c.load_reads-loaded.ensures.reads c.prepare_reads-count.ensures.reads c.count_reads.ensures c.vertices_sum.ensures c.arcs_sum.ensures
