-- `checker::reader::reads_verdict` meets its contract: the answer of all reads is that of those not yet passed.
use Rattle.std.proofs.Common.{◌≡◌, ◌+◌, ◌-◌, ◌<◌}
use Rattle.forms.specs.GraphFaults.{reads_verdict}
use Rattle.checker.proofs.reader.reads_verdict.Given as goal

abbrev pub invariant-loop : goal.invariant-loop
invariant-loop l = (l.at + 2 < 18446744073709551616) × (reads_verdict l.s l.count l.from ≡ reads_verdict l.s (l.count - l.counter) l.at)
