-- `checker::reader::arc_fault` gives the fault of specs/GraphFaults.
use Rattle.std.proofs.Common.{◌+◌, arith, rules}
use Rattle.checker.proofs.RecordLaws.{arc_place_lem}
use Rattle.checker.proofs.reader.arc_fault.Goals as goal

pub arc_at-requires : goal.arc_at-requires
arc_at-requires c = (search rules, omega (arith, arc_place_lem c.args.s.now (c.args.a + 1) (search rules) (search rules)))
