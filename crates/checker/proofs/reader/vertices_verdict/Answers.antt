-- `checker::reader::vertices_verdict` meets its contract: the answer of all records is that of those not yet passed.
use Rattle.std.proofs.Common.{refl, rules}
use Rattle.forms.proofs.LayoutLaws.{vertex_fits}
use Rattle.forms.proofs.Scan.{scan_turns, scan_ends}
use Rattle.forms.proofs.ThenLaws.{refused_at}
use Rattle.checker.proofs.reader.vertices_verdict.Goals as goal

pub vertex_at-requires : goal.vertex_at-requires
vertex_at-requires c = vertex_fits _ _ (search rules)

pub returns-in-Err : goal.returns-in-Err
returns-in-Err c = refused_at _ _ _ _ c.new.ensures c.loop-v.invariant c.loop-v-test.true c.in-Err.ensures c.vertex_at.ensures

pub loop-v-preserved : goal.loop-v-preserved
loop-v-preserved c = scan_turns _ _ _ _ _ c.loop-v.invariant c.loop-v-test.true c.in_default.ensures refl

pub returns : goal.returns
returns c = scan_ends _ _ _ c.loop-v.v c.loop-v.invariant (search rules)
