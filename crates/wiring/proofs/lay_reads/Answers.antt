use Rattle.std.proofs.Common.{◌≡◌, ◌+◌, ◌*◌, refl, sym, ap, ◌∙◌, length, arith}
use Rattle.reads.proofs.TableRows.{table_length}
use Rattle.paths.specs.Slots.{all_slots, prepared_of}
use Rattle.wiring.proofs.LayLaws.{counted, edges_at, lay_read, read_some}
use Rattle.wiring.proofs.lay_reads.Goals as goal

pub overflow_sub-lens : goal.overflow_sub-lens
overflow_sub-lens c = (read_some c.requires.reads.1 c.loop-i-test.true).0

pub loop-i-preserved : goal.loop-i-preserved
loop-i-preserved c =
    let p = c.requires in
    let plain = 3 * c.vertex_count.result + c.arc_count.result in
    let e : plain + c.loop-i.i + 1 ≡ plain + (c.loop-i.i + 1) = omega arith in
    edges_at
    (lay_read (counted p.reads.0 c.vertex_count.ensures.value c.arc_count.ensures.value) c.loop-i.invariant p.reads.1 refl c.loop-i-test.true
    c.from-first.ensures c.from-last.ensures c.store_edge.ensures) e

pub returns : goal.returns
returns c =
    let p = c.requires.reads.1 in
    let s = c.args.s.now in
    let long : length (prepared_of s) ≡ c.args.count = ap length (sym p.reads) ∙ table_length _ _ _ p.table in
    let e : 3 * c.vertex_count.result + c.arc_count.result + c.loop-i.i ≡ all_slots s = omega (arith, c.vertex_count.ensures.value, c.arc_count.ensures.value) in
    edges_at c.loop-i.invariant e
