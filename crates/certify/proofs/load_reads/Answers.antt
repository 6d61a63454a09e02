-- `certify::load_reads` fills the table: the reads passed are in its first rows, the others are read from the offset on.
use Rattle.std.proofs.Common.{arith, rules}
use Rattle.certify.proofs.CertifyLawsTable.{load_begin, load_next, load_turn, load_end}
use Rattle.forms.proofs.LayoutLaws.{read_length_room}
use Rattle.certify.proofs.load_reads.Goals as goal

pub loop-i-init : goal.loop-i-init
loop-i-init c = load_begin (search rules) (search rules) (search rules) (search rules)

pub row_of-requires : goal.row_of-requires
row_of-requires c =
    let next = load_next c.loop-i.invariant (search rules) in
    omega (arith, next, read_length_room c.args.s.now)

pub loop-i-preserved : goal.loop-i-preserved
loop-i-preserved c = load_turn c.loop-i.invariant _ _ (search rules) c.read_length-len.ensures.value c.read_vertices_at.ensures c.read_end-at.ensures c.row_of.ensures.0 c.row_of.ensures.1

pub returns : goal.returns
returns c = load_end c.loop-i.invariant (search rules)
