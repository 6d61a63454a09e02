-- `writing::put_marks` meets its contract: the marks of one vertex stand behind those of the vertices before it.
use Rattle.std.proofs.Common.{arith}
use Rattle.forms.specs.GraphForm.{vertex_count}
use Rattle.forms.specs.AnswerForm.{first_path_at}
use Rattle.forms.proofs.LayoutLaws.{mark_fits, mark_grows, in_mark_inside, out_mark_inside}
use Rattle.writing.proofs.WritingLaws.{placed_none, marks_turn}
use Rattle.writing.proofs.put_marks.Goals as goal

pub loop-v-init : goal.loop-v-init
loop-v-init c = placed_none _ _ (omega (arith, mark_grows c.args.s.now 0 (vertex_count c.args.s.now) (omega arith)))

pub in_mark_at-requires : goal.in_mark_at-requires
in_mark_at-requires c = mark_fits _ _ (omega (arith, c.requires.1.header.vertices_room))

pub put_mark-requires : goal.put_mark-requires
put_mark-requires c = (omega (arith, c.in_mark_at.ensures, in_mark_inside c.args.s.now c.loop-v.v (first_path_at c.args.s.now) (omega arith) (omega arith)), c.requires.1.into_low _ (omega arith))

pub out_mark_at-requires : goal.out_mark_at-requires
out_mark_at-requires c = omega (arith, mark_fits c.args.s.now c.loop-v.v (omega (arith, c.requires.1.header.vertices_room)), out_mark_inside c.args.s.now c.loop-v.v (first_path_at c.args.s.now) (omega arith) (omega arith))

pub put_mark-requires-in-loop-v : goal.put_mark-requires-in-loop-v
put_mark-requires-in-loop-v c = (omega (arith, c.out_mark_at.ensures, out_mark_inside c.args.s.now c.loop-v.v (first_path_at c.args.s.now) (omega arith) (omega arith)), c.requires.1.out_low _ (omega arith))

pub loop-v-preserved : goal.loop-v-preserved
loop-v-preserved c =
    marks_turn c.args.s.now c.args.out.now c.args.marks.now.into c.args.marks.now.outof _ _ _ _ _ _ c.loop-v.invariant c.in_mark_at.ensures
    c.out_mark_at.ensures c.put_mark.ensures c.put_mark-in-loop-v.ensures
