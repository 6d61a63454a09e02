-- `writing::write_answer` meets its contract: all but the length is put from byte 4 on, piece behind piece, and the length in front of it.
use Rattle.std.proofs.Common.{◌<◌, ◌∙◌, arith, length-set}
use Rattle.forms.specs.AnswerForm.{answer_version_at}
use Rattle.forms.proofs.LayoutLaws.{paths_room, longest_answer_is}
use Rattle.network.specs.Network.{nth}
use Rattle.writing.specs.Writing.{held_marks}
use Rattle.writing.proofs.WritingLaws.{answer_inside, answer_room, be_bytes16, be_bytes32, be_bytes64, placed_same, collected_length, answer_placed}
use Rattle.writing.proofs.write_answer.Goals as goal

pub bounds-out-4 : goal.bounds-out-4
bounds-out-4 c = omega (arith, answer_inside _ _ _ c.requires.paths_fit c.requires.s_in_bounds)

pub overflow_cast-paths : goal.overflow_cast-paths
overflow_cast-paths c = omega (arith, c.requires.paths_fit.few, paths_room c.args.s.now)

pub put-requires : goal.put-requires
put-requires c = simp (length-set, c.to_be_bytes.ensures) (omega (arith, answer_inside _ _ _ c.requires.paths_fit c.requires.s_in_bounds))

pub put-requires-2 : goal.put-requires-2
put-requires-2 c =
    rw c.to_be_bytes-2.ensures
    (omega (arith, c.put.auto.out, length-set c.args.out.now answer_version_at c.answer_version_of.result, answer_inside _ _ _ c.requires.paths_fit c.requires.s_in_bounds))

pub put_marks-requires : goal.put_marks-requires
put_marks-requires c = (omega (arith, c.put.auto.out, c.put-2.auto.out, length-set c.args.out.now answer_version_at c.answer_version_of.result, answer_inside _ _ _ c.requires.paths_fit c.requires.s_in_bounds), c.requires.writable)

pub put_paths-end-requires : goal.put_paths-end-requires
put_paths-end-requires c = (omega (arith, c.put.auto.out, c.put-2.auto.out, c.put_marks.auto.out, length-set c.args.out.now answer_version_at c.answer_version_of.result, answer_inside _ _ _ c.requires.paths_fit c.requires.s_in_bounds), c.requires.paths_fit)

pub overflow_cast-end : goal.overflow_cast-end
overflow_cast-end c = omega (arith, c.put_paths-end.ensures.value.1, answer_room c.args.s.now c.args.paths.now.count c.requires.paths_fit.header c.requires.paths_fit.few, longest_answer_is c.args.s.now)

pub returns : goal.returns
returns c =
    let fit = c.requires.paths_fit in
    let low : c.put_paths-end.result < 4_294_967_296 =
    omega (arith, c.put_paths-end.ensures.value.1, answer_room c.args.s.now c.args.paths.now.count fit.header fit.few, longest_answer_is c.args.s.now) in
    let count = placed_same _ _ _ c.put.ensures (c.to_be_bytes.ensures ∙ be_bytes16 _ (omega (arith, c.requires.paths_fit.few, paths_room c.args.s.now))) in
    let price = placed_same _ _ _ c.put-2.ensures (c.to_be_bytes-2.ensures ∙ be_bytes64 _ (omega arith)) in
    let end = placed_same _ _ _ c.put-3.ensures (c.to_be_bytes-3.ensures ∙ be_bytes32 _ low) in
    let both = answer_placed _ _ _ _ _ _ _ _ (held_marks (nth c.args.marks.now.into) (nth c.args.marks.now.outof)) _ _ _ _
    (omega (arith, answer_inside _ _ _ c.requires.paths_fit c.requires.s_in_bounds)) c.answer_version_of.ensures.value (collected_length _)
    count price c.put_marks.ensures c.put_paths-end.ensures.placed c.put_paths-end.ensures.value.0 end in
    record {
      placed = both.0;
      value = both.1;
    }
