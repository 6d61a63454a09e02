-- `builder::finish::final_marks`: the marks of the vertices before v are held.
use Rattle.std.proofs.Common.{◌<◌, rules, arith}
use Rattle.builder.proofs.FinishLaws.{held_is}
use Rattle.forms.proofs.Filling.{fill_none, fill_more}
use Rattle.forms.specs.GraphForm.{vertex_count}
use Rattle.mathematics.proofs.Links.{in_node, out_node}
use Rattle.builder.proofs.finish.final_marks.Goals as goal

pub loop-v-init : goal.loop-v-init
loop-v-init c = (fill_none (search rules), fill_none (search rules))

pub loop-v-preserved : goal.loop-v-preserved
loop-v-preserved c = let I = c.loop-v.invariant in let P = c.requires in let t : c.loop-v.v < vertex_count c.args.s.now = omega arith in (fill_more I.0 (omega (arith, P.reads.arcs.header.vertices_room)) (held_is _ _ in_node _ _ _ _ (P.starts.says _ t) (P.ends.says _ t) c.side_mark.ensures), fill_more I.1 (omega (arith, P.reads.arcs.header.vertices_room)) (held_is _ _ out_node _ _ _ _ (P.starts.says _ t) (P.ends.says _ t) c.side_mark-in-loop-v.ensures))

pub returns : goal.returns
returns c = let I = c.loop-v.invariant in record { into_held = λ v h. I.0.each v (omega arith); out_held = λ v h. I.1.each v (omega arith) }
