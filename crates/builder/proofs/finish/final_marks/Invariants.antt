-- `builder::finish::final_marks`: the marks of the vertices before v are held.
use Rattle.forms.proofs.Filling.{Filled}
use Rattle.builder.specs.Finish.{held_mark}
use Rattle.mathematics.proofs.Links.{in_node, out_node}
use Rattle.forms.specs.Limits.{room_vertices}
use Rattle.builder.proofs.finish.final_marks.Given as goal

abbrev pub invariant-loop-v : goal.invariant-loop-v
invariant-loop-v l = Filled room_vertices 0 (held_mark l.s in_node l.mark) l.marks.into l.v × Filled room_vertices 0 (held_mark l.s out_node l.mark) l.marks.outof l.v
