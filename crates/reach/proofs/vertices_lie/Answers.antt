-- `reach::vertices_lie` meets its contract: the closure says of each vertex whether it lies on a path.
use Rattle.std.proofs.Common.{rules, arith}
use Rattle.mathematics.specs.Reach.{ask_lies}
use Rattle.forms.specs.GraphOf.{graph_of}
use Rattle.reach.specs.Reached.{vertex_ask, lacks}
use Rattle.reach.proofs.vertices_lie.Goals as goal

pub returns : goal.returns
unfolding lacks
returns c = c.first_off.ensures (λ v. ask_lies (graph_of c.args.s.now) (vertex_ask c.args.s.now v)) (λ v. v) (λ v b l p. search rules) (λ v. omega arith)
