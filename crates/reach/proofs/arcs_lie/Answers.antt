-- `reach::arcs_lie` meets its contract: the closure says of each arc whether it lies on a path.
use Rattle.std.proofs.Common.{◌+◌, rules, refl}
use Rattle.mathematics.specs.Reach.{ask_lies}
use Rattle.forms.specs.GraphForm.{arc_at}
use Rattle.forms.specs.GraphOf.{graph_of}
use Rattle.reach.specs.Reached.{record_ask, lacks}
use Rattle.reach.proofs.arcs_lie.Goals as goal

pub returns : goal.returns
unfolding lacks
returns c = c.first_off.ensures (λ a. ask_lies (graph_of c.args.s.now) (record_ask c.args.s.now (arc_at c.args.s.now a))) (λ a. c.args.n + a) (λ a b l p. search rules) (λ a. refl)
