-- `certify::vertices_sum` meets its contract: the closure gives each vertex's part.
use Rattle.std.proofs.Common.{arith, rules, get_or}
use Rattle.forms.specs.Limits.{room_vertices}
use Rattle.certify.specs.Certify.{vertex_part}
use Rattle.certify.proofs.vertices_sum.Goals as goal

pub returns : goal.returns
returns c =
    let n = c.vertex_count.ensures.value in
    rw (← n)
    (c.sum_of.ensures (λ v. vertex_part c.args.s.now c.args.t.now v (get_or c.args.reads.now v 0)) room_vertices (λ v r l p. search rules) (omega (arith, n, c.requires.reads.0.arcs.header.vertices_room)))
