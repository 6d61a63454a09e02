-- `builder::finish::final_price` meets its contract. The loop's invariant: the price so far is the opening prices and the costs at the first a arcs; it never passes the whole price, so nothing wraps.
use Rattle.builder.proofs.FinishLaws.{price_done, copies_asked, first_price, first_fits, total_fits, next_price, next_fits}
use Rattle.std.proofs.Common.{arith, rules}
use Rattle.builder.proofs.finish.final_price.Goals as goal

pub copies-requires : goal.copies-requires
copies-requires c = copies_asked _ _ _ c.requires _ _ c.vertex_count-n.ensures.value c.arc_count-m.ensures.value (search rules)

pub opening_price-requires : goal.opening_price-requires
opening_price-requires c = c.requires.reads.arcs.header.long

pub overflow_mul-price : goal.overflow_mul-price
overflow_mul-price c = omega (arith, first_fits _ _ _ c.requires _ _ c.vertex_count-n.ensures.value c.arc_count-m.ensures.value (search rules) _ _ c.copies.ensures c.opening_price.ensures.value)

pub loop-a-init : goal.loop-a-init
loop-a-init c = first_price _ _ _ c.requires _ _ c.vertex_count-n.ensures.value c.arc_count-m.ensures.value (search rules) _ _ c.copies.ensures c.opening_price.ensures.value

pub overflow_add-total-in-loop-a-2 : goal.overflow_add-total-in-loop-a-2
overflow_add-total-in-loop-a-2 c = omega (arith, total_fits _ _ _ c.requires _ _ c.vertex_count-n.ensures.value c.arc_count-m.ensures.value _ c.loop-a-test.true)

pub arc_cost-requires : goal.arc_cost-requires
arc_cost-requires c = (c.first_arc_at-first.ensures.value, (c.requires.reads.arcs.each c.loop-a.a (omega arith)).whole)

pub overflow_mul-price-in-loop-a : goal.overflow_mul-price-in-loop-a
overflow_mul-price-in-loop-a c = omega (arith, next_fits _ _ _ c.requires _ _ c.vertex_count-n.ensures.value c.arc_count-m.ensures.value _ c.loop-a-test.true _ c.arc_cost.ensures.value _ c.loop-a.invariant)

pub overflow_add-price : goal.overflow_add-price
overflow_add-price c = omega (arith, next_fits _ _ _ c.requires _ _ c.vertex_count-n.ensures.value c.arc_count-m.ensures.value _ c.loop-a-test.true _ c.arc_cost.ensures.value _ c.loop-a.invariant)

pub loop-a-preserved : goal.loop-a-preserved
loop-a-preserved c = next_price _ _ _ c.requires _ _ c.vertex_count-n.ensures.value c.arc_count-m.ensures.value _ c.loop-a-test.true _ c.arc_cost.ensures.value _ c.loop-a.invariant

pub returns : goal.returns
returns c = price_done _ _ _ c.requires _ _ c.vertex_count-n.ensures.value c.arc_count-m.ensures.value _ _ (omega arith) (omega arith) c.loop-a.invariant
