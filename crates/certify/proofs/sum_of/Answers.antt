-- `certify::sum_of` sums parts of the bound: with those left, the sum is that of all, and so far it is no more than so many parts come to.
use Rattle.std.proofs.Common.{arith}
use Rattle.certify.proofs.CertifyLawsBound.{sum_begin, sum_turn, sum_end}
use Rattle.certify.proofs.sum_of.Goals as goal

pub loop-i-init : goal.loop-i-init
loop-i-init g c = (omega arith, λ f h. sum_begin _ _)

pub overflow_add-sum : goal.overflow_add-sum
overflow_add-sum g c = omega (arith, c.loop-i.invariant.0, c.requires.low _ _ c.loop-i-test.true c.part-sum.ensures)

pub loop-i-preserved : goal.loop-i-preserved
loop-i-preserved g c = (omega (arith, c.loop-i.invariant.0, c.requires.low _ _ c.loop-i-test.true c.part-sum.ensures), λ f h. sum_turn _ _ _ _ _ (c.loop-i.invariant.1 f h) (omega arith) (h _ _ (omega arith) c.part-sum.ensures))

pub returns : goal.returns
returns g c f most h few = sum_end _ _ c.loop-i.i _ _ (c.loop-i.invariant.1 f h) (omega arith) few
