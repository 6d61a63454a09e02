-- `checker::check::path_at` passes over k records: those left lead to the same record.
use Rattle.std.proofs.Common.{arith, rules}
use Rattle.checker.proofs.CertifyLawsHandOut.{pass_begin, pass_within, pass_turn, pass_end}
use Rattle.checker.proofs.check.path_at.Goals as goal

pub loop-init : goal.loop-init
loop-init c = pass_begin (search rules)

pub path_end-at-requires : goal.path_end-at-requires
path_end-at-requires c = omega (arith, pass_within c.loop.invariant)

pub loop-preserved : goal.loop-preserved
loop-preserved c = pass_turn c.loop.invariant c.path_end-at.ensures (search rules)

pub returns : goal.returns
returns c = pass_end c.loop.invariant (search rules)
