-- `checker::check::path_at` passes over k records: those left lead to the same record.
use Rattle.checker.proofs.CertifyLawsHandOut.{Passing}
use Rattle.checker.proofs.check.path_at.Given as goal

abbrev pub invariant-loop : goal.invariant-loop
invariant-loop l = Passing l.s l.t l.k l.from l.at l.counter
