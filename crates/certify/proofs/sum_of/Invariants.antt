-- `certify::sum_of` sums parts of the bound: with those left, the sum is that of all, and so far it is no more than so many parts come to.
use Rattle.std.proofs.Common.{ℕ, ◌*◌, ◌<◌, ◌≤◌}
use Rattle.certify.specs.Certify.{Part, most_part}
use Rattle.certify.proofs.CertifyLawsBound.{SumLeft}
use Rattle.certify.proofs.sum_of.Given as goal

abbrev pub invariant-loop-i : goal.invariant-loop-i
invariant-loop-i g l = (l.sum ≤ most_part * l.i) × ((f : ℕ → ℕ) → ((i r : ℕ) → i < l.count → goal.F-post g l.part i r → Part (f i) r) → SumLeft f l.count l.i l.sum)
