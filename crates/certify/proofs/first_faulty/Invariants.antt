-- `certify::first_faulty`: what is passed is not at fault, so the answer of all is that of those not yet passed.
use Rattle.std.proofs.Common.{ℕ, ◌≡◌, ◌-◌, ◌<◌}
use Rattle.forms.specs.GraphFaults.{first_fault}
use Rattle.forms.specs.Refusals.{fault_of}
use Rattle.certify.proofs.first_faulty.Given as goal

abbrev pub invariant-loop-i : goal.invariant-loop-i
invariant-loop-i g l = (fault place : ℕ → ℕ) → ((i : ℕ) (r : _) → i < l.count → goal.F-post g l.judge i r → fault_of r ≡ fault i) →
    first_fault fault place l.count 0 ≡ first_fault fault place (l.count - l.i) l.i
