-- `reach::first_off`: what is passed lies on a path, so the answer of all is that of those not yet passed.
use Rattle.std.proofs.Common.{ℕ, ◌≡◌, ◌-◌, ◌<◌, Bool}
use Rattle.forms.specs.GraphFaults.{first_fault}
use Rattle.reach.specs.Reached.{off}
use Rattle.reach.proofs.first_off.Given as goal

abbrev pub invariant-loop-i : goal.invariant-loop-i
invariant-loop-i g l = (f : ℕ → Bool) (place : ℕ → ℕ) → ((i : ℕ) (b : Bool) → i < l.count → goal.F-post g l.lies i b → b ≡ f i) →
    first_fault (λ i. off (f i)) place l.count 0 ≡ first_fault (λ i. off (f i)) place (l.count - l.i) l.i
