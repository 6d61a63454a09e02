use Rattle.wiring.specs.Lay.{Netted}
use Rattle.wiring.proofs.net.Given as goal

abbrev pub invariant-loop-u : goal.invariant-loop-u
invariant-loop-u l = Netted l.u l.initial.balance.surplus l.initial.balance.deficit l.balance.surplus l.balance.deficit
