-- `builder::finish::final_price` meets its contract. The loop's invariant: the price so far is the opening prices and the costs at the first a arcs; it never passes the whole price, so nothing wraps. Assumes nothing.
use Rattle.builder.specs.Finish.{arc_worth}
use Rattle.network.specs.Network.{sum_to}
use Rattle.forms.specs.GraphForm.{opening_price}
use Rattle.paths.specs.Slots.{copies_of}
use mathlib.Core.Path.{◌≡◌}
use Prim.Native.Nat.{◌+◌, ◌*◌}
use Rattle.builder.proofs.finish.final_price.Given as goal

abbrev pub invariant-loop-a : goal.invariant-loop-a
invariant-loop-a l = l.price ≡ copies_of l.s l.full * opening_price l.s + sum_to l.a (arc_worth l.s l.full)
