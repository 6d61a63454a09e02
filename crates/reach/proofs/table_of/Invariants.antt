-- `reach::table_of`: up to v the table holds what `says` says.
use Rattle.std.proofs.Common.{ℕ, ◌≡◌, ◌<◌, false, get_or, length}
use Rattle.forms.specs.Limits.{room_vertices}
use Rattle.reach.proofs.table_of.Given as goal

abbrev pub invariant-loop-v : goal.invariant-loop-v
invariant-loop-v g l = (length l.table ≡ room_vertices) × ((k : ℕ) → k < l.v → goal.F-post g l.says k (get_or l.table k false))
