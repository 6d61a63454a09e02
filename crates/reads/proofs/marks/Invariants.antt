-- `reads::marks` meets its contract: each row passed has its mark.
use Rattle.std.proofs.Common.{ℕ, ◌<◌, ◌≡◌, false, length, get_or}
use Rattle.reads.specs.ReadTable.{gone, table_rows}
use Rattle.reads.proofs.marks.Given as goal

abbrev pub invariant-loop-i : goal.invariant-loop-i
invariant-loop-i l = record { long : length l.marks ≡ table_rows; marked : (k : ℕ) → k < l.i → get_or l.marks k false ≡ gone l.rows l.lens l.count k }
