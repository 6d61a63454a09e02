-- `reads::longer_of` meets its contract: an overlap that cannot beat the best is not worked out.
use Rattle.std.proofs.Common.{arith, rules}
use Rattle.reads.proofs.OverlapLaws.{meets_short, meets_under}
use Rattle.reads.proofs.LongestLaws.{next_same, next_longer, next_kept}
use Rattle.reads.proofs.longer_of.Goals as goal
use Rattle.reads.proofs.longer_of.Goals.{then-a-floor-via-then-a-floor, then-a-floor-via-else-a-floor+then-a-floor-2}

pub returns-then-i-j : goal.returns-then-i-j
returns-then-i-j c = next_same _ _ _ _ _ c.if-i-j.true

pub returns-then-a-floor : goal.returns-then-a-floor
returns-then-a-floor c =
    elim c.then-a-floor.branch [
      | then-a-floor-via-then-a-floor w ↦
          next_kept _ _ _ _ _ c.if-i-j.false _ _ c.read_of-a.ensures.value c.read_of-b.ensures.value
          (meets_short _ _ c.read_of-a.ensures.read c.read_of-b.ensures.read _ (search rules))
      | then-a-floor-via-else-a-floor+then-a-floor-2 w ↦
          next_kept _ _ _ _ _ c.if-i-j.false _ _ c.read_of-a.ensures.value c.read_of-b.ensures.value
          (meets_under _ _ c.read_of-a.ensures.read c.read_of-b.ensures.read _ (omega (arith, c.shared_by-floor.ensures)) (rw (← c.shared_by-floor.ensures) w.if-a-floor-2.true))
    ]

pub returns-then-floor-shared : goal.returns-then-floor-shared
returns-then-floor-shared c =
    next_longer _ _ _ _ _ c.if-i-j.false _ _ c.read_of-a.ensures.value c.read_of-b.ensures.value _ c.overlap-shared.ensures (omega (arith, c.shared_by-floor.ensures))

pub returns : goal.returns
returns c =
    next_kept _ _ _ _ _ c.if-i-j.false _ _ c.read_of-a.ensures.value c.read_of-b.ensures.value
    (omega (arith, c.shared_by-floor.ensures, c.overlap-shared.ensures))
