-- `paths::path_of` meets its contract. Assumes nothing.
use Rattle.std.proofs.Common.{◌<◌, arith}
use Rattle.mathematics.proofs.Basics.{at_all}
use Rattle.paths.specs.Slots.{all_slots, link_at}
use Rattle.paths.proofs.PeelLawsPath.{write_room, write_turn}
use Rattle.paths.proofs.path_of.Goals as goal

pub put_link-r-requires-clause-room : goal.put_link-r-requires-clause-room
put_link-r-requires-clause-room c =
    let l = c.loop-e in (
      at_all (λ e. e < all_slots c.args.s.now) 0 _ c.requires.walk l.e-index (omega arith),
      write_room (link_at c.args.s.now) c.args.way.now l.e-index (omega arith) c.requires.room _ _ l.invariant,
    )

pub loop-e-preserved : goal.loop-e-preserved
loop-e-preserved c = write_turn (link_at c.args.s.now) c.args.way.now c.loop-e.e-index (omega arith) _ _ _ _ c.loop-e.invariant c.put_link-r.ensures
