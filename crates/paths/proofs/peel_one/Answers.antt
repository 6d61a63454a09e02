-- `paths::peel_one` meets its contract. Assumes nothing.
use Rattle.std.proofs.Common.{arith}
use Rattle.paths.proofs.PeelLaws.{onward_taken}
use Rattle.paths.proofs.PeelLawsOne.{ready_circles, walk_edges, walk_short, amount_low, one_taken}
use Rattle.paths.proofs.peel_one.Goals as goal

pub walk-trip-requires-clause-circles : goal.walk-trip-requires-clause-circles
walk-trip-requires-clause-circles c = ready_circles _ _ _ _ _ _ _ _ _ _ _ _ c.requires.ready c.requires.goes

pub path_of-size-requires-clause-walk : goal.path_of-size-requires-clause-walk
path_of-size-requires-clause-walk c = walk_edges _ _ _ _ _ _ _ _ _ _ _ _ c.requires.ready c.requires.goes _ _ c.walk-trip.ensures.walked

pub path_of-size-requires-clause-room : goal.path_of-size-requires-clause-room
path_of-size-requires-clause-room c = walk_short _ _ _ _ _ _ _ _ _ _ _ _ c.requires.ready c.requires.goes _ _ c.walk-trip.ensures.walked

pub insert-requires-clause-room : goal.insert-requires-clause-room
insert-requires-clause-room c =
    let low = amount_low _ _ _ _ _ _ _ _ _ _ _ _ c.requires.ready c.requires.goes _ _ c.walk-trip.ensures.walked _ c.take_off.ensures in
    (c.requires.room.0, λ k h. omega (arith, c.requires.room.1 k h, low))

pub returns-clause-peeled : goal.returns-clause-peeled
returns-clause-peeled c =
    one_taken _ _ _ _ _ _ _ _ _ _ _ _ c.requires.ready c.requires.goes _ _ c.walk-trip.ensures.walked _ c.take_off.ensures _ _ _ c.path_of-size.ensures.path c.insert.ensures

pub returns-clause-onward_2 : goal.returns-clause-onward_2
returns-clause-onward_2 c = onward_taken _ _ _ _ _ _ _ _ c.take_off.ensures c.walk-trip.ensures.onward_2
