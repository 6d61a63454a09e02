-- `paths::walk` meets its contract. Assumes nothing.
use Rattle.std.proofs.Common.{◌-◌, take}
use Rattle.paths.specs.Peel.{Onward}
use Rattle.paths.proofs.PeelLaws.{Going}
use Rattle.paths.proofs.walk.Given as goal

abbrev pub invariant-loop-u : goal.invariant-loop-u
invariant-loop-u l =
    Going l.network.nodes l.network.edges l.network.from l.network.to l.load (take l.len l.way) l.len l.amount l.u ×
    Onward l.network.nodes l.network.edges l.network.from l.load l.onward

abbrev pub decreases-loop-u : goal.decreases-loop-u
decreases-loop-u l = l.network.nodes - l.len
