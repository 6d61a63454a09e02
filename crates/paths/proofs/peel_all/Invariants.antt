-- `paths::peel_all` meets its contract. Assumes nothing.
use Rattle.paths.specs.Slots.{all_slots}
use Rattle.paths.specs.Peel.{loaded_in, Onward}
use Rattle.paths.proofs.PeelLawsAll.{Between}
use Rattle.paths.proofs.peel_all.Given as goal

abbrev pub invariant-loop-first : goal.invariant-loop-first
invariant-loop-first l =
    Between l.s l.network.from l.network.to l.initial.load l.load l.paths × Onward l.network.nodes l.network.edges l.network.from l.load l.onward

abbrev pub decreases-loop-first : goal.decreases-loop-first
decreases-loop-first l = loaded_in (all_slots l.s) l.load
