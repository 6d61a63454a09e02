-- `paths::peel_all` meets its contract. Assumes nothing.
use Rattle.std.proofs.Common.{◌<◌, subst, sym, refl, arith}
use Rattle.paths.proofs.PeelLaws.{look_first}
use Rattle.paths.proofs.PeelLawsLinks.{slots_few}
use Rattle.paths.proofs.PeelLawsAll.{peel_step, loaded_less, peel_end, between_start, step_room}
use Rattle.paths.proofs.peel_all.Goals as goal

pub loop-first-init : goal.loop-first-init
loop-first-init c = (
  between_start _ _ _ _ _ refl (omega arith) (omega arith) c.requires.goes c.requires.carries,
  λ u b. look_first _ _ _ _ _ _ u c.requires.ready.chained b,
)

pub peel_one-requires-clause-room : goal.peel_one-requires-clause-room
peel_one-requires-clause-room c =
    let edge = c.in-Some.ensures.next.some c.in-Some.first refl in
    step_room _ _ _ _ _ _ _ (slots_few _ c.requires.ready.reads) c.requires.low c.loop-first.invariant.0.peeling
    (omega (arith, edge.0, c.requires.ready.edges_right)) edge.2

pub loop-first-smaller : goal.loop-first-smaller
loop-first-smaller c = loaded_less _ c.requires.ready.reads _ _ _ _ _ c.loop-first.invariant.0.peeling _ _ c.peel_one.ensures.peeled

pub loop-first-preserved : goal.loop-first-preserved
loop-first-preserved c = (
  record {
    peeling = peel_step _ c.requires.ready.reads _ _ _ _ _ c.loop-first.invariant.0.peeling _ _ c.peel_one.ensures.peeled;
    table = c.peel_one.ensures.peeled.kept.table;
  },
  c.peel_one.ensures.onward_2,
)

pub returns-clause-peeled : goal.returns-clause-peeled
returns-clause-peeled c =
    let i = c.loop-first.invariant.0 in
    peel_end _ c.requires.ready.reads _ _ _ _ _ i.table i.peeling
    (λ e l f. c.in_default.ensures.next.none refl e (subst (λ k. e < k) (sym c.requires.ready.edges_right) l) f)
