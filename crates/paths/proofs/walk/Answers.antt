-- `paths::walk` meets its contract. Assumes nothing.
use Rattle.std.proofs.Common.{◌+◌, refl, subst, arith}
use Rattle.paths.specs.Peel.{plus_one, NextLoaded}
use Rattle.paths.proofs.PeelLaws.{way_on, going_start, going_turn}
use Rattle.paths.proofs.walk.Goals as goal
use Rattle.paths.proofs.walk.Goals.{After-unwrap-e}

pub offset_bounds-load-first : goal.offset_bounds-load-first
offset_bounds-load-first c = omega (arith, (c.requires.begins.some c.args.first refl).0, c.requires.sizes.1)

pub bounds-load-first : goal.bounds-load-first
bounds-load-first c = omega (arith, (c.requires.begins.some c.args.first refl).0, c.requires.sizes.1)

pub loop-u-init : goal.loop-u-init
loop-u-init c = (going_start _ _ _ _ _ c.requires.circles c.args.way.now _ (omega arith) c.requires.begins, c.requires.onward)

pub unwrap-e-requires : goal.unwrap-e-requires
unwrap-e-requires c =
    let going = c.loop-u.invariant.0 in
    let (e, b, t, l) = going.entered c.loop-u-test.true in
    way_on _ _ _ _ _ c.requires.circles _ e _ going.node b t l c.next_loaded.ensures.next

-- the next edge
edge : (c : After-unwrap-e) → NextLoaded c.args.network.now.edges c.args.network.now.from c.args.load.now c.loop-u.u (c.unwrap-e.result + 1)
edge c = subst (λ r. NextLoaded c.args.network.now.edges c.args.network.now.from c.args.load.now c.loop-u.u (plus_one r)) c.unwrap-e.ensures c.next_loaded.ensures.next

pub offset_bounds-load-e : goal.offset_bounds-load-e
offset_bounds-load-e c = omega (arith, ((edge ((goal.at.offset_bounds-load-e c).After-unwrap-e)).some _ refl).0, c.requires.sizes.1)

pub bounds-load-e : goal.bounds-load-e
bounds-load-e c = omega (arith, ((edge ((goal.at.bounds-load-e c).After-unwrap-e)).some _ refl).0, c.requires.sizes.1)

pub loop-u-preserved : goal.loop-u-preserved
loop-u-preserved c =
    let going = c.loop-u.invariant.0 in (
      going_turn _ _ _ _ _ c.requires.circles c.loop-u.way _ _ _ _ _ (omega arith) (omega (arith, going.lower c.loop-u-test.true, going.node)) going c.loop-u-test.true
          (edge ((goal.at.loop-u-preserved c).After-unwrap-e)) c.min-amount.ensures,
      c.next_loaded.ensures.onward_2,
    )
