-- `network::Search::find` meets its contract: a node is found in each turn, and not all were settled. Assumes nothing.
use Rattle.std.proofs.Common.{◌<◌, arith}
use Rattle.network.specs.Network.{most_nodes, Nearest}
use Rattle.network.proofs.NetworkLaws.{positive}
use Rattle.network.proofs.NetworkLawsSettle.{search_first, search_node, search_room, search_again, found}
use Rattle.network.proofs.Search.find.Goals as goal
use Rattle.network.proofs.Search.find.Goals.{After-nearest-u}

pub loop-u-init : goal.loop-u-init
loop-u-init c = search_first _ _ _ _ _ _ _ _ _ c.requires.seeking _ _ _ c.requires.fresh

-- the ranks are those before the edges were looked at
near : (c : After-nearest-u) → Nearest c.args.network.now.nodes c.relax.new.self.dist c.loop-u.self.rank c.nearest-u.result
near c = rw c.relax.ensures.ranks at c.nearest-u.ensures

-- a node is found, and not all were settled
node : (c : After-nearest-u) → (c.nearest-u.result < most_nodes) × (c.loop-u.count < c.args.network.now.nodes)
node c =
    let p = c.requires in
    let few = p.seeking.lanes.few_nodes in
    let r = search_node _ _ _ _ _ _ _ _ _ p.seeking _ _ _ _ _ _ _ _ c.loop-u.invariant c.loop-u-test.true c.relax.ensures.growing_2 (near c) in
    let m = search_room _ _ _ _ _ _ _ _ _ p.seeking _ _ _ _ _ _ _ _ c.loop-u.invariant c.loop-u-test.true c.relax.ensures.growing_2 (near c) in
    (omega arith, m)

pub bounds-self-u : goal.bounds-self-u
bounds-self-u c = (node ((goal.at.bounds-self-u c).After-nearest-u)).0

pub loop-u-smaller : goal.loop-u-smaller
loop-u-smaller c = omega (arith, node ((goal.at.loop-u-smaller c).After-nearest-u))

pub loop-u-preserved : goal.loop-u-preserved
loop-u-preserved c =
    rw c.relax.ensures.ranks (search_again _ _ _ _ _ _ _ _ _ c.requires.seeking _ _ _ _ _ _ _ _ c.loop-u.invariant c.loop-u-test.true c.relax.ensures.growing_2 (near ((goal.at.loop-u-preserved c).After-nearest-u)))

pub returns : goal.returns
returns c = found _ _ _ _ _ _ _ _ _ _ _ _ _ _ _ _ c.requires.seeking c.loop-u.invariant.0 (positive _ c.loop-u-test.false)
