-- `network::carry_all` meets its contract: what stands the test carries everything, and else what is carried slowly does. Assumes nothing.
use Rattle.network.proofs.NetworkLawsStand.{stands_carried, waiting_again}
use Rattle.network.proofs.carry_all.Goals as goal

pub returns-then-guess_stands-clause-by_index : goal.returns-then-guess_stands-clause-by_index
returns-then-guess_stands-clause-by_index c = stands_carried _ _ _ _ _ _ c.requires.shape _ _ _ _ (c.guess_stands.ensures.stands c.if-guess_stands.true)

pub carry_slowly-requires-clause-waiting : goal.carry_slowly-requires-clause-waiting
carry_slowly-requires-clause-waiting c = waiting_again _ _ _ _ _ _ _ _ _ c.requires.waiting c.set_back.ensures.0 c.set_back.ensures.1
