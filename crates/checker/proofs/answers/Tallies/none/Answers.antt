-- `checker::answers::Tallies::none` has nothing tallied.
use Rattle.std.proofs.Common.{refl}
use Rattle.checker.proofs.AnswerPaths.{nothing_tallied}
use Rattle.checker.proofs.answers.Tallies.none.Goals as goal

pub returns : goal.returns
returns c = (nothing_tallied, refl, refl)
