-- `checker::reader::goes_on` meets its contract: an arc is found exactly where there is one.
use Rattle.std.proofs.Common.{arith}
use Rattle.forms.specs.ArcTable.{goes_on}
use Rattle.std.proofs.lemmas.Bool.Decides.{nat_tests}
use Rattle.forms.proofs.WalkLaws.{found_is}
use Rattle.checker.proofs.reader.goes_on.Goals as goal

pub returns-then-v-n : goal.returns-then-v-n
unfolding goes_on
returns-then-v-n c = grind (arith, nat_tests, found_is)

pub returns-else-v-n : goal.returns-else-v-n
unfolding goes_on
returns-else-v-n c = grind (arith, nat_tests)
