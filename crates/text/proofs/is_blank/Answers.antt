-- `text::is_blank` tells whether an octet is blank: the tests are those of the definition. Assumes nothing.
use native.Mathlib.Omega.{arith}
use Rattle.std.proofs.lemmas.Grind.{common_steps}
use Rattle.std.proofs.lemmas.Bool.Decides.{nat_tests}
use Rattle.text.specs.Split.{blank}
use Rattle.text.proofs.is_blank.Goals as goal

pub returns-then-x-eq9 : goal.returns-then-x-eq9
unfolding blank
returns-then-x-eq9 c = grind (arith, common_steps, nat_tests)

pub returns-else-x-eq9 : goal.returns-else-x-eq9
unfolding blank
returns-else-x-eq9 c = grind (arith, common_steps, nat_tests)
