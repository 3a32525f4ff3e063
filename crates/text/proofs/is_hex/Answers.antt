-- `text::is_hex` tells whether the text starts with 0x. Assumes nothing.
use native.Mathlib.Omega.{arith}
use Rattle.std.proofs.lemmas.Grind.{common_steps}
use Rattle.std.proofs.lemmas.Bool.Decides.{nat_tests}
use Rattle.text.specs.Number.{is_hex}
use Rattle.text.proofs.is_hex.Goals as goal

pub returns-then-s-eq48 : goal.returns-then-s-eq48
unfolding is_hex
returns-then-s-eq48 c = grind (arith, common_steps, nat_tests)

pub returns-else-s-eq48 : goal.returns-else-s-eq48
unfolding is_hex
returns-else-s-eq48 c = grind (arith, common_steps, nat_tests)
