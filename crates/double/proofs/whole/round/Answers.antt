-- `double::whole::round` meets its contract: the sign goes through. Assumes nothing.
use Rattle.std.proofs.Common.{ap, ◌∙◌}
use lib.Ieee.{of_bits, neg}
use Rattle.double.proofs.Rounded.{neg-own, neg-up}
use Rattle.double.proofs.whole.round.Goals as goal

pub round_up_from_zero-requires : goal.round_up_from_zero-requires
unfolding of_bits
round_up_from_zero-requires c = neg-up c.args.x c.if-x.true

pub returns-then-x : goal.returns-then-x
returns-then-x c = ap neg c.round_up_from_zero.ensures ∙ neg-own c.args.x
