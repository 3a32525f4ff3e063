-- `double::whole::round_up_from_zero` meets its contract: below 2 ^ 52 the nearest whole number is a double, and from there on x is whole. Assumes nothing.
use Rattle.std.proofs.Common.{ℕ, T, pos, sym, ap, ◌∙◌, subst}
use lib.Ieee.{of_bits, of_int, binary64}
use Rattle.double.proofs.Rounded.{under-own, past-own, none-own}
use Rattle.double.proofs.whole.round_up_from_zero.Goals as goal

pub returns-then-x-2 : goal.returns-then-x-2
unfolding of_bits
returns-then-x-2 c =
    c.nearest_u64_to_f64.ensures ∙ ap (λ (n : ℕ). of_int binary64 (pos n)) c.round_u64.ensures
    ∙ under-own c.args.x c.if-x.true c.if-x-2.true

pub returns-else-x-2 : goal.returns-else-x-2
unfolding of_bits
returns-else-x-2 c = past-own c.args.x (subst T (sym c.well_formed.0.1) tt) c.requires c.if-x-2.false

pub returns-else-x : goal.returns-else-x
unfolding of_bits
returns-else-x c = none-own c.args.x (subst T (sym c.well_formed.0.1) tt) c.requires c.if-x.false
