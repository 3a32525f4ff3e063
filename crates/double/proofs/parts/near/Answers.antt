-- `double::parts::near` meets its contract: the split of what is above 0 and finite, and the ends of the range. Assumes nothing.
use Rattle.std.proofs.Common.{T, sym, subst}
use lib.Ieee.{of_bits}
use Rattle.double.proofs.Decode.{tested}
use Rattle.double.proofs.Wholes.{near-split, near-over, near_none}
use Rattle.double.proofs.parts.near.Goals as goal

pub split-requires : goal.split-requires
split-requires c = subst T (sym (tested c.args.x c.is_finite.ensures.value c.if-is_finite.true)) tt

pub returns-then-is_finite : goal.returns-then-is_finite
unfolding of_bits
returns-then-is_finite c =
    let s = c.split.result in
    near-split c.args.x s.whole s.rest s.unit c.if-x.true (tested c.args.x c.is_finite.ensures.value c.if-is_finite.true) c.split.ensures

pub returns-then-x : goal.returns-then-x
unfolding of_bits
returns-then-x c = near-over c.args.x c.if-x.true (tested c.args.x c.is_finite.ensures.value c.if-is_finite.false)

pub returns : goal.returns
unfolding of_bits
returns c = near_none c.args.x c.if-x.false
