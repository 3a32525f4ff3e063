-- `double::time::nanoseconds` meets its contract: the digits and scale of what is above 0 and finite, and the ends of the range. Assumes nothing.
use Rattle.std.proofs.Common.{T, sym, ◌∙◌, subst}
use lib.Ieee.{of_bits}
use Rattle.double.specs.Seconds.{nanos_at}
use Rattle.double.proofs.Decode.{tested}
use Rattle.double.proofs.Wholes.{nat-plain, plain-above, nat-none, nat_over}
use Rattle.double.proofs.Nanos.{by_parts, nanos-zero}
use Rattle.double.proofs.time.nanoseconds.Goals as goal

pub apart-p-requires : goal.apart-p-requires
apart-p-requires c = subst T (sym (tested c.args.x c.is_finite.ensures.value c.if-is_finite.true)) tt

pub returns-then-is_finite : goal.returns-then-is_finite
unfolding of_bits
returns-then-is_finite c =
    let x = c.args.x in
    c.nanos_of.ensures
    ∙ by_parts x c.apart-p.result.negative c.apart-p.result.digits c.apart-p.result.scale c.apart-p.ensures
    ∙ sym (nat-plain nanos_at x (plain-above x c.if-x.true (tested c.args.x c.is_finite.ensures.value c.if-is_finite.true)))

pub returns-then-x : goal.returns-then-x
unfolding of_bits
returns-then-x c = sym (nat_over nanos_at c.args.x c.if-x.true (tested c.args.x c.is_finite.ensures.value c.if-is_finite.false))

pub returns : goal.returns
unfolding of_bits
returns c = sym (nat-none nanos_at nanos-zero c.args.x c.if-x.false)
