-- `double::parts::apart` meets its contract: a double by the fields of its bits. Assumes nothing.
use Rattle.std.proofs.Common.{T, sym, subst}
use Rattle.double.proofs.Decode.{finite-no-nan, apart_low, apart-high}
use Rattle.double.proofs.parts.apart.Goals as goal

pub float_to_bits-b : goal.float_to_bits-b
float_to_bits-b c = finite-no-nan c.args.x c.requires

pub returns-then-e-eq0 : goal.returns-then-e-eq0
returns-then-e-eq0 c = apart_low c.args.x (subst T (sym c.well_formed.0.1) tt) c.if-e-eq0.true

pub returns : goal.returns
returns c = apart-high c.args.x (subst T (sym c.well_formed.0.1) tt) c.requires c.if-e-eq0.false
