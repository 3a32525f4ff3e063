-- `double::whole::is_whole` meets its contract: nothing is left of a finite number. Assumes nothing.
use Rattle.std.proofs.Common.{T, sym, ◌∙◌, subst}
use Rattle.double.proofs.Decode.{tested}
use Rattle.double.proofs.Wholes.{whole-at, whole-none}
use Rattle.double.proofs.whole.is_whole.Goals as goal

pub split-requires : goal.split-requires
split-requires c = subst T (sym (tested c.args.x c.is_finite.ensures.value c.if-is_finite.true)) tt

pub returns-then-is_finite : goal.returns-then-is_finite
returns-then-is_finite c = c.split.ensures.none ∙ sym (whole-at c.args.x (tested c.args.x c.is_finite.ensures.value c.if-is_finite.true))

pub returns : goal.returns
returns c = sym (whole-none c.args.x (tested c.args.x c.is_finite.ensures.value c.if-is_finite.false))
