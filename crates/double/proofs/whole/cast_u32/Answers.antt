-- `double::whole::cast_u32` meets its contract: the floor, cut at the largest u32. Assumes nothing.
use Rattle.std.proofs.Common.{arith}
use Rattle.double.proofs.Floors.{cast-narrow, cast-is-floor}
use Rattle.double.proofs.whole.cast_u32.Goals as goal

pub returns-then-n-lt4294967296 : goal.returns-then-n-lt4294967296
returns-then-n-lt4294967296 c = omega (arith, cast-narrow c.args.x, cast-is-floor c.args.x)

pub returns-else-n-lt4294967296 : goal.returns-else-n-lt4294967296
returns-else-n-lt4294967296 c = omega (arith, cast-narrow c.args.x, cast-is-floor c.args.x)
