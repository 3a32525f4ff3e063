-- `lines::open::double_of` tells a NaN's pattern by its size. Assumes nothing.
use Rattle.lines.proofs.Openings.{nan_pattern, no-nan-pattern}
use Rattle.lines.proofs.open.double_of.Goals as goal

pub returns-then-bits-gt9218868437227405312 : goal.returns-then-bits-gt9218868437227405312
returns-then-bits-gt9218868437227405312 c = nan_pattern c.args.bits c.if-bits-gt9218868437227405312.true

pub float_from_bits-result : goal.float_from_bits-result
float_from_bits-result c = no-nan-pattern c.args.bits c.if-bits-gt9218868437227405312.false
