-- `double::parts::split` meets its contract: the scale says how many of the digits stand after the point. Assumes nothing.
use Rattle.std.proofs.Common.{arith}
use Rattle.double.proofs.Splits.{split-tiny, split-mid, split-high, split-over, unit-is}
use Rattle.double.proofs.parts.split.Goals as goal

pub returns-then-k-lt1020 : goal.returns-then-k-lt1020
returns-then-k-lt1020 c =
    let a = c.apart-p in
    split-tiny c.args.x a.result.negative a.result.digits a.result.scale c.min.result a.ensures c.if-k-lt1020.true c.min.ensures

pub returns-then-k-lt1074 : goal.returns-then-k-lt1074
returns-then-k-lt1074 c =
    let a = c.apart-p in
    split-mid c.args.x a.result.negative a.result.digits a.result.scale _ a.ensures (omega arith) (unit-is a.result.scale (omega arith) (omega arith))

pub returns-then-k-lt1086 : goal.returns-then-k-lt1086
returns-then-k-lt1086 c =
    let a = c.apart-p in
    split-high c.args.x a.result.negative a.result.digits a.result.scale a.ensures (omega arith) (omega arith)

pub returns : goal.returns
returns c =
    let a = c.apart-p in
    split-over c.args.x a.result.negative a.result.digits a.result.scale a.ensures (omega arith)
