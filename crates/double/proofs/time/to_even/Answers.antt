-- `double::time::to_even` meets its contract: more or less than a half, and at a half the even one. Assumes nothing.
use Rattle.std.proofs.Common.{◌∙◌, arith}
use Rattle.double.proofs.Nanos.{even-low, even-high, even-more, even-tie, odd-tie}
use Rattle.double.proofs.time.to_even.Goals as goal

pub returns-then-t-u : goal.returns-then-t-u
returns-then-t-u c =
    even-low c.args.q c.args.t c.args.u c.args.s c.requires.1 c.requires.2 c.ranges.q.fits c.if-t-u.true

pub returns-then-t-u-2 : goal.returns-then-t-u-2
returns-then-t-u-2 c =
    c.saturating_add.ensures ∙ even-high c.args.q c.args.t c.args.u c.args.s c.requires.1 c.requires.2 c.if-t-u-2.true

pub returns-then-s-gt0 : goal.returns-then-s-gt0
returns-then-s-gt0 c =
    c.saturating_add-then-s-gt0.ensures ∙ even-more c.args.q c.args.t c.args.u c.args.s c.requires.1 c.requires.2 (omega arith) c.if-s-gt0.true

pub returns-then-q-eq0 : goal.returns-then-q-eq0
returns-then-q-eq0 c =
    even-tie c.args.q c.args.t c.args.u c.args.s c.requires.1 c.requires.2 c.ranges.q.fits (omega arith) (omega arith) (omega arith) (omega arith)

pub returns : goal.returns
returns c =
    c.saturating_add-2.ensures ∙ odd-tie c.args.q c.args.t c.args.u c.args.s c.requires.1 c.requires.2 (omega arith) (omega arith) (omega arith) c.if-q-eq0.false
