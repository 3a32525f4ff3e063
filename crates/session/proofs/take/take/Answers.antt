-- `session::take::take` meets its contract: four rows, then pairs are copied out. Assumes nothing.
use Prim.Native.Nat.{min}
use mathlib.Core.Path.{sym, ap, ◌∙◌}
use mathlib.Core.Bool.{not}
use lib.ListN.{length}
use native.Mathlib.Omega.{arith}
use borrow.Author.Tests.{lt-ltb, le-ltb}
use Rattle.base.proofs.Picks.{pick-t, pick-f}
use Rattle.base.proofs.Tests.{was}
use Rattle.model.specs.Take as Take
use Rattle.model.specs.Gives.{joined}
use Rattle.session.proofs.Takes.{within, taken_out}
use Rattle.session.proofs.take.take.Goals as goal

pub returns-then-not_reading : goal.returns-then-not_reading
unfolding Take.take_out
returns-then-not_reading c =
    (sym (pick-t _ _ _ (was c.not_reading.ensures c.if-not_reading.true)))

pub returns-then-reading-s : goal.returns-then-reading-s
unfolding Take.take_out
returns-then-reading-s c =
    (sym (pick-f _ _ _ (was c.not_reading.ensures c.if-not_reading.false) ∙ pick-t _ _ _ (lt-ltb _ _ c.if-reading-s.true)))

pub returns-then-buffer-lt2 : goal.returns-then-buffer-lt2
unfolding Take.take_out
returns-then-buffer-lt2 c =
    (sym
    (pick-f _ _ _ (was c.not_reading.ensures c.if-not_reading.false) ∙ pick-f _ _ _ (le-ltb _ _ c.if-reading-s.false)
    ∙ pick-t _ _ _ (lt-ltb (length c.args.buffer.now) 2 c.if-buffer-lt2.true)))

pub returns-then-not-waits : goal.returns-then-not-waits
unfolding Take.take_out
returns-then-not-waits c =
    (sym
    (pick-f _ _ _ (was c.not_reading.ensures c.if-not_reading.false) ∙ pick-f _ _ _ (le-ltb _ _ c.if-reading-s.false)
    ∙ pick-f _ _ _ (le-ltb (length c.args.buffer.now) 2 c.if-buffer-lt2.false)
    ∙ pick-t _ _ _ (ap not (was c.waits.ensures c.if-not-waits.true))))

pub overflow_mul-s : goal.overflow_mul-s
overflow_mul-s c = let p = (within _ (was c.waits.ensures c.if-not-waits.false)) in record { fits = omega (arith, p) }

pub returns : goal.returns
returns c =
    let a = c.args in
    taken_out (joined a.s.now a.samples.now) a.reading a.buffer.now _ _ _ (was c.not_reading.ensures c.if-not_reading.false)
    (le-ltb _ _ c.if-reading-s.false) c.if-buffer-lt2.false (was c.waits.ensures c.if-not-waits.false)
    (c.min-n.ensures ∙ ap (min _) c.left.ensures) c.copy_out.ensures c.handed.ensures
