-- `passing::pass::pass` meets its contract: three rows, then the rest. Assumes nothing.
use mathlib.Core.Path.{refl, ◌∙◌}
use lib.ListN.{length}
use borrow.Author.Tests.{lt-ltb, le-ltb}
use Rattle.base.proofs.Picks.{pick-t, pick-f}
use Rattle.base.proofs.Tests.{was}
use Rattle.model.specs.Pass as Pass
use Rattle.sending.proofs.Givings.{gives-told, gives_as}
use Rattle.passing.proofs.pass.pass.Goals as goal

pub returns-then-not_reading : goal.returns-then-not_reading
unfolding Pass.pass
returns-then-not_reading c = gives-told _ _ _ _ _ refl (pick-t _ _ _ (was c.not_reading.ensures c.if-not_reading.true))

pub returns-then-reading-s : goal.returns-then-reading-s
unfolding Pass.pass
returns-then-reading-s c =
    gives-told _ _ _ _ _ refl (pick-f _ _ _ (was c.not_reading.ensures c.if-not_reading.false) ∙ pick-t _ _ _ (lt-ltb _ _ c.if-reading-s.true))

pub returns-then-packets-lt-PASS_LEN : goal.returns-then-packets-lt-PASS_LEN
unfolding Pass.pass
returns-then-packets-lt-PASS_LEN c = let a = c.args in
    gives-told _ _ _ _ _ refl
    (pick-f _ _ _ (was c.not_reading.ensures c.if-not_reading.false) ∙ pick-f _ _ _ (le-ltb _ _ c.if-reading-s.false)
    ∙ pick-t _ _ _ (lt-ltb (length a.packets.now) 4452 c.if-packets-lt-PASS_LEN.true))

pub returns : goal.returns
unfolding Pass.pass
returns c = let a = c.args in
    gives_as _ _ _ _ _ _
    (pick-f _ _ _ (was c.not_reading.ensures c.if-not_reading.false) ∙ pick-f _ _ _ (le-ltb _ _ c.if-reading-s.false)
    ∙ pick-f _ _ _ (le-ltb (length a.packets.now) 4452 c.if-packets-lt-PASS_LEN.false))
    c.passed.ensures
