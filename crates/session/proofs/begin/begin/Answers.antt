-- `session::begin::begin` meets its contract: two rows, then the read opens. Assumes nothing.
use mathlib.Core.Path.{sym, ap, ◌∙◌}
use mathlib.Core.List.{[]}
use Rattle.base.proofs.Picks.{pick-t, pick-f}
use Rattle.base.proofs.Tests.{was}
use Rattle.model.specs.Answer.{done}
use Rattle.model.specs.Answer as Answer
use Rattle.model.specs.State.{replied}
use Rattle.model.specs.Parts.{with_last_reading}
use Rattle.model.specs.Begin as Begin
use Rattle.model.specs.declared.receiver.Receiver.{Receiver}
use borrow.Author.Tests.{lt-ltb, le-ltb}
use Rattle.session.proofs.begin.begin.Goals as goal

pub returns-then-not_idle : goal.returns-then-not_idle
unfolding Begin.begin
returns-then-not_idle c = sym (pick-t _ _ _ (was c.not_idle.ensures c.if-not_idle.true))

pub returns-then-now-s : goal.returns-then-now-s
unfolding Begin.begin
returns-then-now-s c = sym (pick-f _ _ _ (was c.not_idle.ensures c.if-not_idle.false) ∙ pick-t _ _ _ (lt-ltb _ _ c.if-now-s.true))

pub returns : goal.returns
unfolding Begin.begin
returns c =
    let a = c.args in
    ap
    (λ (q : Receiver). replied (done Answer.begun) [] [] [] (record { common = with_last_reading a.s.now.common a.now; receiver = q }))
    c.begun_by.ensures
    ∙ sym (pick-f _ _ _ (was c.not_idle.ensures c.if-not_idle.false) ∙ pick-f _ _ _ (le-ltb _ _ c.if-now-s.false))
