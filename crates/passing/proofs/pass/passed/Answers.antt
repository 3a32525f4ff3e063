-- `passing::pass::passed` meets its contract: Ready, the stalls, then what is due. Assumes nothing.
use mathlib.Core.Path.{refl, sym, ap, ◌∙◌}
use mathlib.Core.List.{[]}
use Rattle.base.proofs.Tests.{was}
use Rattle.model.specs.Answer.{done, soft_stall, hard_stall}
use Rattle.model.specs.State.{replied}
use Rattle.model.specs.Pass as Pass
use Rattle.model.specs.Parts.{with_receiver}
use Rattle.model.specs.declared.receiver.Receiver.{Receiver}
use Rattle.receiving.specs.declared.read.Quiet.TheVariants.{Soft, Hard, Short}
use Rattle.sending.proofs.Givings.{gives-told, gives_as}
use Rattle.passing.proofs.Passes.{pass-ready, pass-quiet}
use Rattle.passing.proofs.pass.passed.Goals as goal

pub returns-then-waits : goal.returns-then-waits
returns-then-waits c = let a = c.args in gives-told _ _ _ _ _ refl (pass-ready a.s.now a.reading a.packets.now (was c.waits.ensures c.if-waits.true))

pub returns-in-Soft : goal.returns-in-Soft
unfolding Pass.stall_soft
returns-in-Soft c = let a = c.args in
    gives-told _ _ _ _ _ refl
    (pass-quiet a.s.now a.reading a.packets.now (was c.waits.ensures c.if-waits.false) _ c.quiet_at-quiet.ensures Soft c.in-Soft.is
    ∙ ap (λ (x : Receiver). replied (done soft_stall) [] a.packets.now [] (with_receiver a.s.now x)) (sym c.stalled.ensures))

pub returns-in-Hard : goal.returns-in-Hard
unfolding Pass.stall_hard
returns-in-Hard c = let a = c.args in
    gives-told _ _ _ _ _ refl
    (pass-quiet a.s.now a.reading a.packets.now (was c.waits.ensures c.if-waits.false) _ c.quiet_at-quiet.ensures Hard c.in-Hard.is
    ∙ ap (λ (x : Receiver). replied (done hard_stall) [] a.packets.now [] (with_receiver a.s.now x)) (sym c.shut.ensures))

pub returns-in-Short : goal.returns-in-Short
returns-in-Short c = let a = c.args in
    gives_as _ _ _ _ _ _
    (pass-quiet a.s.now a.reading a.packets.now (was c.waits.ensures c.if-waits.false) _ c.quiet_at-quiet.ensures Short c.in-Short.is)
    c.sent.ensures
