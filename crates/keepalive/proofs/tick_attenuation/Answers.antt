-- `keepalive::tick_attenuation` meets its contract. Assumes nothing.
use Rattle.std.specs.Prelude.{Option}
use Rattle.attenuator.specs.declared.Controller.{Controller}
use mathlib.Core.Path.{ap, sym, ◌∙◌}
use Rattle.attenuator.specs.Controller.{Stepped}
use Rattle.model.specs.Sending as Sending
use Rattle.sending.proofs.Progresses.{sends-as, sends_none}
use Rattle.keepalive.proofs.tick_attenuation.Goals as goal

pub returns-in_default : goal.returns-in_default
unfolding Sending.tick
returns-in_default c = let a = c.args in sends-as (Sending.idle a.p.now.common) _ a.p.now _ _ _ (ap (λ (x : Option Controller). Sending.tick a.reading x a.p.now.common) (sym c.in_default.is)) (sends_none a.p.now _)

pub returns-in-Some : goal.returns-in-Some
unfolding Sending.tick
returns-in-Some c = let a = c.args in
    sends-as _ _ a.p.now _ _ _
    (ap (λ (x : Stepped). Sending.stepped a.reading x a.p.now.common) c.tick-step.ensures
    ∙ ap (λ (x : Option Controller). Sending.tick a.reading x a.p.now.common) (sym c.in-Some.is)) c.apply_step.ensures
