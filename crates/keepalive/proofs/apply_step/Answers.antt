-- `keepalive::apply_step` meets its contract. Assumes nothing.
use Rattle.std.specs.Prelude.{Option, Some}
use mathlib.Core.Path.{ap, sym}
use Rattle.attenuator.specs.declared.AttenuationStep.{AttenuationStep}
use Rattle.model.specs.Sending as Sending
use Rattle.model.specs.Parts.{with_attenuation}
use Rattle.sending.proofs.Progresses.{sends-as, sends-set, sends-from}
use Rattle.keepalive.proofs.apply_step.Goals as goal

pub returns-in-Some : goal.returns-in-Some
unfolding Sending.stepped Sending.applied Sending.send_high
returns-in-Some c = let a = c.args in
    let after = with_attenuation a.p.now.common (Some a.controller) in
    sends-as (Sending.send_high a.reading after) _ a.p.now _ _ _
    (ap (λ (x : Option AttenuationStep). Sending.applied a.reading x after) (sym c.in-Some.is)) (sends-from _ a.p.now _ _ _ _ c.send.ensures)

pub returns-in-None : goal.returns-in-None
unfolding Sending.stepped Sending.applied
returns-in-None c = let a = c.args in
    let after = with_attenuation a.p.now.common (Some a.controller) in
    sends-as (Sending.idle after) _ a.p.now _ _ _ (ap (λ (x : Option AttenuationStep). Sending.applied a.reading x after) (sym c.in-None.is))
    (sends-set a.p.now after _)
