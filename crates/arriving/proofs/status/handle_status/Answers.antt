-- `arriving::status::handle_status` meets its contract: off or unread it is ignored; else the controller hears it. Assumes nothing.
use mathlib.Core.Path.{◌≡◌, refl, sym, ap, ◌∙◌}
use mathlib.Core.Bool.{Bool}
use Rattle.wire.specs.Status.{overloaded}
use Rattle.attenuator.specs.Controller as Controller
use Rattle.attenuator.specs.Controller.{Stepped}
use Rattle.model.specs.Answer.{done, status}
use Rattle.model.specs.Sending as Sending
use Rattle.model.specs.Gives.{incoming_of}
use Rattle.sending.proofs.Givings.{gives-told, gives_as}
use Rattle.arriving.proofs.Arrivals.{status-off, status-unread, status-read}
use Rattle.arriving.proofs.status.handle_status.Goals as goal

pub returns-in_default : goal.returns-in_default
returns-in_default c = let a = c.args in gives-told _ _ _ _ _ refl (status-off a.s.now (incoming_of a.i) a.packets.now c.in_default.is)

pub returns-in_default-adc_overload_bits : goal.returns-in_default-adc_overload_bits
returns-in_default-adc_overload_bits c = let a = c.args in
    gives-told _ _ _ _ _ refl
    (status-unread a.s.now (incoming_of a.i) a.packets.now _ c.in-Some.is _ c.adc_overload_bits.ensures c.in_default-adc_overload_bits.is)

pub returns : goal.returns
returns c = let a = c.args in
    let made : Stepped = record { step = c.observe-step.result; controller = c.observe-step.new.self } in
    let told : made ≡ Controller.observed c.in-Some.controller (overloaded c.in-Some-adc_overload_bits.bits) a.i.reading =
    c.observe-step.ensures ∙ ap (λ (b : Bool). Controller.observed c.in-Some.controller b a.i.reading) c.adc0_overload.ensures in
    gives_as _ _ _ _ _ _
    (status-read a.s.now (incoming_of a.i) a.packets.now _ c.in-Some.is _ c.adc_overload_bits.ensures _ c.in-Some-adc_overload_bits.is
    ∙ ap (λ (x : Stepped). Sending.wrote (done status) a.s.now a.packets.now (Sending.stepped a.i.later x a.s.now.common)) (sym told))
    c.stepped.ensures
