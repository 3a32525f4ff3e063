-- What is sent moves counts, clocks and the attenuator, and nothing else of what is common; each stream that it lists counts one more.
-- Assumes nothing.
use Rattle.std.specs.Prelude.{Option, Some, None}
use Rattle.attenuator.specs.declared.Controller.{Controller}
use Rattle.std.proofs.Common.{◌≡◌, ℕ, Bool, false, List, [], ◌∷◌, ◌++◌, refl, ap, ◌∙◌}
use Rattle.base.proofs.Picks.{pick-either}
use Rattle.attenuator.specs.Controller as Controller
use Rattle.attenuator.specs.declared.AttenuationStep.{AttenuationStep}
use Rattle.attenuator.specs.Controller.{Stepped}
use Rattle.model.specs.Sending.{Sending, idle, then, raised, send, send_high, send_rx_tx, send_general, high_if_due, rx_tx_if_due, general_if_due, keepalive, applied, stepped, tick, due_packets, stop_packets}
use Rattle.model.specs.Parts.{with_attenuation}
use Rattle.model.specs.Leaves.{sent_from, counts_after}
use Rattle.wire.specs.declared.command.Stream.{Stream}
use Rattle.wire.specs.declared.command.Stream.TheVariants.{HighPriority}
use Rattle.model.specs.declared.session.Common.{Common}

pub record Steady (c : Common) (out : Sending) : Type 0 where
  pub kept : out.common ≡ sent_from c out.common
  pub counted : out.common.seq ≡ counts_after c.seq out.streams

counts-append : (counts a b : List ℕ) → counts_after (counts_after counts a) b ≡ counts_after counts (a ++ b)
counts-append counts [] b = refl
counts-append counts (k ∷ a) b = counts-append (raised counts k) a b

then-steady : (c : Common) (out : Sending) (f : Common → Sending) → Steady c out → ((d : Common) → Steady d (f d)) → Steady c (then out f)
then-steady c out f h k =
    let g = k out.common in
    record {
      kept = g.kept ∙ ap (λ (x : Common). sent_from x (f out.common).common) h.kept;
      counted = g.counted ∙ ap (λ (l : List ℕ). counts_after l (f out.common).streams) h.counted ∙ counts-append c.seq out.streams (f out.common).streams;
    }

send-steady : (k : Stream) (run : Bool) (c : Common) → Steady c (send k run c)
unfolding send
send-steady k run c = record { kept = refl; counted = refl }

high-steady : (now : ℕ) (c : Common) → Steady c (send_high now c)
unfolding send_high send
high-steady now c = record { kept = refl; counted = refl }

rx-tx-steady : (now : ℕ) (c : Common) → Steady c (send_rx_tx now c)
unfolding send_rx_tx send
rx-tx-steady now c = record { kept = refl; counted = refl }

general-steady : (now : ℕ) (c : Common) → Steady c (send_general now c)
unfolding send_general send
general-steady now c = record { kept = refl; counted = refl }

if-due : (due : Bool) (c : Common) (out : Sending) → Steady c out → Steady c (Rattle.base.specs.Pick.pick due out (idle c))
if-due due c out h = pick-either due out (idle c) (Steady c) (λ t. h) (λ f. record { kept = refl; counted = refl })

keepalive-steady : (now : ℕ) (c : Common) → Steady c (keepalive now c)
unfolding keepalive high_if_due rx_tx_if_due general_if_due
keepalive-steady now c =
    then-steady c (high_if_due now c) (λ (d : Common). then (rx_tx_if_due now d) (general_if_due now)) (if-due _ c (send_high now c) (high-steady now c)) λ d.
    then-steady d (rx_tx_if_due now d) (general_if_due now) (if-due _ d (send_rx_tx now d) (rx-tx-steady now d)) λ e.
    if-due _ e (send_general now e) (general-steady now e)

applied-steady : (now : ℕ) (step : Option AttenuationStep) (c : Common) → Steady c (applied now step c)
unfolding applied
applied-steady now None c = record { kept = refl; counted = refl }
applied-steady now (Some s) c = high-steady now c

pub stepped-steady : (now : ℕ) (made : Stepped) (c : Common) → Steady c (stepped now made c)
unfolding stepped
stepped-steady now made c =
    let a = applied-steady now made.step (with_attenuation c (Some made.controller)) in
    record { kept = a.kept; counted = a.counted }

tick-steady : (now : ℕ) (a : Option Controller) (c : Common) → Steady c (tick now a c)
unfolding tick
tick-steady now None c = record { kept = refl; counted = refl }
tick-steady now (Some controller) c = stepped-steady now (Controller.ticked controller now) c

pub due-steady : (now : ℕ) (c : Common) → Steady c (due_packets now c)
unfolding due_packets
due-steady now c = then-steady c (keepalive now c) (λ (d : Common). tick now d.attenuation d) (keepalive-steady now c) (λ d. tick-steady now d.attenuation d)

pub stop-steady : (c : Common) → Steady c (stop_packets c)
unfolding stop_packets
stop-steady c = then-steady c (send HighPriority false c) (λ (d : Common). send HighPriority false d) (send-steady HighPriority false c) (λ d. send-steady HighPriority false d)
