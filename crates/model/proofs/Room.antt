-- What a call writes has room, whatever the state and the call. Assumes nothing.
use Rattle.std.specs.Prelude.{Option, Some, None}
use Rattle.attenuator.specs.declared.Controller.{Controller}
use Rattle.std.proofs.Common.{◌≡◌, ℕ, ◌+◌, ◌-◌, ◌*◌, ◌/◌, ◌≤◌, min, Bool, true, false, List, [], ◌∷◌, length, take, drop, refl, arith, length-append, length-take, ltb-false}
use lib.Ieee.{Float}
use Rattle.octets.specs.Written.{written}
use Rattle.base.proofs.Picks.{pick-either}
use Rattle.octets.proofs.Writes.{length-written}
use Rattle.base.specs.Told.{Told, gives, refused}
use Rattle.wire.proofs.ReadBack.{general-length, rx-length, tx-length, high-length}
use Rattle.attenuator.specs.declared.AttenuationStep.{AttenuationStep}
use Rattle.attenuator.specs.Controller.{Stepped}
use Rattle.attenuator.specs.Controller as Controller
use Rattle.wire.specs.Command.{size_of}
use Rattle.wire.specs.Status.{overloaded}
use Rattle.model.specs.Routing.{Routed, iq, status, ignored, malformed}
use Rattle.model.specs.Host.{Incoming, Call, Begin, Pass, Arrival, Take, Close, TakeMissing, TakeDiscontinuity, TakeStalled, Step}
use Rattle.model.specs.State.{State, left, keeping}
use Rattle.model.specs.Sending.{Sending, idle, then, packet_of, send, send_high, send_rx_tx, send_general, high_if_due, rx_tx_if_due, general_if_due, keepalive, applied, stepped, tick, due_packets, stop_packets}
use Rattle.model.specs.Begin.{begin}
use Rattle.model.specs.Pass.{stall_soft, stall_hard, passed, pass}
use Rattle.model.specs.Arrival.{hear, heard_as, heard_iq, overload, heard_status, heard_malformed, arrived, arrival}
use Rattle.model.specs.Take.{hand_out, take_out}
use Rattle.model.specs.Close.{stop, close}
use Rattle.model.specs.Drain.{take_missing, take_discontinuity, take_stalled}
use Rattle.model.specs.Session as Session
use Rattle.model.specs.Refusals.{lent_packets, lent_buffer}
use Rattle.model.specs.Room.{Roomy}
use Rattle.wire.specs.declared.command.Stream.{Stream}
use Rattle.wire.specs.declared.command.Stream.TheVariants.{General, RxSpecific, TxSpecific, HighPriority}
use Rattle.model.specs.declared.session.Common.{Common}
use Rattle.model.specs.declared.session.Session.{Session}

-- at most so many octets, of so many streams
pub record Within (n k : ℕ) (out : Sending) : Type 0 where
  pub octets : length out.octets ≤ n
  pub streams : length out.streams ≤ k

pub packet-size : (k : Stream) (run : Bool) (c : Common) → length (packet_of k run c) ≡ size_of k
unfolding packet_of
packet-size General run c = general-length _ _
packet-size RxSpecific run c = rx-length _ _ _
packet-size TxSpecific run c = tx-length _
packet-size HighPriority run c = high-length _ _ _ _ _ _

pub send-within : (k : Stream) (run : Bool) (c : Common) → Within (size_of k) 1 (send k run c)
unfolding send
send-within k run c = record { octets = omega (arith, packet-size k run c); streams = omega arith }

idle-within : (n k : ℕ) (c : Common) → Within n k (idle c)
idle-within n k c = record { octets = omega arith; streams = omega arith }

pub then-within : (n k m j : ℕ) (out : Sending) (f : Common → Sending) → Within n k out → ((c : Common) → Within m j (f c)) → Within (n + m) (k + j) (then out f)
then-within n k m j out f h g =
    let w = g out.common in
    record {
      octets = omega (arith, length-append out.octets (f out.common).octets, h.octets, w.octets);
      streams = omega (arith, length-append out.streams (f out.common).streams, h.streams, w.streams);
    }

pub high-within : (now : ℕ) (c : Common) → Within 1444 1 (send_high now c)
unfolding send_high
high-within now c = send-within HighPriority true _

pub high-due-within : (now : ℕ) (c : Common) → Within 1444 1 (high_if_due now c)
unfolding high_if_due
high-due-within now c = pick-either _ _ _ (Within 1444 1) (λ _. high-within now c) (λ _. idle-within 1444 1 c)

pub rx-tx-due-within : (now : ℕ) (c : Common) → Within 1504 2 (rx_tx_if_due now c)
unfolding rx_tx_if_due send_rx_tx
rx-tx-due-within now c =
    pick-either _ _ _ (Within 1504 2)
    (λ _. then-within 1444 1 60 1 _ (λ (d : Common). send TxSpecific true d) (send-within RxSpecific true _) (λ d. send-within TxSpecific true d))
    (λ _. idle-within 1504 2 c)

pub general-due-within : (now : ℕ) (c : Common) → Within 60 1 (general_if_due now c)
unfolding general_if_due send_general
general-due-within now c = pick-either _ _ _ (Within 60 1) (λ _. send-within General true _) (λ _. idle-within 60 1 c)

pub keepalive-within : (now : ℕ) (c : Common) → Within 3008 4 (keepalive now c)
unfolding keepalive
keepalive-within now c =
    then-within 1444 1 1564 3 (high_if_due now c) (λ (d : Common). then (rx_tx_if_due now d) (general_if_due now)) (high-due-within now c) λ d.
    then-within 1504 2 60 1 (rx_tx_if_due now d) (general_if_due now) (rx-tx-due-within now d) (λ e. general-due-within now e)

applied-within : (now : ℕ) (made : Option AttenuationStep) (c : Common) → Within 1444 1 (applied now made c)
unfolding applied
applied-within now None c = idle-within 1444 1 c
applied-within now (Some s) c = high-within now c

pub stepped_within : (now : ℕ) (made : Stepped) (c : Common) → Within 1444 1 (stepped now made c)
unfolding stepped
stepped_within now made c = applied-within now made.step _

pub tick-within : (now : ℕ) (a : Option Controller) (c : Common) → Within 1444 1 (tick now a c)
unfolding tick
tick-within now None c = idle-within 1444 1 c
tick-within now (Some controller) c = stepped_within now _ c

-- the four keepalives and a step's packet, 4452 octets; those of Close, 2888
pub due-within : (now : ℕ) (c : Common) → Within 4452 5 (due_packets now c)
unfolding due_packets
due-within now c =
    then-within 3008 4 1444 1 (keepalive now c) (λ (d : Common). tick now d.attenuation d) (keepalive-within now c)
    (λ d. tick-within now d.attenuation d)

pub stop-within : (c : Common) → Within 2888 2 (stop_packets c)
unfolding stop_packets
stop-within c =
    then-within 1444 1 1444 1 _ (λ (d : Common). send HighPriority false d) (send-within HighPriority false c) (λ d. send-within HighPriority false d)

-- ---- the calls

-- nothing was written
module _ (c : Call) where
  untouched : (x : Step State) → x.reply.streams ≡ [] → x.reply.packets ≡ lent_packets c → x.reply.buffer ≡ lent_buffer c → Roomy c x
  untouched x s p b = record { packets = rw p refl; buffer = rw b refl; streams = rw s (omega arith) }

  abbrev Fine : Step State → Type 0
  Fine = Roomy c

  abbrev FineBy : List Float → Step Session → Type 0
  FineBy samples x = Roomy c (keeping samples x)

-- n octets of at most five streams are within a buffer that is no shorter
filled : (d : List ℕ) (out : Sending) (n k : ℕ) → Within n k out → n ≤ length d → length (written d 0 out.octets) ≡ length d
filled d out n k w l = length-written d 0 out.octets (omega (arith, w.octets))

begin-roomy : (st : State) (now : ℕ) → FineBy (Begin now) st.samples (begin st.session now)
unfolding begin
begin-roomy st now =
    pick-either _ _ _ (FineBy (Begin now) st.samples) (λ _. untouched (Begin now) _ refl refl refl) λ _.
    pick-either _ _ _ (FineBy (Begin now) st.samples) (λ _. untouched (Begin now) _ refl refl refl) λ _.
    untouched (Begin now) _ refl refl refl

module _ (samples : List Float) (now : ℕ) (d : List ℕ) where
  passed-roomy : (s : Session) → 4452 ≤ length d → FineBy (Pass now d) samples (passed s now d)
  unfolding passed stall_soft stall_hard
  passed-roomy s l =
      pick-either _ _ _ (FineBy (Pass now d) samples) (λ _. untouched (Pass now d) _ refl refl refl) λ _.
      pick-either _ _ _ (FineBy (Pass now d) samples) (λ _. untouched (Pass now d) _ refl refl refl) λ _.
      pick-either _ _ _ (FineBy (Pass now d) samples) (λ _. untouched (Pass now d) _ refl refl refl) λ _.
      let w = due-within now s.common in
      record { packets = filled d (due_packets now s.common) 4452 5 w l; buffer = refl; streams = w.streams }

  pass-roomy : (s : Session) → FineBy (Pass now d) samples (pass s now d)
  unfolding pass
  pass-roomy s =
      pick-either _ _ _ (FineBy (Pass now d) samples) (λ _. untouched (Pass now d) _ refl refl refl) λ _.
      pick-either _ _ _ (FineBy (Pass now d) samples) (λ _. untouched (Pass now d) _ refl refl refl) λ _.
      pick-either _ _ _ (FineBy (Pass now d) samples) (λ _. untouched (Pass now d) _ refl refl refl) λ e.
      passed-roomy _ (let l = ltb-false (length d) _ e in omega (arith, l))

module _ (i : Incoming) (d : List ℕ) where
  abbrev There : Step State → Type 0
  There = Roomy (Arrival i d)

  iq-roomy : (st : State) (count : ℕ) → There (heard_iq st i d count)
  unfolding heard_iq heard_as hear
  iq-roomy st count = pick-either _ _ _ There (λ _. untouched (Arrival i d) _ refl refl refl) (λ _. untouched (Arrival i d) _ refl refl refl)

  overload-roomy : (st : State) (a : Option Controller) (bits : Told) → 1444 ≤ length d → There (keeping st.samples (overload st.session i d a bits))
  unfolding overload
  overload-roomy st None bits l = untouched (Arrival i d) _ refl refl refl
  overload-roomy st (Some controller) (gives []) l = untouched (Arrival i d) _ refl refl refl
  overload-roomy st (Some controller) (refused k vs) l = untouched (Arrival i d) _ refl refl refl
  overload-roomy st (Some controller) (gives (bits ∷ vs)) l =
      let out = stepped i.later (Controller.observed controller (overloaded bits) i.now) st.session.common in
      let w : Within 1444 1 out = stepped_within i.later _ st.session.common in
      record { packets = filled d out 1444 1 w l; buffer = refl; streams = omega (arith, w.streams) }

  malformed-roomy : (st : State) → There (keeping st.samples (heard_malformed st.session d))
  unfolding heard_malformed
  malformed-roomy st =
      pick-either _ _ _ (FineBy (Arrival i d) st.samples) (λ _. untouched (Arrival i d) _ refl refl refl) (λ _. untouched (Arrival i d) _ refl refl refl)

  arrived-roomy : (st : State) (p : Routed) → 1444 ≤ length d → There (arrived st i d p)
  unfolding arrived heard_status
  arrived-roomy st (iq count) l = iq-roomy st count
  arrived-roomy st status l = overload-roomy st _ _ l
  arrived-roomy st ignored l = untouched (Arrival i d) _ refl refl refl
  arrived-roomy st malformed l = malformed-roomy st

  arrival-roomy : (st : State) → There (arrival st i d)
  unfolding arrival
  arrival-roomy st =
      pick-either _ _ _ There (λ _. untouched (Arrival i d) _ refl refl refl) λ _.
      pick-either _ _ _ There (λ _. untouched (Arrival i d) _ refl refl refl) λ _.
      pick-either _ _ _ There (λ _. untouched (Arrival i d) _ refl refl refl) λ _.
      pick-either _ _ _ There (λ _. untouched (Arrival i d) _ refl refl refl) λ _.
      pick-either _ _ _ There (λ _. untouched (Arrival i d) _ refl refl refl) λ _.
      pick-either _ _ _ There (λ _. untouched (Arrival i d) _ refl refl refl) λ e.
      arrived-roomy _ _ (ltb-false (length d) 1444 e)

front-short : (n : ℕ) (l : List Float) → length (take n l) ≤ n
front-short n l = omega (arith, length-take n l)

take-roomy : (st : State) (now : ℕ) (buffer : List Float) → Fine (Take now buffer) (take_out st now buffer)
unfolding take_out hand_out left
take-roomy st now buffer =
    pick-either _ _ _ (Fine (Take now buffer)) (λ _. untouched (Take now buffer) _ refl refl refl) λ _.
    pick-either _ _ _ (Fine (Take now buffer)) (λ _. untouched (Take now buffer) _ refl refl refl) λ _.
    pick-either _ _ _ (Fine (Take now buffer)) (λ _. untouched (Take now buffer) _ refl refl refl) λ _.
    pick-either _ _ _ (Fine (Take now buffer)) (λ _. untouched (Take now buffer) _ refl refl refl) λ _.
    let n = min (length buffer / 2) (238 - st.session.receiver.queue_pos) in
    let out = drop (2 * st.session.receiver.queue_pos) st.samples in
    record { packets = refl; buffer = length-written buffer 0 (take (2 * n) out) (omega (arith, front-short (2 * n) out)); streams = omega arith }

close-roomy : (st : State) (d : List ℕ) → FineBy (Close d) st.samples (close st.session d)
unfolding close stop
close-roomy st d =
    pick-either _ _ _ (FineBy (Close d) st.samples) (λ _. untouched (Close d) _ refl refl refl) λ _.
    pick-either _ _ _ (FineBy (Close d) st.samples) (λ _. untouched (Close d) _ refl refl refl) λ e.
    let w = stop-within st.session.common in
    record {
      packets = filled d (stop_packets st.session.common) 2888 2 w (ltb-false (length d) 2888 e);
      buffer = refl;
      streams = omega (arith, w.streams);
    }

pub room-suffices : (st : State) (c : Call) → Roomy c (Session.step st c)
unfolding Session.step take_missing take_discontinuity take_stalled
room-suffices st (Begin now) = begin-roomy st now
room-suffices st (Pass now d) = pass-roomy st.samples now d st.session
room-suffices st (Arrival i d) = arrival-roomy i d st
room-suffices st (Take now buffer) = take-roomy st now buffer
room-suffices st (Close d) = close-roomy st d
room-suffices st TakeMissing = untouched TakeMissing _ refl refl refl
room-suffices st TakeDiscontinuity = untouched TakeDiscontinuity _ refl refl refl
room-suffices st TakeStalled = untouched TakeStalled _ refl refl refl
