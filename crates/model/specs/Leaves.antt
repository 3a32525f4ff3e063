-- What each call leaves as it was: the state after a call that is not refused is the one before it with these parts changed, and no
-- others. What is claimed of every state and call. Definitions only.
use Rattle.std.specs.Prelude.{◌≡◌, ℕ, true, List, [], ◌∷◌, None}
use Rattle.base.specs.Rows.{unless}
use Rattle.stall.specs.Episode.{delivered, taken}
use Rattle.model.specs.Host.{Call, Begin, Pass, Arrival, Take, Close, TakeMissing, TakeDiscontinuity, TakeStalled}
use Rattle.model.specs.State.{State, at_reading}
use Rattle.model.specs.Table.{rows_of}
use Rattle.model.specs.Routing.{Routed, iq, status, ignored, malformed}
use Rattle.model.specs.Sending.{raised}
use Rattle.model.specs.Arrival.{route}
use Rattle.model.specs.Pass.{shut}
use Rattle.model.specs.Parts.{with_wait_entered, with_entered, with_missing, with_discontinuity, with_queue_pos, with_reading, with_parked, with_pending, with_read_returned, with_stall, with_seq, with_clocks, with_attenuation, with_health, with_consecutive_malformed, with_closed, with_common, with_receiver}
use Rattle.model.specs.declared.receiver.Receiver.{Receiver}
use Rattle.model.specs.declared.session.Common.{Common}
use Rattle.model.specs.declared.session.Session.{Session}

-- ---- the last accepted reading

-- a call's own reading, for Arrival the later one; Close and the drains have none
abbrev pub reading_of : ℕ → Call → ℕ
reading_of last (Begin now) = now
reading_of last (Pass now packets) = now
reading_of last (Arrival i packets) = i.later
reading_of last (Take now buffer) = now
reading_of last (Close packets) = last
reading_of last TakeMissing = last
reading_of last TakeDiscontinuity = last
reading_of last TakeStalled = last

-- after a refusal it is the one before it
abbrev pub reading_after : State → Call → ℕ
reading_after st c =
    unless (rows_of st c) (λ k. st.session.common.last_reading) (reading_of st.session.common.last_reading c)

-- the state in which it is stored
abbrev pub stored : State → Call → State
stored st c = record { session = at_reading st.session (reading_of st.session.common.last_reading c); samples = st.samples }

-- ---- the other parts: `s` is the session with its reading stored, `t` what stands after the call

-- a stream's count rises by one, modulo 2^32, for each packet of it that is listed, and the others stay
abbrev pub counts_after : List ℕ → List ℕ → List ℕ
counts_after counts [] = counts
counts_after counts (k ∷ ks) = counts_after (raised counts k) ks

-- packets move counts and clocks, and a step the attenuator
abbrev pub sent_from : Common → Common → Common
sent_from c t = with_attenuation (with_clocks (with_seq c t.seq) t.clocks) t.attenuation

-- the read's own anchor
abbrev pub entered_as : Receiver → Receiver → Receiver
entered_as r t = with_reading r (with_entered r.reading t.reading.entered)

-- both anchors and the window
abbrev pub by_begin : Session → Session → Session
by_begin s t = with_receiver s (with_parked (with_reading s.receiver t.receiver.reading) t.receiver.parked)

-- packets; the read's own anchor, delivering and the stall flag
abbrev pub by_pass : Session → Session → Session
by_pass s t =
    record {
      common = sent_from s.common t.common;
      receiver = with_stall (entered_as s.receiver t.receiver) t.receiver.stall;
    }

-- valid I/Q: all of a receiver but its read's own anchor, the Take's time, delivering and the stall flag, and its wait anchor is
-- empty; the counts; the malformed run is 0
abbrev pub by_iq : Session → Session → Session
by_iq s t =
    let r = s.receiver in
    record {
      common = with_consecutive_malformed (with_health s.common t.common.health) 0;
      receiver = with_reading (with_stall (with_read_returned t.receiver r.read_returned) r.stall) (with_wait_entered r.reading None);
    }

-- a status packet: packets
abbrev pub by_status : Session → Session → Session
by_status s t = with_common s (sent_from s.common t.common)

-- a malformed datagram: the counts, the malformed run and the read's own anchor
abbrev pub by_malformed : Session → Session → Session
by_malformed s t =
    record {
      common = with_consecutive_malformed (with_health s.common t.common.health) t.common.consecutive_malformed;
      receiver = entered_as s.receiver t.receiver;
    }

-- the queue's position, the read's own anchor, which is then empty, the Take's time and delivering
abbrev pub by_take : Session → ℕ → Session → Session
by_take s now t =
    let r = s.receiver in
    with_receiver s (with_stall (with_read_returned (with_queue_pos (shut r) t.receiver.queue_pos) now) (delivered r.stall))

-- the counts of the streams, and that it is closed
abbrev pub by_close : Session → Session → Session
by_close s t = with_common s (with_closed (with_seq s.common t.common.seq) true)

-- the samples are as they were
abbrev pub control : State → Session → State
control st s = record { session = s; samples = st.samples }

-- valid I/Q brings samples; one that is ignored changes nothing more
abbrev pub by_arrival : State → Routed → State → State
by_arrival st (iq count) t = record { session = by_iq st.session t.session; samples = t.samples }
by_arrival st status t = control st (by_status st.session t.session)
by_arrival st ignored t = st
by_arrival st malformed t = control st (by_malformed st.session t.session)

abbrev pub by_call : State → Call → State → State
by_call st (Begin now) t = control st (by_begin st.session t.session)
by_call st (Pass now packets) t = control st (by_pass st.session t.session)
by_call st (Arrival i packets) t = by_arrival st (route st i) t
by_call st (Take now buffer) t = control st (by_take st.session now t.session)
by_call st (Close packets) t = control st (by_close st.session t.session)
by_call st TakeMissing t =
    let r = st.session.receiver in
    control st (with_receiver st.session (with_pending r (with_missing r.pending None)))
by_call st TakeDiscontinuity t =
    let r = st.session.receiver in
    control st (with_receiver st.session (with_pending r (with_discontinuity r.pending None)))
by_call st TakeStalled t =
    let r = st.session.receiver in
    control st (with_receiver st.session (with_stall r (taken r.stall).episode))

abbrev pub changed : State → Call → State → State
changed st c t = by_call (stored st c) c t

-- nothing but that changed
abbrev pub Leaves : State → Call → State → Type 0
Leaves st c t = t ≡ changed st c t

-- ---- over a list of calls

-- what Open made of the settings stays
pub record Fixed (st t : State) : Type 0 where
  pub settings : t.session.common.settings ≡ st.session.common.settings
  pub tuning : t.session.common.tuning ≡ st.session.common.tuning
