-- Arrival: malformed, ignored, status or valid I/Q. Definitions only.
use Rattle.std.specs.Prelude.{ℕ, ◌+◌, min, List, [], ◌∷◌, nat_le, Option, Some, None}
use Rattle.attenuator.specs.declared.Controller.{Controller}
use Rattle.base.specs.Pick.{pick}
use Rattle.base.specs.Rows.{unless}
use Rattle.base.specs.Told.{Told, gives, refused}
use Rattle.iq.specs.Iq.{samples_of}
use Rattle.wire.specs.Status.{overload_told, overloaded}
use Rattle.sequence.specs.declared.SeqEvent.{SeqEvent}
use Rattle.attenuator.specs.Controller as Controller
use Rattle.health.specs.Counters.{count_malformed}
use Rattle.health.specs.declared.InputHealthCounters.{InputHealthCounters}
use Rattle.model.specs.Answer.{Answer, done, heard, ignored, status, malformed, malformed_limit}
use Rattle.model.specs.Rules.{missing_of, is_stale}
use Rattle.model.specs.Routing.{Routed, routed}
use Rattle.model.specs.Routing as Routing
use Rattle.model.specs.Host.{Incoming, Step}
use Rattle.model.specs.State.{State, at_reading, replied, refuse, keeping}
use Rattle.model.specs.Table.{arrival_rows}
use Rattle.model.specs.Sending.{stepped, wrote}
use Rattle.model.specs.Pass.{shut}
use Rattle.model.specs.Parts.{with_common, with_receiver, with_consecutive_malformed, with_health}
use Rattle.model.specs.declared.session.Common.{Common}
use Rattle.model.specs.declared.session.Session.{Session}
use Rattle.model.specs.Hearing.{event_of, restart_of, left_out, accepted_by, counted}

-- ---- the session, of which every refusal was tested and the last reading is the later one

-- nothing was written
abbrev pub without_packets : Answer → List ℕ → Session → Step Session
without_packets answer d s = replied answer [] d [] s

-- valid I/Q zeroes the malformed count
abbrev pub heard_common : InputHealthCounters → Common → Common
heard_common health c = with_consecutive_malformed (with_health c health) 0

-- Stale leaves the lent samples as they were; any other event puts the datagram's there
unfoldable pub hear : State → Incoming → List ℕ → ℕ → SeqEvent → ℕ → Step State
hear st i d count event missing =
    let s = st.session in
    pick (is_stale event)
    (keeping st.samples (without_packets (heard event missing) d
    (record { common = heard_common (counted event s.common.health) s.common; receiver = left_out s.receiver i.now count })))
    (keeping (samples_of i.octets) (without_packets (heard event missing) d
    (record {
      common = heard_common (counted event s.common.health) s.common;
      receiver = accepted_by s.common.settings.sample_rate_hz s.receiver i.now count event missing;
    })))

-- the arrival of the number count: its event, and its missing
unfoldable pub heard_as : State → Incoming → List ℕ → ℕ → SeqEvent → Step State
heard_as st i d count event =
    hear st i d count event (missing_of event (restart_of st.session.common.settings.sample_rate_hz (left_out st.session.receiver i.now count) i.now i.later i.waiting))

unfoldable pub heard_iq : State → Incoming → List ℕ → ℕ → Step State
heard_iq st i d count =
    heard_as st i d count (event_of st.session.common.settings.sample_rate_hz st.session.receiver i.now count)

-- a status packet: with attenuation on and 60 octets long the controller hears its overload bit at the arrival's reading, and a
-- step up writes its packet, whose clock takes the later reading; else it is ignored
unfoldable pub overload : Session → Incoming → List ℕ → Option Controller → Told → Step Session
overload s i d None bits = without_packets (done ignored) d s
overload s i d (Some controller) (gives []) = without_packets (done ignored) d s
overload s i d (Some controller) (gives (bits ∷ vs)) =
    wrote (done status) s d (stepped i.later (Controller.observed controller (overloaded bits) i.now) s.common)
overload s i d (Some controller) (refused k vs) = without_packets (done ignored) d s

unfoldable pub heard_status : Session → Incoming → List ℕ → Step Session
heard_status s i d = overload s i d s.common.attenuation (overload_told i.octets)

-- one more malformed: the consecutive count saturates
unfoldable pub with_one_more : Common → Common
with_one_more c =
    with_health (with_consecutive_malformed c (min (c.consecutive_malformed + 1) 4294967295)) (count_malformed c.health)

abbrev pub discarded : Session → List ℕ → Step Session
discarded s d = without_packets (done malformed) d (with_common s (with_one_more s.common))

-- the read closes
abbrev pub given_up : Session → List ℕ → Step Session
given_up s d = without_packets (done malformed_limit) d (with_receiver (with_common s (with_one_more s.common)) (shut s.receiver))

-- given up where the consecutive count is now the limit or more; a limit of 0 works like 1
unfoldable pub heard_malformed : Session → List ℕ → Step Session
heard_malformed s d =
    pick (nat_le s.common.settings.max_consecutive_malformed (with_one_more s.common).consecutive_malformed) (given_up s d) (discarded s d)

unfoldable pub arrived : State → Incoming → List ℕ → Routed → Step State
arrived st i d (Routing.iq count) = heard_iq st i d count
arrived st i d Routing.status = keeping st.samples (heard_status st.session i d)
arrived st i d Routing.ignored = keeping st.samples (without_packets (done ignored) d st.session)
arrived st i d Routing.malformed = keeping st.samples (heard_malformed st.session d)

-- the later reading becomes the last accepted one
abbrev pub at_later : State → ℕ → State
at_later st later = record { session = at_reading st.session later; samples = st.samples }

abbrev pub route : State → Incoming → Routed
route st i = routed st.session.common.settings.radio_ip st.session.common.settings.port i.from i.octets

-- where no row applies
abbrev pub arrival_accepted : State → Incoming → List ℕ → Step State
arrival_accepted st i d = arrived (at_later st i.later) i d (route st i)

unfoldable pub arrival : State → Incoming → List ℕ → Step State
arrival st i d = unless (arrival_rows st.session i d) (λ k. refuse k d [] st) (arrival_accepted st i d)
