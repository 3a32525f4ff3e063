-- Keepalives, stalls and steps over a list of calls from a session just opened: what each call is to list, and what a Pass is to tell,
-- worked out from the calls and what their answers tell of the stream. A single claim, about any host. Definitions only.
use Rattle.std.specs.Prelude.{◌≡◌, ℕ, ◌-◌, max, Bool, true, false, ◌&&◌, T, List, [], ◌∷◌, ◌++◌, nat_le, nat_lt, Option, Some, None}
use Rattle.std.specs.Option.{unwrap_or}
use Rattle.attenuator.specs.declared.Controller.{Controller}
use Rattle.base.specs.Pick.{pick}
use Rattle.base.specs.Told.{Told, gives, refused}
use Rattle.stream.specs.Size.{per_datagram}
use Rattle.wire.specs.Status.{overload_told, overloaded}
use Rattle.sequence.specs.declared.SeqEvent.{SeqEvent}
use Rattle.attenuator.specs.Controller as Controller
use Rattle.attenuator.specs.declared.AttenuationStep.{AttenuationStep}
use Rattle.attenuator.specs.Controller.{Stepped}
use Rattle.model.specs.Answer.{ready, soft_stall, hard_stall, sent, done, Tells, tells}
use Rattle.wire.specs.Command.{offset_of}
use Rattle.model.specs.Rules.{is_stale}
use Rattle.model.specs.Routing.{Routed, iq, status, ignored, malformed, routed}
use Rattle.model.specs.Settings.{accepts, attenuates}
use Rattle.model.specs.Host.{Incoming, Call, Begin, Pass, Arrival, Take, Close, TakeMissing, TakeDiscontinuity, TakeStalled, Reply, Host, trace}
use Rattle.model.specs.Sending.{high_every, rx_tx_every, general_every}
use Rattle.model.specs.Begin.{or_at}
use Rattle.model.specs.Open.{attenuation_at}
use Rattle.wire.specs.declared.command.Stream.TheVariants.{General, RxSpecific, TxSpecific, HighPriority}
use Rattle.model.specs.declared.session.Clocks.{Clocks}
use Rattle.model.specs.declared.settings.Settings.{Settings}

-- ---- what is watched

-- when packets of each stream were last due, or a step's was written; the attenuator; when the last valid I/Q datagram came; since
-- when datagrams are waited for, and this read's anchor; delivering; how many samples wait
pub record Watch : Type 0 where
  pub clocks : Clocks
  pub attenuation : Option Controller
  pub valid : ℕ
  pub wait : Option ℕ
  pub anchor : ℕ
  pub delivering : Bool
  pub waiting : ℕ

-- at the opening reading
abbrev pub woken : Settings → ℕ → Watch
woken s now =
    record {
      clocks = record { high_priority = now; rx_tx_specific = now; general = now };
      attenuation = attenuation_at (attenuates s) now;
      valid = now;
      wait = None;
      anchor = 0;
      delivering = false;
      waiting = 0;
    }

-- ---- when something is due

-- so many nanoseconds have passed since then
abbrev pub passed : ℕ → ℕ → ℕ → Bool
passed time since now = nat_le time (now - since)

abbrev pub high_due : Clocks → ℕ → Bool
high_due k now = passed high_every k.high_priority now

abbrev pub rx_tx_due : Clocks → ℕ → Bool
rx_tx_due k now = passed rx_tx_every k.rx_tx_specific now

abbrev pub general_due : Clocks → ℕ → Bool
general_due k now = passed general_every k.general now

-- the later of the last valid I/Q datagram and this read's anchor
abbrev pub quiet_from : Watch → ℕ
quiet_from w = max w.valid w.anchor

abbrev pub soft_due : Settings → Watch → ℕ → Bool
soft_due s w now = w.delivering && nat_lt s.soft_after s.stall_after && passed s.soft_after (quiet_from w) now

abbrev pub hard_due : Settings → Watch → ℕ → Bool
hard_due s w now = passed s.stall_after (quiet_from w) now

-- the first of these that applies to a Pass: samples wait, a soft stall, a hard one, the packets that are due
abbrev pub by_pass : {A : Type 0} → Settings → Watch → ℕ → A → A → A → A → A
by_pass s w now waits soft hard packets = pick (nat_lt 0 w.waiting) waits (pick (soft_due s w now) soft (pick (hard_due s w now) hard packets))

-- ---- the attenuator's step, and the attenuator after it

pub record Turn : Type 0 where
  pub step : Option AttenuationStep
  pub attenuation : Option Controller

abbrev pub turned : Stepped → Turn
turned s = record { step = s.step; attenuation = Some s.controller }

abbrev pub unturned : Option Controller → Turn
unturned a = record { step = None; attenuation = a }

-- at a Pass that reaches the packets
abbrev pub ticking : Option Controller → ℕ → Turn
ticking None now = unturned None
ticking (Some controller) now = turned (Controller.ticked controller now)

-- at a status packet, by its overload bits
abbrev pub hearing : Option Controller → Told → ℕ → Turn
hearing None bits now = unturned None
hearing (Some controller) (gives []) now = unturned (Some controller)
hearing (Some controller) (gives (bits ∷ vs)) now = turned (Controller.observed controller (overloaded bits) now)
hearing (Some controller) (refused k vs) now = unturned (Some controller)

-- ---- what a call is to list

abbrev pub is_step : Option AttenuationStep → Bool
is_step None = false
is_step (Some s) = true

-- a step's high priority packet
abbrev pub step_streams : Turn → List ℕ
step_streams t = pick (is_step t.step) (offset_of HighPriority ∷ []) []

-- the keepalives whose interval has passed, in order, then a step's packet
abbrev pub due_streams : Watch → ℕ → List ℕ
due_streams w now =
    (pick (high_due w.clocks now) (offset_of HighPriority ∷ []) []
    ++ (pick (rx_tx_due w.clocks now) (offset_of RxSpecific ∷ offset_of TxSpecific ∷ []) []
    ++ pick (general_due w.clocks now) (offset_of General ∷ []) []))
    ++ step_streams (ticking w.attenuation now)

abbrev pub route_in : Settings → Incoming → Routed
route_in s i = routed s.radio_ip s.port i.from i.octets

abbrev pub heard_streams : Watch → Incoming → Routed → List ℕ
heard_streams w i (iq count) = []
heard_streams w i status = step_streams (hearing w.attenuation (overload_told i.octets) i.now)
heard_streams w i ignored = []
heard_streams w i malformed = []

-- Close turns run off, by two high priority packets
abbrev pub to_list : Settings → Watch → Call → List ℕ
to_list s w (Begin now) = []
to_list s w (Pass now packets) = by_pass s w now [] [] [] (due_streams w now)
to_list s w (Arrival i packets) = heard_streams w i (route_in s i)
to_list s w (Take now buffer) = []
to_list s w (Close packets) = offset_of HighPriority ∷ offset_of HighPriority ∷ []
to_list s w TakeMissing = []
to_list s w TakeDiscontinuity = []
to_list s w TakeStalled = []

-- ---- the watch after a call, by what its answer tells of the stream: whether it was refused, the event, and the pairs handed out

-- a step's packet restarts the 100 ms
abbrev pub step_clocks : Clocks → Turn → ℕ → Clocks
step_clocks k t now = record { high_priority = pick (is_step t.step) now k.high_priority; rx_tx_specific = k.rx_tx_specific; general = k.general }

abbrev pub due_clocks : Clocks → ℕ → Clocks
due_clocks k now =
    record {
      high_priority = pick (high_due k now) now k.high_priority;
      rx_tx_specific = pick (rx_tx_due k now) now k.rx_tx_specific;
      general = pick (general_due k now) now k.general;
    }

abbrev pub stepping : Watch → Clocks → Turn → ℕ → Watch
stepping w k t now =
    record {
      clocks = step_clocks k t now;
      attenuation = t.attenuation;
      valid = w.valid;
      wait = w.wait;
      anchor = w.anchor;
      delivering = w.delivering;
      waiting = w.waiting;
    }

-- an empty wait anchor becomes this reading, and the read takes it over
abbrev pub reading : Watch → ℕ → Watch
reading w now =
    record {
      clocks = w.clocks;
      attenuation = w.attenuation;
      valid = w.valid;
      wait = or_at w.wait now;
      anchor = unwrap_or (or_at w.wait now) 0;
      delivering = w.delivering;
      waiting = w.waiting;
    }

-- delivering, and how many samples wait
abbrev pub serving : Watch → Bool → ℕ → Watch
serving w delivering waiting =
    record {
      clocks = w.clocks;
      attenuation = w.attenuation;
      valid = w.valid;
      wait = w.wait;
      anchor = w.anchor;
      delivering = delivering;
      waiting = waiting;
    }

-- a stale datagram brings no samples
abbrev pub samples_after : Watch → Option SeqEvent → ℕ
samples_after w None = w.waiting
samples_after w (Some event) = pick (is_stale event) w.waiting per_datagram

-- valid I/Q: its reading, an empty wait anchor, and its samples
abbrev pub hearing_iq : Watch → ℕ → Option SeqEvent → Watch
hearing_iq w now event =
    record {
      clocks = w.clocks;
      attenuation = w.attenuation;
      valid = now;
      wait = None;
      anchor = w.anchor;
      delivering = w.delivering;
      waiting = samples_after w event;
    }

abbrev pub watched_route : Watch → Incoming → Option SeqEvent → Routed → Watch
watched_route w i event (iq count) = hearing_iq w i.now event
watched_route w i event status = stepping w w.clocks (hearing w.attenuation (overload_told i.octets) i.now) i.later
watched_route w i event ignored = w
watched_route w i event malformed = w

abbrev pub watched_call : Settings → Watch → Call → Tells → Watch
watched_call s w (Begin now) a = reading w now
watched_call s w (Pass now packets) a =
    by_pass s w now w (serving w false w.waiting) w (stepping w (due_clocks w.clocks now) (ticking w.attenuation now) now)
watched_call s w (Arrival i packets) a = watched_route w i a.event (route_in s i)
watched_call s w (Take now buffer) a = serving w true (w.waiting - a.handed)
watched_call s w (Close packets) a = w
watched_call s w TakeMissing a = w
watched_call s w TakeDiscontinuity a = w
watched_call s w TakeStalled a = w

-- a refused call changes nothing
abbrev pub watched : Settings → Watch → Call → Tells → Watch
watched s w c a = pick a.refusal w (watched_call s w c a)

-- ---- the claim

abbrev pub TellsRight : Settings → Watch → Call → Reply → Type 0
TellsRight s w (Pass now packets) r = r.answer ≡ done (by_pass s w now ready soft_stall hard_stall sent)
TellsRight s w (Begin now) r = Unit {0}
TellsRight s w (Arrival i packets) r = Unit {0}
TellsRight s w (Take now buffer) r = Unit {0}
TellsRight s w (Close packets) r = Unit {0}
TellsRight s w TakeMissing r = Unit {0}
TellsRight s w TakeDiscontinuity r = Unit {0}
TellsRight s w TakeStalled r = Unit {0}

-- a call lists what is due and nothing else, and a Pass tells a stall exactly where its time has passed; a refused call lists nothing
pub record OnTime (s : Settings) (w : Watch) (c : Call) (r : Reply) : Type 0 where
  pub lists : r.streams ≡ pick (tells r.answer).refusal [] (to_list s w c)
  pub right : (tells r.answer).refusal ≡ false → TellsRight s w c r

abbrev pub AllOnTime : Settings → Watch → List Call → List Reply → Type 0
AllOnTime s w [] rs = Unit {0}
AllOnTime s w (c ∷ cs) [] = Unit {0}
AllOnTime s w (c ∷ cs) (r ∷ rs) = OnTime s w c r × AllOnTime s (watched s w c (tells r.answer)) cs rs

-- of all accepted settings, opening readings and lists of calls
abbrev pub Timely : Host → Type 0
Timely h = (s : Settings) (now : ℕ) (calls : List Call) → T (accepts s) → AllOnTime s (woken s now) calls (trace h (h.opened s now) calls)
