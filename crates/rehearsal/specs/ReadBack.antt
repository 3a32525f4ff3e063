-- What a session writes, the practice radio reads back, over a list of calls from a session just opened: every packet that a call lists
-- is accepted as its stream's, and the radio then keeps its count and the values that settings, call and attenuator give. What they are
-- is worked out from the calls and what their answers tell, as Timely does, and not from the session. A single claim, about any host.
-- Definitions only.
use Rattle.std.specs.Prelude.{ℕ, ◌<◌, min, Bool, true, false, ◌≡◌, List, [], ◌∷◌, ◌++◌, T, get_or}
use Rattle.base.specs.Pick.{pick}
use Rattle.base.specs.Told.{gives}
use Rattle.tuning.specs.Alex.{alex_words}
use Rattle.tuning.specs.Phase.{phase_word_of}
use Rattle.tuning.specs.Rate.{khz_of}
use Rattle.wire.specs.Command.{offset_of}
use Rattle.wire.specs.Status.{overload_told}
use Rattle.wire.specs.declared.command.Stream.{Stream}
use Rattle.wire.specs.declared.command.Stream.TheVariants.{General, RxSpecific, TxSpecific, HighPriority}
use Rattle.model.specs.Answer.{tells}
use Rattle.model.specs.Settings.{accepts}
use Rattle.model.specs.Host.{Incoming, Call, Begin, Pass, Arrival, Take, Close, TakeMissing, TakeDiscontinuity, TakeStalled, Reply, Host, trace}
use Rattle.model.specs.Routing.{Routed, iq, status, ignored, malformed}
use Rattle.model.specs.Sending.{level, raised}
use Rattle.model.specs.Timely.{Watch, woken, Turn, is_step, high_due, rx_tx_due, general_due, by_pass, ticking, hearing, route_in, watched}
use Rattle.model.specs.declared.settings.Settings.{Settings}
use Rattle.radio.specs.Answer.{Outcome, outcome}
use Rattle.radio.specs.State.{at_first, with_general, with_rx_specific, with_tx_specific, with_high_priority}
use Rattle.radio.specs.Listen.{cut, received, after}
use Rattle.radio.specs.declared.state.Radio.{Radio}

-- ---- what the packets of a call are to say

-- a packet's stream, its run bit and the attenuation in dB, which matter for high priority alone
pub record Said : Type 0 where
  pub stream : Stream
  pub run : Bool
  pub db : ℕ

abbrev pub said : Stream → Bool → ℕ → Said
said k run db = record { stream = k; run = run; db = db }

-- a step's packet has the new level
abbrev pub said_by_step : Turn → List Said
said_by_step t = pick (is_step t.step) (said HighPriority true (level t.attenuation) ∷ []) []

-- the keepalives that are due have the old one
abbrev pub said_when_due : Watch → ℕ → List Said
said_when_due w now =
    let db = level w.attenuation in
    (pick (high_due w.clocks now) (said HighPriority true db ∷ []) []
    ++ (pick (rx_tx_due w.clocks now) (said RxSpecific true db ∷ said TxSpecific true db ∷ []) []
    ++ pick (general_due w.clocks now) (said General true db ∷ []) []))
    ++ said_by_step (ticking w.attenuation now)

abbrev pub said_when_heard : Watch → Incoming → Routed → List Said
said_when_heard w i (iq count) = []
said_when_heard w i status = said_by_step (hearing w.attenuation (overload_told i.octets) i.now)
said_when_heard w i ignored = []
said_when_heard w i malformed = []

-- Close turns run off, by two high priority packets
abbrev pub to_say : Settings → Watch → Call → List Said
to_say s w (Begin now) = []
to_say s w (Pass now packets) = by_pass s w now [] [] [] (said_when_due w now)
to_say s w (Arrival i packets) = said_when_heard w i (route_in s i)
to_say s w (Take now buffer) = []
to_say s w (Close packets) = let db = level w.attenuation in said HighPriority false db ∷ said HighPriority false db ∷ []
to_say s w TakeMissing = []
to_say s w TakeDiscontinuity = []
to_say s w TakeStalled = []

-- a refused call says nothing
abbrev pub said_by : Settings → Watch → Call → Reply → List Said
said_by s w c r = pick (tells r.answer).refusal [] (to_say s w c)

-- ---- what the radio keeps after a packet: the stream's count, and each field that 01 names with the value of the settings

abbrev pub kept_of : Settings → ℕ → Bool → ℕ → Stream → Radio → Radio
kept_of s count run db General r = with_general r (record { seq = count; filter_enable = s.board.filter_enable })
kept_of s count run db RxSpecific r =
    with_rx_specific r (record { seq = count; adc_count = s.board.adc_count; rate_khz = khz_of s.sample_rate_hz })
kept_of s count run db TxSpecific r = with_tx_specific r (record { seq = count })
kept_of s count run db HighPriority r =
    let phase = phase_word_of s.center_freq_hz in
    let alex = alex_words s.board.scheme s.center_freq_hz in
    with_high_priority r
    (record { seq = count; run = run; ddc_phase = phase; duc_phase = phase; alex1 = alex.alex1; alex0 = alex.alex0; attenuation = min db 31 })

-- the counts say how many packets of each stream there were before
abbrev pub kept_after : Settings → List ℕ → Said → Radio → Radio
kept_after s counts x r = kept_of s (get_or counts (offset_of x.stream) 0) x.run x.db x.stream r

-- every packet is accepted
unfoldable pub outcomes : Settings → List ℕ → Radio → List Said → List Outcome
outcomes s counts r [] = []
outcomes s counts r (x ∷ xs) =
    outcome (gives []) (kept_after s counts x r) ∷ outcomes s (raised counts (offset_of x.stream)) (kept_after s counts x r) xs

abbrev pub counts_after : List ℕ → List Said → List ℕ
counts_after counts [] = counts
counts_after counts (x ∷ xs) = counts_after (raised counts (offset_of x.stream)) xs

-- ---- over a list of calls

-- what is to become of every packet
unfoldable pub all_said : Settings → Watch → List ℕ → Radio → List Call → List Reply → List Outcome
all_said s w counts r [] rs = []
all_said s w counts r (c ∷ cs) [] = []
all_said s w counts r (c ∷ cs) (x ∷ xs) =
    let now = outcomes s counts r (said_by s w c x) in
    now ++ all_said s (watched s w c (tells x.answer)) (counts_after counts (said_by s w c x)) (after r now) cs xs

-- what becomes of every packet that the replies list, where the radio reads them
unfoldable pub all_heard : Radio → List Reply → List Outcome
all_heard r [] = []
all_heard r (x ∷ xs) =
    let now = received r (cut x.streams x.packets) in
    now ++ all_heard (after r now) xs

-- the board's two octets, as the code's types have them
pub record OfOctets (s : Settings) : Type 0 where
  pub filters : s.board.filter_enable < 256
  pub adcs : s.board.adc_count < 256

-- of all accepted settings, opening readings and lists of calls
abbrev pub ReadBack : Host → Type 0
ReadBack h =
    (s : Settings) (now : ℕ) (calls : List Call) → T (accepts s) → OfOctets s →
    let replies = trace h (h.opened s now) calls in
    all_heard at_first replies ≡ all_said s (woken s now) (0 ∷ 0 ∷ 0 ∷ 0 ∷ []) at_first calls replies
