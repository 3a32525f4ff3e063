-- Counters and slots over a list of calls from a session just opened: what was told adds up to what is counted, drained and pending.
-- What is claimed of the session. Definitions only.
use Rattle.std.specs.Prelude.{◌≡◌, ℕ, ◌+◌, ◌*◌, ◌%◌, ◌^◌, ◌<◌, Bool, true, false, T, List, [], ◌∷◌, Float}
use Rattle.std.specs.Option.{unwrap_or}
use Rattle.base.specs.Pick.{pick}
use Rattle.stream.specs.Size.{per_datagram}
use Rattle.stream.specs.Elapsed.{below_half}
use Rattle.sequence.specs.declared.SeqEvent.{SeqEvent}
use Rattle.sequence.specs.declared.SeqEvent.TheVariants.{InOrder, Gap, Stale, Restart}
use Rattle.health.specs.Counters.{loss_total}
use Rattle.model.specs.Answer.{Word, begun, ready, soft_stall, hard_stall, sent, ignored, status, malformed, malformed_limit, closed, Answer, refused, done, heard, took, slot, flag}
use Rattle.model.specs.Settings.{accepts}
use Rattle.model.specs.Host.{Call, Begin, Pass, Arrival, Take, Close, TakeMissing, TakeDiscontinuity, TakeStalled, Reply, trace, final}
use Rattle.model.specs.Session.{opened_with, session}
use Rattle.model.specs.declared.session.Session.{Session}
use Rattle.model.specs.declared.settings.Settings.{Settings}

-- ---- what an answer tells, as numbers

-- k of a gap k
abbrev pub dropped_in : SeqEvent → ℕ
dropped_in InOrder = 0
dropped_in (Gap k) = k
dropped_in Stale = 0
dropped_in Restart = 0

-- a gap and a restart are one gap each
abbrev pub gap_in : SeqEvent → ℕ
gap_in InOrder = 0
gap_in (Gap k) = 1
gap_in Stale = 0
gap_in Restart = 1

-- malformed, also where the limit is reached
abbrev pub malformed_in : Word → ℕ
malformed_in begun = 0
malformed_in ready = 0
malformed_in soft_stall = 0
malformed_in hard_stall = 0
malformed_in sent = 0
malformed_in ignored = 0
malformed_in status = 0
malformed_in malformed = 1
malformed_in malformed_limit = 1
malformed_in closed = 0

-- of the missing of an arrival, what goes to pending_missing: a gap's that is below half the rate
abbrev pub is_small : Float → SeqEvent → ℕ → Bool
is_small rate InOrder missing = false
is_small rate (Gap k) missing = below_half missing rate
is_small rate Stale missing = false
is_small rate Restart missing = false

-- an answer's number by its event and missing, or by its word; every other answer's is 0
abbrev pub number_by : (SeqEvent → ℕ → ℕ) → (Word → ℕ) → Answer → ℕ
number_by by_event by_word (heard event missing) = by_event event missing
number_by by_event by_word (done word) = by_word word
number_by by_event by_word (refused number) = 0
number_by by_event by_word (took pairs) = 0
number_by by_event by_word (slot held) = 0
number_by by_event by_word (flag stalled) = 0

abbrev pub dropped_by : Answer → ℕ
dropped_by = number_by (λ event missing. dropped_in event) (λ word. 0)

abbrev pub gap_by : Answer → ℕ
gap_by = number_by (λ event missing. gap_in event) (λ word. 0)

abbrev pub malformed_by : Answer → ℕ
malformed_by = number_by (λ event missing. 0) malformed_in

-- by slot: all missing that does not go to pending_missing goes to pending_discontinuity
abbrev pub to_missing : Float → Answer → ℕ
to_missing rate = number_by (λ event missing. pick (is_small rate event missing) missing 0) (λ word. 0)

abbrev pub to_discontinuity : Float → Answer → ℕ
to_discontinuity rate = number_by (λ event missing. pick (is_small rate event missing) 0 missing) (λ word. 0)

-- the sum over a list
abbrev pub total : (Answer → ℕ) → List Reply → ℕ
total f [] = 0
total f (r ∷ rs) = f r.answer + total f rs

-- ---- what the drains returned

abbrev pub held_by : Answer → ℕ
held_by (slot held) = unwrap_or held 0
held_by (refused number) = 0
held_by (done word) = 0
held_by (heard event missing) = 0
held_by (took pairs) = 0
held_by (flag stalled) = 0

-- the calls that drain a slot
abbrev pub drains_missing : Call → Bool
drains_missing TakeMissing = true
drains_missing TakeDiscontinuity = false
drains_missing TakeStalled = false
drains_missing (Begin now) = false
drains_missing (Pass now packets) = false
drains_missing (Arrival i packets) = false
drains_missing (Take now buffer) = false
drains_missing (Close packets) = false

abbrev pub drains_discontinuity : Call → Bool
drains_discontinuity TakeDiscontinuity = true
drains_discontinuity TakeMissing = false
drains_discontinuity TakeStalled = false
drains_discontinuity (Begin now) = false
drains_discontinuity (Pass now packets) = false
drains_discontinuity (Arrival i packets) = false
drains_discontinuity (Take now buffer) = false
drains_discontinuity (Close packets) = false

abbrev pub drained : (Call → Bool) → List Call → List Reply → ℕ
drained p [] rs = 0
drained p (c ∷ cs) [] = 0
drained p (c ∷ cs) (r ∷ rs) = pick (p c) (held_by r.answer) 0 + drained p cs rs

-- ---- the claim

-- of calls, what they got back, and the session after them. Slots saturate: what is claimed of them is for a sum below 2^64
pub record Counted (s : Settings) (calls : List Call) (replies : List Reply) (after : Session) : Type 0 where
  pub dropped : after.common.health.dropped_packets ≡ total dropped_by replies % 2 ^ 64
  pub gaps : after.common.health.gaps_detected ≡ total gap_by replies % 2 ^ 64
  pub malformed : after.common.health.malformed_packets ≡ total malformed_by replies % 2 ^ 64
  pub loss : loss_total after.common.health ≡ per_datagram * total dropped_by replies % 2 ^ 64
  pub missing : total (to_missing s.sample_rate_hz) replies < 2 ^ 64 →
      drained drains_missing calls replies + unwrap_or after.receiver.pending.missing 0 ≡ total (to_missing s.sample_rate_hz) replies
  pub discontinuity : total (to_discontinuity s.sample_rate_hz) replies < 2 ^ 64 →
      drained drains_discontinuity calls replies + unwrap_or after.receiver.pending.discontinuity 0 ≡ total (to_discontinuity s.sample_rate_hz) replies

-- of all accepted settings, opening readings and lists of calls
abbrev pub Counts : List Float → Type 0
Counts samples =
    (s : Settings) (now : ℕ) (calls : List Call) → T (accepts s) →
    Counted s calls (trace (session samples) (opened_with samples s now) calls) (final (session samples) (opened_with samples s now) calls).session
