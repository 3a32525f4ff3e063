-- The whole state of a session: its control, and the samples that are lent beside it. What of it the calls ask. Definitions only.
use Rattle.std.specs.Prelude.{ℕ, ◌-◌, ◌*◌, max, Bool, not, ◌||◌, List, [], drop, nat_lt, Float, is_some}
use Rattle.std.specs.Option.{unwrap_or}
use Rattle.stream.specs.Size.{per_datagram}
use Rattle.model.specs.Answer.{Answer, refused}
use Rattle.model.specs.Sample.{Sample, pairs}
use Rattle.model.specs.Host.{Step}
use Rattle.model.specs.Parts.{with_common, with_last_reading}
use Rattle.model.specs.declared.receiver.Receiver.{Receiver}
use Rattle.model.specs.declared.session.Session.{Session}

pub record State : Type 0 where
  pub session : Session
  pub samples : List Float

-- ---- a receiver

-- how many samples wait
unfoldable pub left : Receiver → ℕ
left r = per_datagram - r.queue_pos

unfoldable pub waits : Receiver → Bool
waits r = nat_lt 0 (left r)

-- the samples that wait: the lent places from the queue's position to their end
unfoldable pub waiting_in : Receiver → List Float → List Sample
waiting_in r samples = pairs (drop (2 * r.queue_pos) samples)

-- a read is open where it has its anchor
abbrev pub is_open : Receiver → Bool
is_open r = is_some r.reading.entered

-- when quiet began: at the last valid I/Q datagram or at the read's anchor, whichever is later
unfoldable pub quiet_since_of : Receiver → ℕ
quiet_since_of r = max r.last_valid_iq (unwrap_or r.reading.entered 0)

-- ---- refusals

-- 10 of Pass, Arrival and Take: the session is closed or has no open read
abbrev pub not_reading : Session → Bool
not_reading s = s.common.closed || not (is_open s.receiver)

-- 10 of Begin: the session is closed or has an open read
abbrev pub not_idle : Session → Bool
not_idle s = s.common.closed || is_open s.receiver

-- 11: the reading is lower than the last one that was accepted
abbrev pub fell : Session → ℕ → Bool
fell s now = nat_lt now s.common.last_reading

-- ---- what a call gives

-- this reading becomes the last accepted one
abbrev pub at_reading : Session → ℕ → Session
at_reading s now = with_common s (with_last_reading s.common now)

abbrev pub replied : {S : Type 0} → Answer → List ℕ → List ℕ → List Float → S → Step S
replied answer streams packets buffer s =
    record { reply = record { answer = answer; streams = streams; packets = packets; buffer = buffer }; state = s }

-- a refusal changes nothing: the state and every lent buffer are as they were
abbrev pub refuse : {S : Type 0} → ℕ → List ℕ → List Float → S → Step S
refuse number packets buffer s = replied (refused number) [] packets buffer s

-- a call that is not lent the samples keeps them
abbrev pub keeping : List Float → Step Session → Step State
keeping samples x = record { reply = x.reply; state = record { session = x.state; samples = samples } }
