-- 01's table of refusals, with the row of request 2026-01: the rows of the settings and of each call, in order, each with its number
-- and its test. Definitions only.
use Rattle.std.specs.Prelude.{ℕ, not, List, [], ◌∷◌, length, ◌==◌, nat_lt, Float, Option, Some, None}
use Rattle.base.specs.Rows.{Row, row}
use Rattle.base.specs.Told.{Told, gives}
use Rattle.stream.specs.Size.{max_buffered}
use Rattle.tuning.specs.Centre.{whole_centre, below_nyquist}
use Rattle.tuning.specs.Rate.{is_rate}
use Rattle.model.specs.Answer.{Answer, refused, done, heard, took, slot, flag}
use Rattle.model.specs.Host.{Incoming, Call, Begin, Pass, Arrival, Take, Close, TakeMissing, TakeDiscontinuity, TakeStalled}
use Rattle.model.specs.State.{State, waits, not_reading, not_idle, fell}
use Rattle.model.specs.declared.session.Session.{Session}
use Rattle.model.specs.declared.settings.Settings.{Settings}

-- validate_protocol2
abbrev pub settings_rows : Settings → List Row
settings_rows s =
    -- the receiver count is not 1
    row 1 (not (s.ddc_count == 1))
    -- the number of centres is not 1
    ∷ row 2 (not (s.center_count == 1))
    -- the rate is none of those in tuning's Rate
    ∷ row 3 (not (is_rate s.sample_rate_hz))
    -- the centre is a NaN or an infinity, is 0 or below, or has a fraction
    ∷ row 4 (not (whole_centre s.center_freq_hz))
    -- the centre is 61,440,000 Hz or higher
    ∷ row 5 (not (below_nyquist s.center_freq_hz))
    -- the port is 0, which is what an empty field gives (2026-01)
    ∷ row 19 (s.port == 0)
    -- the port is above 65,524
    ∷ row 6 (nat_lt 65524 s.port)
    ∷ []

-- ---- the calls: 10 where a call may not come now, 11 where its reading fell, then what is the call's own

abbrev pub begin_rows : Session → ℕ → List Row
begin_rows s now = row 10 (not_idle s) ∷ row 11 (fell s now) ∷ []

abbrev pub pass_rows : Session → ℕ → List ℕ → List Row
pass_rows s now packets =
    row 10 (not_reading s)
    ∷ row 11 (fell s now)
    -- the room that its packets could need
    ∷ row 15 (nat_lt (length packets) 4452)
    ∷ []

abbrev pub arrival_rows : Session → Incoming → List ℕ → List Row
arrival_rows s i packets =
    row 10 (not_reading s)
    ∷ row 11 (fell s i.now)
    -- samples still wait
    ∷ row 12 (waits s.receiver)
    -- the later reading is below the arrival's
    ∷ row 13 (nat_lt i.later i.now)
    -- too many numbers wait
    ∷ row 14 (nat_lt max_buffered (length i.waiting))
    ∷ row 15 (nat_lt (length packets) 1444)
    ∷ []

abbrev pub take_rows : Session → ℕ → List Float → List Row
take_rows s now buffer =
    row 10 (not_reading s)
    ∷ row 11 (fell s now)
    -- no room for a pair
    ∷ row 16 (nat_lt (length buffer) 2)
    -- no sample waits
    ∷ row 17 (not (waits s.receiver))
    ∷ []

abbrev pub close_rows : Session → List ℕ → List Row
close_rows s packets = row 10 s.common.closed ∷ row 15 (nat_lt (length packets) 2888) ∷ []

-- the drains have none
abbrev pub rows_of : State → Call → List Row
rows_of st (Begin now) = begin_rows st.session now
rows_of st (Pass now packets) = pass_rows st.session now packets
rows_of st (Arrival i packets) = arrival_rows st.session i packets
rows_of st (Take now buffer) = take_rows st.session now buffer
rows_of st (Close packets) = close_rows st.session packets
rows_of st TakeMissing = []
rows_of st TakeDiscontinuity = []
rows_of st TakeStalled = []

-- ---- the number that an answer is a refusal by

abbrev pub refusal_of : Answer → Option ℕ
refusal_of (refused number) = Some number
refusal_of (done word) = None
refusal_of (heard event missing) = None
refusal_of (took pairs) = None
refusal_of (slot held) = None
refusal_of (flag stalled) = None

abbrev pub refusal_in : Told → Option ℕ
refusal_in (gives vs) = None
refusal_in (Told.refused k vs) = Some k
