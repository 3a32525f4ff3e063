-- The book of 01, Demand 3 over a list of calls. Besides the settings and the opening reading it is told, of each call, which it
-- is and with what arguments, but not the session, and if it was refused. Definitions only.
use Rattle.std.specs.Prelude.{ℕ, ◌+◌, ◌*◌, Bool, true, false, cond, ℤ, pos, ◌+ℤ◌, ◌-ℤ◌, Option, Some, None}
use Rattle.model.specs.declared.receiver.Parked.{Parked}
use Rattle.stream.specs.Size.{per_datagram}
use Rattle.stream.specs.Elapsed.{jump_limit, restart_missing}
use Rattle.sequence.specs.Tracker.{past}
use Rattle.model.specs.Rules.{begun, used, elapsed, outage}
use Rattle.model.specs.Routing.{Routed, iq, status, ignored, malformed, routed}
use Rattle.model.specs.Host.{Incoming, Call, Begin, Pass, Arrival, Take, Close, TakeMissing, TakeDiscontinuity, TakeStalled}
use Rattle.account.specs.Whole.{count_of, ahead, fits, fits_below}
use Rattle.model.specs.declared.settings.Settings.{Settings}

-- ---- what a call is to the book

pub data News : Type 0 where
  Quiet : News
  Began : (now : ℕ) → News
  Took : (now : ℕ) → News
  -- a valid I/Q datagram with this count
  Came : (incoming : Incoming) (count : ℕ) → News

abbrev pub brought : Incoming → Routed → News
brought i (iq count) = Came i count
brought i status = Quiet
brought i ignored = Quiet
brought i malformed = Quiet

abbrev pub news_of : Settings → Call → News
news_of s (Begin now) = Began now
news_of s (Take now buffer) = Took now
news_of s (Arrival i packets) = brought i (routed s.radio_ip s.port i.from i.octets)
news_of s (Pass now packets) = Quiet
news_of s (Close packets) = Quiet
news_of s TakeMissing = Quiet
news_of s TakeDiscontinuity = Quiet
news_of s TakeStalled = Quiet

-- a refused call changes nothing
abbrev pub news : Settings → Call → Bool → News
news s c true = Quiet
news s c false = news_of s c

-- ---- the book

-- e, once a number is expected; the stale run; when an arrival was last accepted, and when the last Take was; the park window
pub record Book : Type 0 where
  pub expected : Option ℤ
  pub run : ℕ
  pub accepted_at : ℕ
  pub taken : ℕ
  pub window : Option Parked

-- before the first call: both times are the opening reading, and no window is open
abbrev pub blank : ℕ → Book
blank now = record { expected = None; run = 0; accepted_at = now; taken = now; window = None }

-- the jump limit for an arrival at `now`
abbrev pub limit_in : Settings → Book → ℕ → ℕ
limit_in s b now = jump_limit (elapsed s.sample_rate_hz b.accepted_at b.window now) s.sample_rate_hz

abbrev pub fit_in : Option ℤ → ℕ → ℕ → ℤ → Bool
fit_in None limit run n = true
fit_in (Some e) limit run n = fits limit run e n

-- the arrival of the number n at `now` fits; the first one does
abbrev pub fit : Settings → Book → ℕ → ℤ → Bool
fit s b now n = fit_in b.expected (limit_in s b now) b.run n

abbrev pub below_in : Option ℤ → ℕ → ℤ → Bool
below_in None run n = false
below_in (Some e) run n = fits_below run e n

-- it fits below e
abbrev pub late : Book → ℤ → Bool
late b n = below_in b.expected b.run n

-- what it misses as a restart
abbrev pub restart_in : Settings → Book → Incoming → ℤ → ℕ
restart_in s b i n =
    restart_missing (outage s.sample_rate_hz b.accepted_at b.window i.now i.later (past (count_of n)) i.waiting) s.sample_rate_hz

abbrev pub missing_in : Option ℤ → Bool → ℕ → ℤ → ℕ
missing_in None fit restart n = 0
missing_in (Some e) true restart n = per_datagram * ahead (n -ℤ e)
missing_in (Some e) false restart n = restart

-- what it misses
abbrev pub missing : Settings → Book → Incoming → ℤ → ℕ
missing s b i n = missing_in b.expected (fit s b i.now n) (restart_in s b i n) n

-- a number that fits below e makes the stale run one longer, and that is all; after any other the run is 0, e is the number that
-- follows it, the accepted time is its reading, and the window is used by it and what it misses
abbrev pub booked : Settings → Book → Incoming → ℤ → Book
booked s b i n =
    cond (late b n)
    (record { expected = b.expected; run = b.run + 1; accepted_at = b.accepted_at; taken = b.taken; window = b.window })
    (record { expected = Some (n +ℤ pos 1); run = 0; accepted_at = i.now; taken = b.taken; window = used b.window (missing s b i n) })

-- a Begin may open or refill the window, a Take is noted with its reading, and an arrival is judged
abbrev pub noted : Settings → Book → News → ℤ → Book
noted s b Quiet n = b
noted s b (Began now) n =
    record { expected = b.expected; run = b.run; accepted_at = b.accepted_at; taken = b.taken; window = begun s.park_window b.taken b.window now }
noted s b (Took now) n = record { expected = b.expected; run = b.run; accepted_at = b.accepted_at; taken = now; window = b.window }
noted s b (Came i count) n = booked s b i n
