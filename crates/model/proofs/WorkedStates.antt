-- Worked cases of what calls leave: states, counts at the end of their range, and the packets that are due at a reading. Assumes nothing.
use Rattle.std.specs.Prelude.{Option, Some, None}
use Rattle.std.proofs.Common.{ℕ, List, [], ◌∷◌, get_or, replicate, refl}
use lib.Ieee.{lt, of_int, mul, div, add, sub, round}
use Rattle.double.specs.Whole.{nat_of, rounded}
use Rattle.stream.specs.Elapsed.{jump_limit, restart_missing, account_time, plausible}
use Rattle.stall.specs.Episode.{delivered, is_due}
use Rattle.model.specs.Rules.{used, elapsed, outage, added, capped, missing_of}
use Rattle.model.specs.Routing.{routed, by_offset}
use Rattle.model.specs.Host.{Call, Pass, Arrival, Close}
use Rattle.model.specs.Parts.{with_receiver, with_tracker, with_queue_pos, with_stall}
use Rattle.model.specs.Pass.{pass, passed, stall_soft}
use Rattle.model.specs.Close.{close, stop}
use Rattle.model.specs.declared.receiver.Receiver.{Receiver}
use Rattle.model.specs.State.{State, left, waits, quiet_since_of}
use Rattle.model.specs.Open.{new_common}
use Rattle.model.specs.Session.{step}
use Rattle.model.specs.Lists.{usual, iq_at, iq_with, room, silence}
use Rattle.base.specs.Cases.{Case, case, Hold}
use Rattle.model.specs.Edges.{parked, Given, held}
use Rattle.model.specs.declared.sender.Sender.TheVariants.{V6}
use Rattle.base.specs.Pick.{pick}
use Rattle.double.specs.Seconds.{seconds_of}
use Rattle.iq.specs.Iq.{header_told, rows}
use Rattle.sequence.specs.Tracker as Sequence
use Rattle.model.specs.Hearing.{event_of, restart_of, left_out, accepted_by}
use Rattle.model.specs.Arrival.{hear, heard_as, heard_iq, with_one_more, heard_malformed, arrived, arrival}
use Rattle.model.specs.Parts.{with_pending, with_parked, with_seq, with_consecutive_malformed}
use Rattle.model.specs.Sending.{send, send_high, send_rx_tx, send_general, high_if_due, rx_tx_if_due, general_if_due, keepalive, tick, due_packets, stop_packets}
use Rattle.model.specs.Open.{attenuation_at}
use Rattle.model.specs.Edges.{listed}
use Rattle.model.specs.declared.session.Common.{Common}
use Rattle.model.proofs.Worked.{num, win, expecting_in}
use Rattle.model.specs.Begin.{or_at, begun_by, begin}
use Rattle.std.specs.Option.{unwrap_or}
use Rattle.model.specs.Host.{Begin}
use Rattle.model.specs.Parts.{with_reading}
use Rattle.model.specs.Rules.{begun}
use Rattle.model.specs.Rules.{pending_after}
use Rattle.stream.specs.Elapsed.{below_half}

-- ---- the receiver after a call

abbrev left_by : State → Call → Receiver
left_by st c = (step st c).state.session.receiver

-- a state that expects 6, with its receiver changed
abbrev having : (Receiver → Receiver) → State
having f =
    let st = expecting_in 6 0 (parked 0 0 2) in
    record { session = with_receiver st.session (f st.session.receiver); samples = silence }

-- the same out of a window, with both slots filled
abbrev filled : State
filled = having (λ r. with_parked (with_pending r (record { missing = Some 5; discontinuity = Some 9 })) None)

-- no read is open, and datagrams are waited for since then
abbrev waiting_since : Option ℕ → State
waiting_since anchor = having (λ r. with_reading r (record { wait_entered = anchor; entered = None }))

abbrev next_of : Option ℕ → ℕ
next_of None = 0
next_of (Some n) = n

abbrev pub kept_cases : List (Case Given)
kept_cases =
    -- the accepted time is the arrival's own reading, not its later one
    num (left_by (having (λ r. r)) (Arrival (iq_with 1000 2000 6 []) room)).last_accepted_iq 1000
    -- a stale one uses up nothing of a window
    ∷ win (left_by (having (λ r. r)) (Arrival (iq_at 0 5) room)).parked (parked 0 0 2)
    -- a malformed one leaves the stale run
    ∷ num
    (left_by (having (λ r. with_tracker r (record { expected = Some 6; stale_run = 3 })))
    (Arrival (record { now = 0; later = 0; from = V6; octets = []; waiting = [] }) room)).tracker.stale_run
    3
    -- a soft stall leaves the Take's time
    ∷ num (left_by (having (λ r. with_stall r (delivered r.stall))) (Pass 5000000000 (replicate 4452 0))).read_returned 0
    -- Close leaves what waits
    ∷ num (left (left_by (having (λ r. with_queue_pos r 0)) (Close (replicate 2888 0)))) 238
    -- Begin: a wait anchor that is set stays, and the read takes it over; an empty one becomes the reading
    ∷ num (unwrap_or (left_by (waiting_since (Some 5)) (Begin 9)).reading.wait_entered 0) 5
    ∷ num (unwrap_or (left_by (waiting_since (Some 5)) (Begin 9)).reading.entered 0) 5
    ∷ num (unwrap_or (left_by (waiting_since None) (Begin 9)).reading.wait_entered 0) 9
    ∷ num (unwrap_or (left_by (waiting_since None) (Begin 9)).reading.entered 0) 9
    -- an arrival after a gap of one: what waits, the accepted time, the window, the number that is expected
    ∷ num (left_by (having (λ r. r)) (Arrival (iq_with 1000 2000 7 []) room)).queue_pos 0
    ∷ num (left_by (having (λ r. r)) (Arrival (iq_with 1000 2000 7 []) room)).last_accepted_iq 1000
    ∷ num (left_by (having (λ r. r)) (Arrival (iq_with 1000 2000 7 []) room)).last_valid_iq 1000
    ∷ win (left_by (having (λ r. r)) (Arrival (iq_with 1000 2000 7 []) room)).parked (parked 0 476 1)
    ∷ num (next_of (left_by (having (λ r. r)) (Arrival (iq_with 1000 2000 7 []) room)).tracker.expected) 8
    -- slots that hold 5 and 9: a gap of one, of 101, and a restart after a second
    ∷ case (held (left_by filled (Arrival (iq_at 0 7) room)).pending.missing) (held (Some 243))
    ∷ case (held (left_by filled (Arrival (iq_at 0 7) room)).pending.discontinuity) (held (Some 9))
    ∷ case (held (left_by filled (Arrival (iq_at 0 107) room)).pending.missing) (held (Some 5))
    ∷ case (held (left_by filled (Arrival (iq_at 0 107) room)).pending.discontinuity) (held (Some 24047))
    ∷ case (held (left_by filled (Arrival (iq_at 1000000000 0) room)).pending.discontinuity) (held (Some 47771))
    ∷ []

-- ---- counts at the end of their range: those of the streams wrap, the malformed run saturates

-- what is common, with these counts and this malformed run
abbrev counting : ℕ → ℕ → Common
counting n run = with_consecutive_malformed (with_seq (new_common 48 usual 0) (5 ∷ 6 ∷ 7 ∷ n ∷ [])) run

abbrev count_after : ℕ → ℕ → ℕ
count_after n at = get_or (stop_packets (counting n 0)).common.seq at 0

abbrev pub count_cases : List (Case Given)
count_cases =
    -- two high priority packets
    num (count_after 4294967294 3) 0
    ∷ num (count_after 4294967295 3) 1
    ∷ num (count_after 2147483646 3) 2147483648
    ∷ num (count_after 0 3) 2
    -- no other stream's
    ∷ num (count_after 4294967295 0) 5
    ∷ num (count_after 4294967295 1) 6
    ∷ num (count_after 4294967295 2) 7
    -- one more malformed
    ∷ num (with_one_more (counting 0 4294967294)).consecutive_malformed 4294967295
    ∷ num (with_one_more (counting 0 4294967295)).consecutive_malformed 4294967295
    ∷ []

-- ---- what is due at a reading, where everything was sent at 0

abbrev due : ℕ → List ℕ → Case Given
due now is = case (listed (due_packets now (counting 0 0)).streams) (listed is)

abbrev pub due_cases : List (Case Given)
due_cases =
    due 99999999 []
    ∷ due 100000000 (3 ∷ [])
    ∷ due 199999999 (3 ∷ [])
    ∷ due 200000000 (3 ∷ 1 ∷ 2 ∷ [])
    ∷ due 799999999 (3 ∷ 1 ∷ 2 ∷ [])
    ∷ due 800000000 (3 ∷ 1 ∷ 2 ∷ 0 ∷ [])
    ∷ []

-- ---- they hold

pub kept-hold : Hold kept_cases
unfolding pick new_common step arrival arrived routed by_offset header_told rows heard_iq heard_as hear heard_malformed with_one_more event_of restart_of capped accepted_by left_out
    used missing_of waits left quiet_since_of Sequence.observed Sequence.meant Sequence.less Sequence.after Sequence.zero_restarts elapsed jump_limit plausible nat_of
    seconds_of of_int add sub mul div account_time is_due pass passed stall_soft close stop pending_after added below_half lt restart_missing rounded round outage begin begun_by or_at begun
kept-hold = refl

pub counts-hold : Hold count_cases
unfolding new_common stop_packets send with_one_more
counts-hold = refl

pub dues-hold : Hold due_cases
unfolding pick new_common due_packets keepalive high_if_due rx_tx_if_due general_if_due send_high send_rx_tx send_general send tick attenuation_at
dues-hold = refl
