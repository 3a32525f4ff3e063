-- Worked cases of the rules that session and book share, which demand 3's theorem can't see a fault in, by computation. Their values
-- are worked out by hand from 01; those of arrivals are the Rust's too (lists/worked). Assumes nothing.
use Rattle.std.specs.Prelude.{Option, Some, None}
use Rattle.model.specs.declared.receiver.Parked.{Parked}
use Rattle.std.proofs.Common.{ℕ, ◌+◌, List, [], ◌∷◌, replicate, refl}
use lib.Ieee.{of_int, mul, div, add, sub, round}
use Rattle.double.specs.Whole.{most, nat_of, rounded}
use Rattle.stream.specs.Elapsed.{jump_limit, restart_missing, account_time, covered_time, plausible}
use Rattle.stall.specs.Episode.{unarmed}
use Rattle.sequence.specs.declared.SeqEvent.TheVariants.{Gap, Restart}
use Rattle.model.specs.Answer.{Answer, heard}
use Rattle.model.specs.Rules.{begun, used, elapsed, backlog, outage, added, refilled, capped, datagrams, uncovered, missing_of}
use Rattle.model.specs.Routing.{Routed, iq, status, ignored, malformed, routed, by_offset}
use Rattle.model.specs.Host.{Incoming, Arrival}
use Rattle.model.specs.State.{State, left, waits}
use Rattle.model.specs.Open.{new_common}
use Rattle.model.specs.Session.{step}
use Rattle.model.specs.Lists.{khz48, radio, usual, datagram, iq_at, iq_with, room, silence}
use Rattle.base.specs.Cases.{Case, case, Hold}
use Rattle.model.specs.Edges.{parked, Given, number, answer, window, held, route}
use Rattle.model.specs.declared.sender.Sender.{Sender}
use Rattle.model.specs.declared.sender.Sender.TheVariants.{V4, V6}
use Rattle.base.specs.Pick.{pick}
use Rattle.double.specs.Seconds.{seconds_of}
use Rattle.iq.specs.Iq.{header_told, rows}
use Rattle.sequence.specs.Tracker.{past}
use Rattle.sequence.specs.Tracker as Sequence
use Rattle.model.specs.Hearing.{event_of, restart_of, left_out, accepted_by}
use Rattle.model.specs.Arrival.{hear, heard_as, heard_iq, arrived, arrival}

abbrev pub num : ℕ → ℕ → Case Given
num worked is = case (number worked) (number is)

abbrev pub win : Option Parked → Option Parked → Case Given
win worked is = case (window worked) (window is)

-- ---- jump limit, elapsed time, account time

abbrev pub time_cases : List (Case Given)
time_cases =
    -- jump limit at 48 kHz: a nanosecond, 1 s, 2 s
    num (jump_limit 1 khz48) 8193
    ∷ num (jump_limit 1000000000 khz48) 8396
    ∷ num (jump_limit 2000000000 khz48) 8600
    -- elapsed out of a window, and never below 0
    ∷ num (elapsed khz48 5 None 105) 100
    ∷ num (elapsed khz48 105 None 5) 0
    -- in a window whose account is 1 s: from its anchor less that, or since the last accepted one if more
    ∷ num (elapsed khz48 2900000000 (parked 0 48000 7) 3000000000) 2000000000
    ∷ num (elapsed khz48 500000000 (parked 0 48000 7) 3000000000) 2500000000
    -- with an account of 10 s
    ∷ num (elapsed khz48 2900000000 (parked 0 480000 7) 3000000000) 100000000
    -- account over the rate: 238 samples are 4,958,333.33 ns
    ∷ num (account_time 238 khz48) 4958333
    ∷ num (account_time 3 khz48) 62500
    -- the largest account is more than any pause
    ∷ num (elapsed khz48 most (parked 0 most 1) most) 0
    ∷ []

-- ---- the park window

abbrev pub window_cases : List (Case Given)
window_cases =
    -- it opens at 100 ms, anchored at the Take, and not before; one of 0 arrivals too
    win (begun 8192 7 None 100000006) None
    ∷ win (begun 8192 7 None 100000007) (parked 7 0 8192)
    ∷ win (begun 0 7 None 100000007) (parked 7 0 0)
    -- refilled it keeps anchor and account
    ∷ win (begun 8192 200000000 (parked 7 500 3) 299999999) (parked 7 500 3)
    ∷ win (begun 8192 200000000 (parked 7 500 3) 300000000) (parked 7 500 8192)
    -- used: 238 and the missing, one arrival fewer; it closes at none left
    ∷ win (used (parked 7 500 3) 476) (parked 7 1214 2)
    ∷ win (used (parked 7 500 2) 0) (parked 7 738 1)
    ∷ win (used (parked 7 500 1) 476) None
    ∷ win (used (parked 7 500 0) 0) None
    ∷ win (used None 476) None
    -- the account saturates
    ∷ win (used (parked 7 most 3) 0) (parked 7 most 2)
    ∷ []

-- ---- the walk over waiting numbers, and what a restart misses

-- expecting 1: 1 and 2 in order, 5 with two lost, 3 stale, 0 a restart, 9000 over a limit of 8600
abbrev pub mixed : List ℕ
mixed = 1 ∷ 2 ∷ 5 ∷ 3 ∷ 0 ∷ 9000 ∷ []

abbrev pub restart_cases : List (Case Given)
restart_cases =
    num (backlog 8600 (past 0) mixed) 7
    -- a gap over the limit still moves the copy
    ∷ num (backlog 8600 (past 0) (9000 ∷ 9001 ∷ [])) 2
    ∷ num (backlog 8600 (past 0) (8601 ∷ [])) 8601
    ∷ num (backlog 8600 (past 0) (8602 ∷ [])) 1
    -- expecting 100: seven stale ones, and the eighth is a restart
    ∷ num (backlog 8600 (past 99) (replicate 7 99)) 0
    ∷ num (backlog 8600 (past 99) (replicate 8 99)) 1
    ∷ num (backlog 8600 (past 99) (replicate 9 99)) 1
    -- six stale ones came before
    ∷ num (backlog 8600 (record { expected = Some 100; stale_run = 6 }) (99 ∷ [])) 0
    ∷ num (backlog 8600 (record { expected = Some 100; stale_run = 6 }) (99 ∷ 99 ∷ [])) 1
    -- over the wrap: 0 is expected
    ∷ num (backlog 8600 (past 4294967295) (0 ∷ 1 ∷ [])) 2
    ∷ num (covered_time 7 khz48) 34708333
    -- the walk's limit is that of the bound, 8600 at 2 s: a gap of that covers all of it, of one more one datagram
    ∷ num (uncovered khz48 2000000000 (past 99) (8700 ∷ [])) 0
    ∷ num (uncovered khz48 2000000000 (past 99) (8701 ∷ [])) 1995041667
    -- out of a window the later reading and what waits make no difference
    ∷ num (outage khz48 1000000000 None 3000000000 9000000000 (past 0) (1 ∷ 2 ∷ [])) 2000000000
    -- in one: 2 s at the later reading, less what the seven cover
    ∷ num (outage khz48 1000000000 (parked 3000000000 0 2) 4000000000 5000000000 (past 0) mixed) 1965291667
    ∷ num (restart_missing 1965291667 khz48) 94096
    -- what waits covers it all
    ∷ num (outage khz48 0 (parked 0 0 2) 1000 1000 (past 0) (1 ∷ [])) 0
    ∷ []

-- ---- slots

abbrev pub slot_cases : List (Case Given)
slot_cases =
    -- one that is empty and one that holds 0 differ
    case (held (added None 0)) (held (Some 0))
    ∷ case (held (added (Some 5) 7)) (held (Some 12))
    ∷ case (held (added (Some most) 7)) (held (Some most))
    ∷ []

-- ---- routing: 1024 is the base, and the datagram has number 9

abbrev routes : Sender → List ℕ → Routed → Case Given
routes from octets is = case (route (routed radio 1024 from octets)) (route is)

abbrev pub route_cases : List (Case Given)
route_cases =
    routes (V4 radio 1035) (datagram 9) (iq 9)
    ∷ routes (V4 radio 1024) (datagram 9) ignored
    ∷ routes (V4 radio 1025) (datagram 9) status
    ∷ routes (V4 radio 1026) (datagram 9) ignored
    ∷ routes (V4 radio 1027) (datagram 9) ignored
    ∷ routes (V4 radio 1028) (datagram 9) ignored
    ∷ routes (V4 radio 1029) (datagram 9) ignored
    ∷ routes (V4 radio 1030) (datagram 9) ignored
    ∷ routes (V4 radio 1031) (datagram 9) ignored
    ∷ routes (V4 radio 1032) (datagram 9) ignored
    ∷ routes (V4 radio 1033) (datagram 9) ignored
    ∷ routes (V4 radio 1034) (datagram 9) ignored
    ∷ routes (V4 radio 1036) (datagram 9) malformed
    -- a port below the base, another address on each port, an IPv6 sender
    ∷ routes (V4 radio 1023) (datagram 9) malformed
    ∷ routes (V4 (radio + 1) 1035) (datagram 9) malformed
    ∷ routes (V4 (radio + 1) 1025) (datagram 9) malformed
    ∷ routes (V4 (radio + 1) 1024) (datagram 9) malformed
    ∷ routes V6 (datagram 9) malformed
    -- another length
    ∷ routes (V4 radio 1035) (0 ∷ datagram 9) malformed
    ∷ routes (V4 radio 1035) [] malformed
    ∷ []

-- ---- arrivals of lists/worked, with the Rust's answers

-- a receiver that expects a number since the reading `accepted`, with a read open in this window
abbrev pub expecting_in : ℕ → ℕ → Option Parked → State
expecting_in next accepted w =
    record {
      session =
          record {
            common = new_common 48 usual 0;
            receiver =
                record {
                  tracker = record { expected = Some next; stale_run = 0 };
                  queue_pos = 238;
                  reading = record { wait_entered = Some 0; entered = Some 0 };
                  parked = w;
                  pending = record { missing = None; discontinuity = None };
                  last_valid_iq = accepted;
                  last_accepted_iq = accepted;
                  read_returned = 0;
                  stall = unarmed;
                };
          };
      samples = silence;
    }

abbrev hears : ℕ → ℕ → Option Parked → Incoming → Answer → Case Given
hears next accepted w i is = case (answer (step (expecting_in next accepted w) (Arrival i room)).reply.answer) (answer is)

abbrev pub arrival_cases : List (Case Given)
arrival_cases =
    -- after a pause of 2 s a gap of 8599, which only the pause allows, and one of 8600
    hears 7 2000000000 (parked 0 238 8191) (iq_at 2000000000 8606) (heard (Gap 8599) 2046562)
    ∷ hears 7 2000000000 (parked 0 238 8191) (iq_at 2000000000 8607) (heard Restart 95524)
    -- with more accounted for than has passed a restart misses nothing
    ∷ hears 8608 2000000000 (parked 0 96000 8190) (iq_at 2000000000 17000) (heard Restart 0)
    -- a restart out of a window, with a later reading
    ∷ hears 6 0 None (iq_with 1000000000 3000000000 0 []) (heard Restart 47762)
    -- one in a window, of which what waits covers a part
    ∷ hears 1 1000000000 (parked 3000000000 0 2) (iq_with 4000000000 5000000000 0 mixed) (heard Restart 94096)
    ∷ []

-- ---- they hold

pub times-hold : Hold time_cases
unfolding elapsed jump_limit plausible nat_of seconds_of add mul div of_int account_time
times-hold = refl

pub windows-hold : Hold window_cases
unfolding pick begun refilled used
windows-hold = refl

pub restarts-hold : Hold restart_cases
unfolding pick elapsed jump_limit plausible nat_of seconds_of add mul div sub rounded round of_int account_time covered_time restart_missing
    backlog capped datagrams uncovered outage Sequence.observed Sequence.meant Sequence.less Sequence.after Sequence.zero_restarts
restarts-hold = refl

pub slots-hold : Hold slot_cases
unfolding added
slots-hold = refl

pub routes-hold : Hold route_cases
unfolding pick routed by_offset header_told rows
routes-hold = refl

pub arrivals-hold : Hold arrival_cases
unfolding pick new_common step arrival arrived routed by_offset header_told rows heard_iq heard_as hear event_of restart_of capped accepted_by left_out used missing_of waits left
    Sequence.observed Sequence.meant Sequence.less Sequence.after Sequence.zero_restarts elapsed jump_limit plausible nat_of seconds_of of_int add sub mul div
    restart_missing rounded round outage uncovered backlog datagrams account_time covered_time
arrivals-hold = refl
