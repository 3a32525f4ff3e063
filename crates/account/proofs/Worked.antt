-- Worked cases of what the book makes of numbers and arrivals, by computation: of whole numbers by hand from 01, of arrivals those of
-- model's Worked, with the Rust's own missing. Assumes nothing.
use Rattle.std.specs.Prelude.{Option, Some, None}
use Rattle.model.specs.declared.receiver.Parked.{Parked}
use Prim.Native.Nat.{ℕ}
use mathlib.Core.Bool.{Bool, true, false}
use mathlib.Core.Path.{refl}
use mathlib.Core.List.{List, [], ◌∷◌}
use lib.IntN.{pos, negsuc}
use lib.Ieee.{of_int, mul, div, add, sub, round}
use Rattle.base.specs.Pick.{pick}
use Rattle.base.specs.Cases.{Case, case, Hold}
use Rattle.double.specs.Whole.{nat_of, rounded}
use Rattle.double.specs.Seconds.{seconds_of}
use Rattle.stream.specs.Elapsed.{plausible, jump_limit, restart_missing, account_time, covered_time}
use Rattle.sequence.specs.Tracker as Sequence
use Rattle.model.specs.Edges.{parked}
use Rattle.model.specs.Rules.{elapsed, capped, datagrams, backlog, uncovered, outage}
use Rattle.model.specs.Host.{Incoming}
use Rattle.model.specs.Lists.{usual, iq_at, iq_with}
use Rattle.model.proofs.Worked.{mixed}
use Rattle.account.specs.Whole.{fits, fits_above, fits_below}
use Rattle.account.specs.Book.{Book, missing}

abbrev yes : Bool → Case Bool
yes b = case b true

abbrev no : Bool → Case Bool
no b = case b false

-- ---- whole numbers: limit, stale run, e and n

abbrev pub fit_cases : List (Case Bool)
fit_cases =
    -- e itself, also as a multiple of 2^32
    yes (fits 8192 7 (pos 4294967296) (pos 4294967296))
    ∷ yes (fits 8192 7 (pos 0) (pos 0))
    -- above by no more than the limit
    ∷ yes (fits 8192 0 (pos 6) (pos 8198))
    ∷ no (fits 8192 0 (pos 6) (pos 8199))
    -- below by 1 to 64, after at most six such
    ∷ yes (fits 8192 6 (pos 100) (pos 99))
    ∷ no (fits 8192 7 (pos 100) (pos 99))
    ∷ yes (fits 8192 0 (pos 100) (pos 36))
    ∷ no (fits 8192 0 (pos 100) (pos 35))
    -- a multiple of 2^32 neither above nor below
    ∷ no (fits 8192 0 (pos 4294967290) (pos 4294967296))
    ∷ yes (fits 8192 0 (pos 4294967290) (pos 4294967297))
    ∷ no (fits 8192 0 (pos 4294967300) (pos 4294967296))
    ∷ yes (fits 8192 0 (pos 4294967300) (pos 4294967297))
    -- the same from -6 up and from 4 down, and at -2^32
    ∷ no (fits 8192 0 (negsuc 5) (pos 0))
    ∷ yes (fits 8192 0 (negsuc 5) (pos 1))
    ∷ yes (fits 8192 0 (negsuc 5) (negsuc 4))
    ∷ no (fits 8192 0 (pos 4) (pos 0))
    ∷ yes (fits 8192 0 (pos 4) (negsuc 0))
    ∷ yes (fits 8192 0 (pos 4) (negsuc 59))
    ∷ no (fits 8192 0 (pos 4) (negsuc 60))
    ∷ no (fits 8192 0 (negsuc 4294967299) (negsuc 4294967295))
    ∷ yes (fits 8192 0 (negsuc 4294967299) (negsuc 4294967294))
    -- which of them lie below
    ∷ no (fits_below 0 (pos 6) (pos 7))
    ∷ no (fits_below 0 (pos 6) (pos 6))
    ∷ yes (fits_below 0 (pos 6) (pos 5))
    ∷ yes (fits_below 0 (pos 0) (negsuc 0))
    ∷ []

pub fits-hold : Hold fit_cases
unfolding fits fits_above fits_below
fits-hold = refl

-- ---- arrivals

-- a book that expects a number since the reading `accepted`, in this window
abbrev pub book_in : ℕ → ℕ → Option Parked → Book
book_in next accepted w = record { expected = Some (pos next); run = 0; accepted_at = accepted; taken = 0; window = w }

abbrev misses : ℕ → ℕ → Option Parked → Incoming → ℕ → ℕ → Case ℕ
misses next accepted w i n is = case (missing usual (book_in next accepted w) i (pos n)) is

abbrev pub arrival_cases : List (Case ℕ)
arrival_cases =
    -- after a pause of 2 s a gap of 8599, which only the pause allows, and one of 8600
    misses 7 2000000000 (parked 0 238 8191) (iq_at 2000000000 8606) 8606 2046562
    ∷ misses 7 2000000000 (parked 0 238 8191) (iq_at 2000000000 8607) 8607 95524
    -- with more accounted for than has passed a restart misses nothing
    ∷ misses 8608 2000000000 (parked 0 96000 8190) (iq_at 2000000000 17000) 17000 0
    -- a restart out of a window, with a later reading
    ∷ misses 6 0 None (iq_with 1000000000 3000000000 0 []) 0 47762
    -- one in a window, of which what waits covers a part
    ∷ misses 1 1000000000 (parked 3000000000 0 2) (iq_with 4000000000 5000000000 0 mixed) 0 94096
    ∷ []

pub arrivals-hold : Hold arrival_cases
unfolding pick Sequence.observed Sequence.meant Sequence.less Sequence.after Sequence.zero_restarts capped elapsed jump_limit plausible nat_of seconds_of of_int
    add sub mul div restart_missing rounded round outage uncovered backlog datagrams account_time covered_time fits fits_above fits_below
arrivals-hold = refl
