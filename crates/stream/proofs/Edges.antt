-- 01's edges of doubles and those of 2026-04, and cases where a tempting other reading gives another number: one list, by computation. Assumes nothing.
use Rattle.std.proofs.Common.{ℕ, Bool, false, cond, List, [], ◌∷◌, pos, negsuc, refl}
use lib.Ieee.{Float, fin, binary64, of_int, div, add, sub, mul, lt}
use Rattle.base.specs.Cases.{Case, case, Hold}
use Rattle.double.specs.Whole.{nat_of, rounded, ceil_of, round_of}
use Rattle.double.specs.Seconds.{seconds_of, nanos_of}
use Rattle.stream.specs.Elapsed.{per_datagram64, slack, plausible, jump_limit, restart_missing, below_half}

abbrev khz48 : Float
khz48 = fin false 375 (pos 7)

abbrev khz768 : Float
khz768 = fin false 375 (pos 11)

abbrev khz1536 : Float
khz1536 = fin false 375 (pos 12)

abbrev bit : Bool → ℕ
bit b = cond b 1 0

abbrev pub edges : List (Case ℕ)
edges =
    -- E = 0 and E = 1 s at 48 kHz
    case (jump_limit 0 khz48) 8192 ∷ case (jump_limit 1000000000 khz48) 8396 ∷ case (restart_missing 0 khz48) 0 ∷ case (restart_missing 1000000000 khz48) 47762 ∷
    -- a gap of 100 is below half a second at 48 kHz, half a second itself and one of 101 are not
    case (bit (below_half 23800 khz48)) 1 ∷ case (bit (below_half 24000 khz48)) 0 ∷ case (bit (below_half 24038 khz48)) 0 ∷
    -- a gap of 1613 is at 768 kHz, one of 1614 is not; at 1536 kHz one of 3226 is, one of 3227 is not
    case (bit (below_half 383894 khz768)) 1 ∷ case (bit (below_half 384132 khz768)) 0 ∷ case (bit (below_half 767788 khz1536)) 1 ∷ case (bit (below_half 768026 khz1536)) 0 ∷
    -- E = 1 s at both
    case (jump_limit 1000000000 khz768) 11452 ∷ case (jump_limit 1000000000 khz1536) 14711 ∷ case (restart_missing 1000000000 khz768) 767762 ∷ case (restart_missing 1000000000 khz1536) 1535762 ∷
    -- the association of the product: with the quotient by 238 taken last, 8.925 s would allow 1819 and not 1818
    case (jump_limit 8925000000 khz48) 10010 ∷ case (ceil_of (mul binary64 (div binary64 (mul binary64 (seconds_of 8925000000) khz48) per_datagram64) slack)) 1819 ∷
    -- 238 comes off before the cast: past 2 ^ 54 samples, which 1536 kHz reaches, it leaves 2 fewer than after it
    case (restart_missing 11728124030000000000 khz1536) 18014398510079760 ∷ case (round_of (mul binary64 (seconds_of 11728124030000000000) khz1536)) 18014398510080000 ∷
    -- half away from zero: 2.5. Nanoseconds to the even one: 976,562.5 and 2,929,687.5
    case (round_of (fin false 5 (negsuc 0))) 3 ∷ case (nanos_of (fin false 1 (negsuc 9))) 976562 ∷ case (nanos_of (fin false 3 (negsuc 9))) 2929688 ∷ []

pub edges-hold : Hold edges
unfolding jump_limit plausible restart_missing below_half seconds_of nat_of rounded add sub mul div lt of_int
edges-hold = refl
