-- The stream in whole numbers, negative ones among them: how an arrival n lies to the number e that is expected, by the distance
-- n - e. Definitions only.
use Rattle.std.specs.Prelude.{ℕ, ◌+◌, ◌-◌, ◌%◌, ◌≤◌, ◌<◌, ◌^◌, Bool, not, ◌&&◌, ◌||◌, leb, ltb, eqb, ℤ, pos, negsuc, ◌-ℤ◌}
use Rattle.base.specs.Pick.{pick}
use Rattle.sequence.specs.declared.SeqEvent.{SeqEvent}
use Rattle.sequence.specs.declared.SeqEvent.TheVariants.{InOrder, Gap, Stale, Restart}

-- the count of a whole number: the number modulo 2^32
abbrev pub count_of : ℤ → ℕ
count_of (pos n) = n % 2 ^ 32
count_of (negsuc n) = 2 ^ 32 - (n % 2 ^ 32 + 1)

-- the count is not 0: a multiple of 2^32 fits neither above nor below
abbrev pub count_not_zero : ℤ → Bool
count_not_zero n = not (eqb (count_of n) 0)

-- ---- distances; `negsuc d` is -(d + 1)

-- how far above e: 0 where it is not
abbrev pub ahead : ℤ → ℕ
ahead (pos d) = d
ahead (negsuc d) = 0

-- how far below e: 0 where it is not
abbrev pub behind : ℤ → ℕ
behind (pos d) = 0
behind (negsuc d) = d + 1

-- from 2^31 below to 2^31 - 1 above
pub record Near (e n : ℤ) : Type 0 where
  pub low : behind (n -ℤ e) ≤ 2 ^ 31
  pub high : ahead (n -ℤ e) < 2 ^ 31

-- above, and by no more than the jump limit
unfoldable pub fits_above : ℕ → ℤ → ℤ → Bool
fits_above limit e n = count_not_zero n && ltb 0 (ahead (n -ℤ e)) && leb (ahead (n -ℤ e)) limit

-- 1 to 64 below, after at most six such since the last accepted one
unfoldable pub fits_below : ℕ → ℤ → ℤ → Bool
fits_below run e n = count_not_zero n && ltb 0 (behind (n -ℤ e)) && leb (behind (n -ℤ e)) 64 && leb run 6

-- e itself
abbrev pub is_next : ℤ → ℤ → Bool
is_next e n = eqb (ahead (n -ℤ e)) 0 && eqb (behind (n -ℤ e)) 0

unfoldable pub fits : ℕ → ℕ → ℤ → ℤ → Bool
fits limit run e n = is_next e n || fits_above limit e n || fits_below run e n

-- the event that it is to be told
unfoldable pub verdict : ℕ → ℕ → ℤ → ℤ → SeqEvent
verdict limit run e n =
    pick (is_next e n) InOrder (pick (fits_above limit e n) (Gap (ahead (n -ℤ e))) (pick (fits_below run e n) Stale Restart))

-- m is above n
abbrev pub Below : ℤ → ℤ → Type 0
Below n m = 0 < ahead (m -ℤ n)

-- the higher of two
abbrev pub higher : ℤ → ℤ → ℤ
higher n m = pick (ltb 0 (ahead (m -ℤ n))) m n
