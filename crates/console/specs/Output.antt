-- What is put into the buffer of what the program writes, and how much of it is still to be written then. Definitions only.
use Rattle.std.specs.Prelude.{ℕ, ◌+◌, ◌≤◌, ◌<◌, ◌≡◌, ◌⊎◌, true, false, List, length}
use Rattle.std.proofs.Math.Seq.{paste}
use Rattle.io.specs.Digits.{last_digits, IsDigitCount}
use Rattle.console.specs.declared.output.Output.{Output}

-- the buffer's octets
abbrev pub room : ℕ
room = 65536

-- nothing is still to be written, or a write failed
pub data Flushed (o p : Output) : Type 0 where
  all : o.failed ≡ false → p.failed ≡ false → p.len ≡ 0 → Flushed o p
  stopped : p.failed ≡ true → Flushed o p

-- s is put behind the octets of o that are still to be written, or at the front where it has no room behind them: p has the buffer then,
-- every other place as it was, and how much of it is still to be written. Where a write failed, or s is longer than the buffer, no place
-- changes
pub data Puts (o : Output) (s : List ℕ) (p : Output) : Type 0 where
  behind : o.failed ≡ false → o.len + length s ≤ room → p.failed ≡ false → p.len ≡ o.len + length s → p.room ≡ paste o.room o.len s (length s) → Puts o s p
  front : o.failed ≡ false → room < o.len + length s → length s ≤ room → p.failed ≡ false → p.len ≡ length s → p.room ≡ paste o.room 0 s (length s) → Puts o s p
  unwritten : (o.failed ≡ true) ⊎ (room < o.len + length s) → length s ≤ room → p.failed ≡ true → p.room ≡ o.room → Puts o s p
  too_long : room < length s → p.failed ≡ o.failed → p.len ≡ o.len → p.room ≡ o.room → Puts o s p

-- a number's decimal digits are put, as many as it has
unfoldable pub PutsNumber : Output → ℕ → Output → Type 0
PutsNumber o n p = (k : ℕ) × IsDigitCount 10 1 n k × Puts o (last_digits 10 k n) p
