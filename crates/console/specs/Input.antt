-- What comes next of a file, and what is left of what was read. Definitions only.
use Rattle.std.specs.Prelude.{ℕ, ◌+◌, ◌-◌, ◌<◌, ◌≤◌, ◌≡◌, ◌⊎◌, true, false, List, take, length, slice_range}
use Rattle.text.specs.Run.{run, other}
use Rattle.console.specs.declared.input.Input.{Input}
use Rattle.console.specs.declared.input.Next.{Next}
use Rattle.console.specs.declared.input.Next.TheVariants.{Line, TooLong, Cut, Over}

-- the octets that a line and its newline have room for
abbrev pub line_room : ℕ
line_room = 131072

-- how many octets stand before the first newline: all, where there is none
abbrev pub before : List ℕ → ℕ
before rest = run (other 10) rest

-- so many octets are taken, and nothing else changes
pub record Taken (n : ℕ) (i j : Input) : Type 0 where
  pub next : j.next ≡ i.next + n
  pub filled : j.filled ≡ i.filled
  pub over : j.over ≡ i.over
  pub failed : j.failed ≡ i.failed

-- a line ends before a newline, which is taken with it, or where the file does
abbrev pub Ends : List ℕ → Input → Input → Type 0
Ends rest i j =
    (before rest < length rest) × Taken (before rest + 1) i j
    ⊎ (before rest ≡ length rest) × (0 < length rest) × (length rest < line_room) × (i.over ≡ true) × Taken (length rest) i j

-- of the rest that was read and is no line yet
abbrev pub Comes : List ℕ → Input → Next → Input → Type 0
Comes rest i (Line l) j = (l.now ≡ take (before rest) rest) × Ends rest i j
Comes rest i (TooLong l) j = (l.now ≡ rest) × (before rest ≡ line_room) × Taken (length rest) i j
Comes rest i Cut j = (before rest ≡ length rest) × (length rest < line_room) × (i.over ≡ false) × Taken 0 i j
Comes rest i Over j = (length rest ≡ 0) × (i.over ≡ true) × Taken 0 i j

-- what is no line yet goes to the room's front, and what is read comes behind it; where the file has no more, nothing does
pub record Filled (i : Input) (d : List ℕ) (j : Input) (e : List ℕ) : Type 0 where
  pub front : j.next ≡ 0
  pub behind : i.filled - i.next ≤ j.filled
  pub kept : take (i.filled - i.next) e ≡ slice_range d i.next i.filled
  pub ended : j.over ≡ true → j.filled ≡ i.filled - i.next
