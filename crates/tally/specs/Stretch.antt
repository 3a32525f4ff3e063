-- A stretch as it is told, arrival by arrival. Definitions only.
use Rattle.std.specs.Prelude.{◌≡◌, ℕ, ◌+◌, ◌-◌, ◌*◌, ◌%◌, ◌^◌, ◌≤◌}
use Rattle.stream.specs.Size.{per_datagram}
use Rattle.tally.specs.declared.record.Record.{Record}
use Rattle.tally.specs.declared.stretch.Stretch.{Stretch}
use Rattle.tally.specs.declared.stretch.Sums.{Sums}

-- a sum of the code's
abbrev pub sum : ℕ → ℕ → ℕ
sum a b = (a + b) % 2 ^ 64

-- how far a number lies above another, modulo 2^32
abbrev pub above : ℕ → ℕ → ℕ
above number highest = (number + 2 ^ 32 - highest % 2 ^ 32) % 2 ^ 32

-- the first arrival: its missing is the restart's
unfoldable pub first_of : Record → Stretch
first_of x =
    record {
      at = x.reading;
      last = x.reading;
      first = x.number;
      restart = x.missing;
      highest = x.number;
      samples = per_datagram;
      missing = 0;
    }

-- an accepted arrival more
unfoldable pub more_of : Stretch → Record → Stretch
more_of s x =
    record {
      at = s.at;
      last = x.reading;
      first = s.first;
      restart = s.restart;
      highest = sum s.highest (above x.number s.highest);
      samples = sum s.samples per_datagram;
      missing = sum s.missing x.missing;
    }

unfoldable pub plus_of : Sums → Stretch → Sums
plus_of t s =
    record { samples = sum t.samples s.samples; missing = sum t.missing s.missing; restart = sum t.restart s.restart }

-- demand 3's sum, of a stretch as it is told
pub record Even (s : Stretch) : Type 0 where
  pub rises : s.first ≤ s.highest
  pub adds : s.samples + s.missing ≡ per_datagram * (s.highest - s.first + 1)
