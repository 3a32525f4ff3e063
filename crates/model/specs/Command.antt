-- Where a command stream's packets go, and the streams that a call wrote. Definitions only.
use Rattle.std.specs.Prelude.{ℕ, ◌+◌, ◌-◌, ◌%◌, ◌^◌, List, ◌++◌, length, replicate}
use Rattle.model.specs.declared.command.Streams.{Streams}

-- where the settings are accepted nothing wraps: `destination-plain` of proofs/Rows
abbrev pub destination_of : ℕ → ℕ → ℕ
destination_of port offset = (port + offset) % 2 ^ 16

-- the streams that a call wrote, in the code's form: unused places are 0
unfoldable pub streams_as : List ℕ → Streams
streams_as l = record { offsets = l ++ replicate (5 - length l) 0; count = length l }
