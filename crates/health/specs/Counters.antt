-- The counts of a session, each modulo 2^64. Definitions only.
use Rattle.std.specs.Prelude.{ℕ, ◌+◌, ◌*◌, ◌%◌, ◌^◌}
use Rattle.stream.specs.Size.{per_datagram}
use Rattle.health.specs.declared.InputHealthCounters.{InputHealthCounters}

abbrev pub none_counted : InputHealthCounters
none_counted = record { dropped_packets = 0; gaps_detected = 0; malformed_packets = 0 }

abbrev pub count_dropped : InputHealthCounters → ℕ → InputHealthCounters
count_dropped c n =
    record { dropped_packets = (c.dropped_packets + n) % 2 ^ 64; gaps_detected = c.gaps_detected; malformed_packets = c.malformed_packets }

abbrev pub count_gap : InputHealthCounters → InputHealthCounters
count_gap c =
    record { dropped_packets = c.dropped_packets; gaps_detected = (c.gaps_detected + 1) % 2 ^ 64; malformed_packets = c.malformed_packets }

abbrev pub count_malformed : InputHealthCounters → InputHealthCounters
count_malformed c =
    record { dropped_packets = c.dropped_packets; gaps_detected = c.gaps_detected; malformed_packets = (c.malformed_packets + 1) % 2 ^ 64 }

-- the loss total, added by us: 238 × dropped, modulo 2^64
unfoldable pub loss_total : InputHealthCounters → ℕ
loss_total c = per_datagram * c.dropped_packets % 2 ^ 64
