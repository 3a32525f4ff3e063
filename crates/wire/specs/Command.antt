-- The command streams: general at the radio's port; receive, transmit and high priority 1, 2 and 3 above it; and how long the packets
-- of each are. Definitions only.
use Rattle.std.specs.Prelude.{ℕ}
use Rattle.wire.specs.declared.command.Stream.{Stream}
use Rattle.wire.specs.declared.command.Stream.TheVariants.{General, RxSpecific, TxSpecific, HighPriority}

abbrev pub offset_of : Stream → ℕ
offset_of General = 0
offset_of RxSpecific = 1
offset_of TxSpecific = 2
offset_of HighPriority = 3

-- the octets of a stream's packet
abbrev pub size_of : Stream → ℕ
size_of General = 60
size_of RxSpecific = 1444
size_of TxSpecific = 60
size_of HighPriority = 1444
