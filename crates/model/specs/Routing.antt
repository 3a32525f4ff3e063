-- What an arrival is, by its sender and its octets. Definitions only.
use Rattle.std.specs.Prelude.{ℕ, ◌-◌, not, List, ◌==◌, nat_le, nat_lt, slice_index}
use Rattle.base.specs.Pick.{pick}
use Rattle.base.specs.Told.{Told, gives, refused}
use Rattle.iq.specs.Iq.{header_told}
use Rattle.model.specs.declared.sender.Sender.{Sender}
use Rattle.model.specs.declared.sender.Sender.TheVariants.{V4, V6}

pub data Routed : Type 0 where
  -- a valid I/Q datagram, with its count
  iq : (count : ℕ) → Routed
  status : Routed
  ignored : Routed
  malformed : Routed

-- what 7, 8 or 9 would refuse is malformed
abbrev pub by_header : Told → Routed
by_header (gives vs) = iq (slice_index vs 0)
by_header (refused k vs) = malformed

-- I/Q comes from offset 11 and status from offset 1; up to 10 the others are ignored, and above 11 all is malformed
unfoldable pub by_offset : ℕ → List ℕ → Routed
by_offset offset octets =
    pick (offset == 11) (by_header (header_told octets))
    (pick (offset == 1) status
    (pick (nat_le offset 10) ignored malformed))

-- malformed unless the sender has the radio's IPv4 address and a port from the base up
unfoldable pub routed : ℕ → ℕ → Sender → List ℕ → Routed
routed radio base V6 octets = malformed
routed radio base (V4 ip port) octets =
    pick (not (ip == radio)) malformed
    (pick (nat_lt port base) malformed
    (by_offset (port - base) octets))
