-- `radio_packets::datagram::put_samples` writes three octets a turn. Assumes nothing.
use mathlib.Core.Path.{◌≡◌}
use lib.ListN.{length, take}
use Rattle.octets.specs.Written.{written}
use Rattle.radio_packets.specs.Iq.{octets_of}
use Rattle.radio_packets.proofs.datagram.put_samples.Given as goal

abbrev pub invariant-loop-i : goal.invariant-loop-i
invariant-loop-i l = (length l.out ≡ length l.initial.out) × (l.out ≡ written l.initial.out 16 (octets_of (take l.i l.samples)))
