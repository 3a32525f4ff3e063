-- `radio_packets::datagram::all_24` meets its contract: the loop's invariant is that all numbers passed are in the range. Assumes nothing.
use mathlib.Core.Path.{◌≡◌}
use mathlib.Core.Bool.{true}
use lib.ListN.{take}
use Rattle.radio_packets.specs.Iq.{all24}
use Rattle.radio_packets.proofs.datagram.all_24.Given as goal

abbrev pub invariant-loop-x : goal.invariant-loop-x
invariant-loop-x l = all24 (take l.x-index l.samples) ≡ true
