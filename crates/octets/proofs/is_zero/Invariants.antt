-- `octets::is_zero` meets its contract: the loop's invariant is that all octets passed are 0. Assumes nothing.
use Rattle.octets.specs.Packet.{Zero}
use Rattle.octets.proofs.is_zero.Given as goal

abbrev pub invariant-loop-i : goal.invariant-loop-i
invariant-loop-i l = Zero l.p l.from l.i
