-- `radio::listen::read_commands` meets its contract: what is read of the packets passed, and what is left of them, is all of them.
-- Assumes nothing.
use Prim.Native.Nat.{◌≤◌}
use mathlib.Core.Path.{◌≡◌}
use lib.ListN.{length, drop}
use Rattle.radio.specs.Listen.{cut, received}
use Rattle.radio.proofs.Listens.{onward}
use Rattle.radio.proofs.listen.read_commands.Given as goal

abbrev pub invariant-loop-offset : goal.invariant-loop-offset
invariant-loop-offset l =
    (l.at ≤ length l.packets) × (l.accepted ≤ l.offset-index)
    × (onward l.initial.next 0 (received l.initial.next (cut l.offsets l.packets)) ≡ onward l.next l.accepted (received l.next (cut (drop l.offset-index l.offsets) (drop l.at l.packets))))
