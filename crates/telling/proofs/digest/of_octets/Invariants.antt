-- `telling::digest::of_octets` is safe and ends. Assumes nothing.
use Prim.Native.Nat.{◌+◌, ◌*◌, ◌≤◌}
use Rattle.telling.proofs.digest.of_octets.Given as goal

abbrev pub invariant-loop-x : goal.invariant-loop-x
invariant-loop-x l = (l.s.a ≤ 1 + 255 * l.x-index) × (l.s.b ≤ 2100000 * l.x-index)
