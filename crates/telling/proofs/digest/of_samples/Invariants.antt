-- `telling::digest::of_samples` is safe and ends. Assumes nothing.
use Prim.Native.Nat.{◌+◌, ◌*◌, ◌≤◌}
use Rattle.telling.proofs.digest.of_samples.Given as goal

abbrev pub invariant-loop-x : goal.invariant-loop-x
invariant-loop-x l = (l.s.a ≤ 1 + 1020 * l.x-index) × (l.s.b ≤ 4200000 * l.x-index)

abbrev pub invariant-loop-octet : goal.invariant-loop-octet
invariant-loop-octet l = (l.s.a ≤ 1 + 1020 * l.x-index + 255 * l.octet-index) × (l.s.b ≤ 4200000 * l.x-index + 1050000 * l.octet-index)
