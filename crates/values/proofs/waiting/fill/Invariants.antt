-- `values::waiting::fill` stores one number a turn. Assumes nothing.
use Prim.Native.Nat.{◌≤◌}
use mathlib.Core.Path.{◌≡◌}
use lib.ListN.{length}
use Rattle.octets.specs.Written.{written}
use Rattle.values.specs.Waiting.{from}
use Rattle.values.proofs.waiting.fill.Given as goal

abbrev pub invariant-loop-i : goal.invariant-loop-i
invariant-loop-i l = (l.i ≤ l.k) × (length l.numbers ≡ length l.initial.numbers) × (l.numbers ≡ written l.initial.numbers l.at (from l.first l.i))
