-- `receiving::queue::copy_out` meets its contract: each turn of the loop leaves one number more at the front. Assumes nothing.
use Prim.Native.Nat.{ℕ, ◌+◌}
use mathlib.Core.Path.{◌≡◌}
use mathlib.Core.List.{◌++◌}
use lib.ListN.{length, get_or, drop}
use lib.Ieee.{nan}
use Rattle.octets.specs.Table.{tab}
use Rattle.receiving.proofs.queue.copy_out.Given as goal

abbrev pub invariant-loop-i : goal.invariant-loop-i
invariant-loop-i l =
    (length l.out ≡ length l.initial.out) × (l.out ≡ tab l.i (λ (k : ℕ). get_or l.q (l.from + k) nan) ++ drop l.i l.initial.out)
