-- `encoding::check::check_each` meets its contract: each turn of the loop is one call on. Assumes nothing.
use Prim.Native.Nat.{◌-◌}
use mathlib.Core.Path.{◌≡◌}
use Rattle.encoding.specs.Words.{nothing, Within}
use Rattle.encoding.specs.Lists.{check_from}
use Rattle.encoding.proofs.check.check_each.Given as goal

abbrev pub invariant-loop-i : goal.invariant-loop-i
invariant-loop-i l =
    Within l.taken l.room × (check_from l.calls l.room (l.n - l.i) l.i l.taken ≡ check_from l.calls l.room l.n 0 nothing)
