-- `values::hexadecimal::decode` reads a pair of digits a turn. Assumes nothing.
use Prim.Native.Nat.{◌*◌, ◌≤◌}
use mathlib.Core.Path.{◌≡◌}
use mathlib.Core.List.{◌++◌}
use lib.ListN.{length, drop}
use Rattle.octets.specs.Table.{tab}
use Rattle.text.proofs.Runs.{Passed}
use Rattle.values.specs.Octets.{hex_digit, octet_at}
use Rattle.values.proofs.hexadecimal.decode.Given as goal

abbrev pub invariant-loop-i : goal.invariant-loop-i
invariant-loop-i l = (l.i ≤ l.count) × (length l.room ≡ length l.initial.room) × Passed hex_digit l.w (2 * l.i) × (l.room ≡ tab l.i (octet_at l.w) ++ drop l.i l.initial.room)
