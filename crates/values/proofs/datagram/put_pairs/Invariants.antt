-- `values::datagram::put_pairs` writes a pair a turn. Assumes nothing.
use Prim.Native.Nat.{◌*◌, ◌≤◌}
use mathlib.Core.Path.{◌≡◌}
use lib.ListN.{length}
use Rattle.octets.specs.Written.{written}
use Rattle.values.specs.Datagram.{pairs}
use Rattle.values.proofs.datagram.put_pairs.Given as goal

abbrev pub invariant-loop-j : goal.invariant-loop-j
invariant-loop-j l = (l.j ≤ 238) × (length l.p ≡ length l.initial.p) × (l.p ≡ written l.initial.p 16 (pairs l.number l.j)) × (l.first ≡ l.number * 238)
