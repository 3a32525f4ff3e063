-- `values::datagram::put_pairs` writes a pair a turn. Assumes nothing.
use Prim.Native.Nat.{ℕ, ◌%◌}
use mathlib.Core.Path.{refl, ap}
use native.Mathlib.Omega.{arith}
use Rattle.values.proofs.Datagrams.{pairs-none, pairs-more}
use borrow.Author.Rules.{rules}
use Rattle.values.proofs.datagram.put_pairs.Goals as goal

pub loop-j-init : goal.loop-j-init
loop-j-init c = (search rules, refl, pairs-none _ _, refl)

pub loop-j-preserved : goal.loop-j-preserved
loop-j-preserved c = let l = c.loop-j in (omega arith, omega arith, pairs-more _ _ _ _ _ _ _ (omega arith) (omega arith) l.invariant.2 (ap (λ (n : ℕ). n % 16777216) (omega arith)) c.put_u24.ensures c.put_u24-in-loop-j.ensures, l.invariant.3)
