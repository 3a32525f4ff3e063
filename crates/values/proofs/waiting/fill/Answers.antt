-- `values::waiting::fill` stores one number a turn. Assumes nothing.
use Prim.Native.Nat.{ℕ, ◌+◌}
use mathlib.Core.Path.{refl, sym, ap, ◌∙◌}
use mathlib.Core.List.{List}
use lib.ListN.{set, length-set}
use native.Mathlib.Omega.{arith}
use Rattle.octets.specs.Table.{tab}
use Rattle.octets.proofs.Writes.{written_none}
use Rattle.values.proofs.Spans.{store-more}
use Rattle.values.proofs.waiting.fill.Goals as goal

pub loop-i-init : goal.loop-i-init
unfolding tab
loop-i-init c = (omega arith, refl, sym (written_none _ _))

pub loop-i-preserved : goal.loop-i-preserved
loop-i-preserved c =
    let l = c.loop-i in
    let a = c.args in
    (omega arith, simp length-set l.invariant.1, ap (λ (m : List ℕ). set m (a.at + l.i) (a.first + l.i)) l.invariant.2 ∙ store-more _ _ _ (λ (j : ℕ). a.first + j) _ (omega arith) refl)
