-- `receiving::queue::copy_out` meets its contract: each turn of the loop leaves one number more at the front. Assumes nothing.
use Prim.Native.Nat.{ℕ, ◌-◌, ◌+◌, min}
use mathlib.Core.Path.{◌≡◌, refl, sym, ap, ◌∙◌}
use mathlib.Core.List.{List, ◌++◌}
use lib.ListN.{length, get_or, set, take, drop, length-set, length-take, length-drop}
use native.Mathlib.Omega.{arith}
use lib.Ieee.{Float, nan}
use Rattle.octets.specs.Table.{tab}
use Rattle.octets.proofs.Tables.{tab-none, tab-more, tab-rest}
use Rattle.octets.proofs.Writes.{written-front}
use Rattle.receiving.proofs.queue.copy_out.Goals as goal

pub loop-i-init : goal.loop-i-init
loop-i-init c = (refl, tab-none _ _)

pub loop-i-preserved : goal.loop-i-preserved
loop-i-preserved c = let l = c.loop-i in
    let a = c.args in
    let f : ℕ → Float = λ k. get_or a.q.now (a.from + k) nan in (
      simp length-set l.invariant.0,
      ap (λ (x : List Float). set x l.i (f l.i)) l.invariant.1 ∙ tab-more l.i f a.out.now (f l.i) nan (omega arith) refl,
    )

pub returns : goal.returns
returns c = let l = c.loop-i in
    let a = c.args in
    let e : l.i ≡ min (min a.n (length a.out.now)) (length a.q.now - a.from) =
    omega (arith, c.min-count.ensures, c.saturating_sub.ensures, c.min.ensures) in
    let k = min a.n (length a.out.now) in
    let q = drop a.from a.q.now in
    l.invariant.1
    ∙ ap (λ (j : ℕ). tab j (λ (i : ℕ). get_or a.q.now (a.from + i) nan) ++ drop j a.out.now) e
    ∙ ap (λ (x : List Float). x ++ drop (min k (length a.q.now - a.from)) a.out.now) (tab-rest k a.q.now a.from nan)
    ∙ sym (written-front a.out.now (take k q) _ (length-take k q ∙ ap (min k) (length-drop a.from a.q.now)))
