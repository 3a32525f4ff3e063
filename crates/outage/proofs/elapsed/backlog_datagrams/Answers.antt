-- `outage::elapsed::backlog_datagrams` meets its contract: each turn of the loop takes one number off what is left of the walk. Assumes nothing.
use Prim.Native.Nat.{ℕ, min}
use mathlib.Core.Path.{◌≡◌, ap, ◌∙◌}
use native.Mathlib.Omega.{arith}
use Rattle.double.specs.Whole.{most}
use Rattle.model.specs.Rules.{backlog}
use Rattle.outage.proofs.Walks.{walk_more, walk-done}
use Rattle.outage.proofs.elapsed.backlog_datagrams.Goals as goal

pub loop-seq-preserved : goal.loop-seq-preserved
loop-seq-preserved c = let l = c.loop-seq in
    let a = c.args in
    let w = walk_more c.jump_limit-plausible.result l.copy a.waiting.now l.seq-index _ _ _ (omega arith) c.observe-event.ensures c.capped.ensures c.datagrams.ensures in
    (omega (arith, c.saturating_add-total.ensures), omega (arith, w, l.invariant.1, c.saturating_add-total.ensures))

pub returns : goal.returns
returns c = let l = c.loop-seq in
    let a = c.args in
    let w = walk-done c.jump_limit-plausible.result l.copy a.waiting.now l.seq-index (omega arith) in
    let e : l.total ≡ min (backlog c.jump_limit-plausible.result a.tracker a.waiting.now) most = omega (arith, w, l.invariant) in
    e ∙ ap (λ (n : ℕ). min (backlog n a.tracker a.waiting.now) most) c.jump_limit-plausible.ensures
