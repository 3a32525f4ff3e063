-- `radio::command::high_priority_is_plain` meets its contract: four runs of zeros. Assumes nothing.
use native.Mathlib.Omega.{arith}
use Rattle.radio.proofs.Plains.{high-plain}
use Rattle.radio.proofs.command.high_priority_is_plain.Goals as goal

pub returns : goal.returns
returns c =
    let a = c.args.p.now in
    high-plain a (λ k. omega (arith, c.type_inv.p k)) c.requires _ _ _ _
    c.is_zero-before.ensures c.is_zero-between.ensures c.is_zero-behind.ensures c.is_zero-past.ensures
