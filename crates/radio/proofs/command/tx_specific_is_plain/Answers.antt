-- `radio::command::tx_specific_is_plain` meets its contract: a run of zeros, and one octet that is fixed. Assumes nothing.
use native.Mathlib.Omega.{arith}
use Rattle.radio.proofs.Plains.{tx-plain}
use Rattle.radio.proofs.command.tx_specific_is_plain.Goals as goal

pub returns : goal.returns
returns c =
    let a = c.args.p.now in
    tx-plain a (λ k. omega (arith, c.type_inv.p k)) c.requires _ c.is_zero-past.ensures
