-- `radio::command::general_is_plain` meets its contract: two runs of zeros, and two octets that are fixed. Assumes nothing.
use native.Mathlib.Omega.{arith}
use Rattle.radio.proofs.Plains.{general-plain}
use Rattle.radio.proofs.command.general_is_plain.Goals as goal

pub returns : goal.returns
returns c =
    let a = c.args.p.now in
    general-plain a (λ k. omega (arith, c.type_inv.p k)) c.requires _ _ c.is_zero-before.ensures c.is_zero-past.ensures
