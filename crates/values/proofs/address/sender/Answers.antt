-- `values::address::sender` parts the word at its colon. Assumes nothing.
use Prim.Native.Nat.{◌+◌}
use mathlib.Core.Path.{◌≡◌, sym, ap, ◌∙◌}
use native.Mathlib.Omega.{arith}
use Rattle.std.specs.Prelude.{None}
use Rattle.text.proofs.Splits.{to_the_end}
use Rattle.values.specs.Value.{number}
use Rattle.values.proofs.Values.{number-most}
use Rattle.values.proofs.Addresses.{host-below, no-colon, no-host, no-port, with-port}
use borrow.Author.Rules.{rules}
use Rattle.values.proofs.address.sender.Goals as goal

pub returns-then-colon-w : goal.returns-then-colon-w
returns-then-colon-w c = no-colon _ _ c.find-colon.ensures.0 c.if-colon-w.true

pub returns-in_err-a : goal.returns-in_err-a
returns-in_err-a c =
    let e : c.from_residual.result ≡ None = search rules in
    e ∙ no-host _ _ c.find-colon.ensures.0 (search rules) (sym c.host.ensures ∙ c.in_err-a.was)

pub returns-in_err-p : goal.returns-in_err-p
returns-in_err-p c =
    let e : c.from_residual-in_err-p.result ≡ None = search rules in
    e ∙ no-port _ _ c.find-colon.ensures.0 (search rules) _ (sym c.host.ensures ∙ c.in_ok-a.was) (ap (number 65535) (sym (to_the_end c.args.w.now (c.find-colon.result + 1))) ∙ sym c.number.ensures ∙ c.in_err-p.was)

pub overflow_mul-result : goal.overflow_mul-result
overflow_mul-result c = let h = host-below _ _ (sym c.host.ensures ∙ c.in_ok-a.was) in omega arith

pub overflow_add-result : goal.overflow_add-result
overflow_add-result c =
    let h = host-below _ _ (sym c.host.ensures ∙ c.in_ok-a.was) in
    let p = number-most _ _ _ (sym c.number.ensures ∙ c.in_ok-p.was) in omega arith

pub returns : goal.returns
returns c = with-port _ _ c.find-colon.ensures.0 (search rules) _ _ (sym c.host.ensures ∙ c.in_ok-a.was) (ap (number 65535) (sym (to_the_end c.args.w.now (c.find-colon.result + 1))) ∙ sym c.number.ensures ∙ c.in_ok-p.was)
