-- `text::digits` reads the digits one by one. Assumes nothing.
use Prim.Native.Nat.{◌+◌, ◌*◌, ◌<◌}
use mathlib.Core.Path.{◌≡◌, ◌∙◌}
use borrow.Author.Rules.{rules}
use native.Mathlib.Omega.{arith}
use Rattle.std.specs.Prelude.{None}
use Rattle.std.proofs.lemmas.Grind.{common_steps}
use Rattle.text.proofs.Spelling.{none_read, no-digits, all_read, one-read, not-a-digit, too_large}
use Rattle.text.proofs.digits.Goals as goal

pub returns-then-is_empty : goal.returns-then-is_empty
returns-then-is_empty c = no-digits _ _ (search rules)

pub loop-x-init : goal.loop-x-init
loop-x-init c = none_read _ _ (search rules)

pub returns-then-d-base : goal.returns-then-d-base
returns-then-d-base c = not-a-digit _ _ _ _ c.loop-x.invariant _ (search rules) c.digit-d.ensures.0 c.if-d-base.true

pub returns-in_err-checked_mul : goal.returns-in_err-checked_mul
returns-in_err-checked_mul c =
    let e : c.from_residual.result ≡ None = search rules in
    let h : 18446744073709551615 < c.loop-x.n * c.args.base + c.digit-d.result = grind (arith, common_steps) in
    e ∙ too_large _ _ _ _ c.loop-x.invariant _ (search rules) c.digit-d.ensures.0 (search rules) h

pub returns-in_err-n : goal.returns-in_err-n
returns-in_err-n c =
    let e : c.from_residual-in_err-n.result ≡ None = search rules in
    let h : 18446744073709551615 < c.loop-x.n * c.args.base + c.digit-d.result = grind (arith, common_steps) in
    e ∙ too_large _ _ _ _ c.loop-x.invariant _ (search rules) c.digit-d.ensures.0 (search rules) h

pub loop-x-preserved : goal.loop-x-preserved
loop-x-preserved c =
    let h : c.in_ok-n.n ≡ c.loop-x.n * c.args.base + c.digit-d.result = grind (arith, common_steps) in
    rw h (one-read _ _ _ _ c.loop-x.invariant _ (search rules) c.digit-d.ensures.0 (search rules) (grind (arith, common_steps)))

pub returns : goal.returns
returns c = all_read _ _ _ _ c.loop-x.invariant (search rules)
