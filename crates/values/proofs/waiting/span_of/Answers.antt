-- `values::waiting::span_of` parts the word at its dash. Assumes nothing.
use Prim.Native.Nat.{◌+◌}
use mathlib.Core.Path.{◌≡◌, sym, ap, ◌∙◌}
use native.Mathlib.Omega.{arith}
use Rattle.std.specs.Prelude.{None}
use Rattle.text.proofs.Splits.{to_the_end}
use Rattle.values.specs.Value.{number}
use Rattle.values.proofs.Values.{number-most}
use Rattle.values.proofs.Spans.{not-one, one, no-first, no_last, rising, falling}
use borrow.Author.Rules.{rules}
use Rattle.values.proofs.waiting.span_of.Goals as goal

pub returns-in_err-n : goal.returns-in_err-n
returns-in_err-n c =
    let e : c.from_residual.result ≡ None = search rules in
    e ∙ not-one _ _ c.find-dash.ensures.0 c.if-dash-p.true (sym c.number.ensures ∙ c.in_err-n.was)

pub returns-then-dash-p : goal.returns-then-dash-p
returns-then-dash-p c = one _ _ c.find-dash.ensures.0 c.if-dash-p.true _ (sym c.number.ensures ∙ c.in_ok-n.was)

pub returns-in_err-a : goal.returns-in_err-a
returns-in_err-a c =
    let e : c.from_residual-in_err-a.result ≡ None = search rules in
    e ∙ no-first _ _ c.find-dash.ensures.0 (search rules) (sym c.number-2.ensures ∙ c.in_err-a.was)

pub returns-in_err-b : goal.returns-in_err-b
returns-in_err-b c =
    let e : c.from_residual-in_err-b.result ≡ None = search rules in
    e ∙ no_last _ _ c.find-dash.ensures.0 (search rules) _ (sym c.number-2.ensures ∙ c.in_ok-a.was) (ap (number 4294967295) (sym (to_the_end c.args.p.now (c.find-dash.result + 1))) ∙ sym c.number-3.ensures ∙ c.in_err-b.was)

pub overflow_add-result : goal.overflow_add-result
overflow_add-result c = let h = number-most _ _ _ (sym c.number-3.ensures ∙ c.in_ok-b.was) in omega arith

pub returns-then-a-b : goal.returns-then-a-b
returns-then-a-b c = rising _ _ c.find-dash.ensures.0 (search rules) _ (sym c.number-2.ensures ∙ c.in_ok-a.was) _ (ap (number 4294967295) (sym (to_the_end c.args.p.now (c.find-dash.result + 1))) ∙ sym c.number-3.ensures ∙ c.in_ok-b.was) c.if-a-b.true

pub returns : goal.returns
returns c = falling _ _ c.find-dash.ensures.0 (search rules) _ (sym c.number-2.ensures ∙ c.in_ok-a.was) _ (ap (number 4294967295) (sym (to_the_end c.args.p.now (c.find-dash.result + 1))) ∙ sym c.number-3.ensures ∙ c.in_ok-b.was) c.if-a-b.false
