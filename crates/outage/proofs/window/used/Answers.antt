-- `outage::window::used` meets its contract. Assumes nothing.
use mathlib.Core.Path.{◌≡◌, ◌∙◌}
use Rattle.std.specs.Prelude.{None}
use borrow.Author.Rules.{rules}
use Rattle.outage.proofs.Times.{used-none, used-last, used-one}
use Rattle.outage.proofs.window.used.Goals as goal

pub returns-in_err-parked : goal.returns-in_err-parked
returns-in_err-parked c =
    let e : c.from_residual.result ≡ None = search rules in
    e ∙ used-none c.args.window c.args.missing c.in_err-parked.was

pub returns-then-parked-le1 : goal.returns-then-parked-le1
returns-then-parked-le1 c = used-last c.args.window c.args.missing _ c.in_ok-parked.was c.if-parked-le1.true

pub returns : goal.returns
returns c = used-one c.args.window c.args.missing _ _ _ c.in_ok-parked.was c.if-parked-le1.false c.saturating_add-heard.ensures c.saturating_add.ensures
