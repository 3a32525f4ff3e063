-- `encoding::check::check` meets its contract. Assumes nothing.
use native.Mathlib.Omega.{arith}
use Rattle.encoding.proofs.Checks.{not-whole, not-as-many, by-each}
use Rattle.encoding.proofs.check.check.Goals as goal

pub returns-then-calls-ne0 : goal.returns-then-calls-ne0
returns-then-calls-ne0 c = let a = c.args in not-whole a.calls.now a.room a.answers c.if-calls-ne0.true

pub returns-then-answers-calls : goal.returns-then-answers-calls
returns-then-answers-calls c = let a = c.args in not-as-many a.calls.now a.room a.answers c.if-calls-ne0.false (λ e. omega (arith, e, c.if-answers-calls.true))

pub returns : goal.returns
returns c = let a = c.args in by-each a.calls.now a.room a.answers c.if-calls-ne0.false (omega (arith, c.if-answers-calls.false)) _ c.check_each.ensures
