-- `lines::argument::arguments` reads the words of a form one by one. Assumes nothing.
use mathlib.Core.Path.{sym, ap, ◌∙◌}
use mathlib.Core.List.{List}
use native.Mathlib.Omega.{arith}
use lib.ListN.{length, get_or}
use Rattle.lines.specs.declared.argument.Kind.{Kind}
use Rattle.lines.specs.declared.argument.Kind.TheVariants.{Reading}
use Rattle.lines.proofs.Fillings.{filled, not_there, not-read, read-on}
use Rattle.lines.proofs.argument.arguments.Goals as goal

pub returns-in_default : goal.returns-in_default
returns-in_default c =
    let f = c.words-kind-items.ensures in
    not_there _ _ _ _ _ _ _ _ c.loop-j.invariant (omega (arith, ap length f, c.loop-j-test.true)) _ (ap (λ (x : List Kind). get_or x c.loop-j.j Reading) f) c.in_default.ensures

pub returns-in_default-argument : goal.returns-in_default-argument
returns-in_default-argument c =
    let f = c.words-kind-items.ensures in
    not-read _ _ _ _ _ _ _ _ c.loop-j.invariant (omega (arith, ap length f, c.loop-j-test.true)) _ (ap (λ (x : List Kind). get_or x c.loop-j.j Reading) f) _ _ c.in-Some.ensures _ (sym c.argument.ensures.0 ∙ c.in_default-argument.is) c.argument.ensures.1

pub loop-j-preserved : goal.loop-j-preserved
loop-j-preserved c =
    let f = c.words-kind-items.ensures in
    read-on _ _ _ _ _ _ _ _ c.loop-j.invariant (omega (arith, ap length f, c.loop-j-test.true)) _ (ap (λ (x : List Kind). get_or x c.loop-j.j Reading) f) _ _ c.in-Some.ensures _ _ (sym c.argument.ensures.0 ∙ c.in-Some-argument.is) c.argument.ensures.1

pub returns : goal.returns
returns c = filled _ _ _ _ _ _ _ _ c.loop-j.invariant (omega (arith, ap length c.words-kind-items.ensures, c.loop-j-test.false))
