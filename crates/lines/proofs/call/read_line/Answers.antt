-- `lines::call::read_line` reads the name, then the call. Assumes nothing.
use mathlib.Core.Path.{◌≡◌, sym, ◌∙◌}
use native.Mathlib.Omega.{arith}
use Rattle.std.specs.Prelude.{Some, None, Err}
use Rattle.std.proofs.lemmas.Grind.{common_steps}
use Rattle.lines.specs.declared.Expected.TheVariants.{Call}
use Rattle.lines.proofs.Calls.{too_long, nothing, opens, not-a-call, called}
use Rattle.lines.proofs.call.read_line.Goals as goal

pub returns-then-line-gt-LONGEST : goal.returns-then-line-gt-LONGEST
returns-then-line-gt-LONGEST c = too_long _ _ _ c.if-line-gt-LONGEST.true

pub returns-in_default : goal.returns-in_default
returns-in_default c = nothing _ _ _ c.if-line-gt-LONGEST.false c.in_default.ensures

pub returns-in_err-name : goal.returns-in_err-name
returns-in_err-name c =
    let n : c.in-Some.first.name ≡ None = grind (arith, common_steps) in
    let e : c.from_residual.result ≡ Err Call = grind (arith, common_steps) in
    rw e (not-a-call _ _ _ c.if-line-gt-LONGEST.false _ _ _ c.in-Some.ensures n)

pub returns-then-eq : goal.returns-then-eq
returns-then-eq c =
    let k : c.in-Some.first.name ≡ Some c.in_ok-name.name = grind (arith, common_steps) in
    opens _ _ _ c.if-line-gt-LONGEST.false _ _ _ c.in-Some.ensures _ k (sym c.eq.ensures ∙ c.if-eq.true)

pub returns : goal.returns
returns c =
    let k : c.in-Some.first.name ≡ Some c.in_ok-name.name = grind (arith, common_steps) in
    called _ _ _ c.if-line-gt-LONGEST.false _ _ _ c.in-Some.ensures _ k (sym c.eq.ensures ∙ c.if-eq.false) _ _ c.read_named.ensures
