-- `text::place_of` goes over the names one by one. Assumes nothing.
use mathlib.Core.Path.{sym, ◌∙◌}
use mathlib.Core.Bool.{true≢false}
use Rattle.std.proofs.lemmas.Bool.Decides.{Decides-eqb}
use Rattle.std.proofs.lemmas.Slice.Eq.{slice_eq-Decides}
use Rattle.text.proofs.Names.{not_there, there, go_on}
use Rattle.text.proofs.place_of.Goals as goal

pub returns-then-eq : goal.returns-then-eq
returns-then-eq c = there _ _ _ _ c.loop-name.invariant _ _ c.in-Some.ensures ((slice_eq-Decides Decides-eqb _ _ _ c.eq.ensures).0 c.if-eq.true)

pub loop-name-preserved : goal.loop-name-preserved
loop-name-preserved c = go_on _ _ _ _ c.loop-name.invariant _ _ c.in-Some.ensures (λ e. true≢false (sym ((slice_eq-Decides Decides-eqb _ _ _ c.eq.ensures).1 e) ∙ c.if-eq.false))

pub returns : goal.returns
returns c = not_there _ _ _ _ c.loop-name.invariant c.in_default.ensures
