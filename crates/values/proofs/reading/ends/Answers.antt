-- `values::reading::ends` compares the word's end. Assumes nothing.
use mathlib.Core.Path.{sym}
use Rattle.std.proofs.lemmas.Bool.Decides.{Decides-eqb}
use Rattle.std.proofs.lemmas.Slice.Eq.{slice_eq-Decides}
use Rattle.text.proofs.Names.{same-told}
use Rattle.values.specs.Value.{ends}
use Rattle.values.proofs.reading.ends.Goals as goal

pub returns : goal.returns
unfolding ends
returns c = let d = slice_eq-Decides Decides-eqb _ _ _ c.ends_with.ensures.value in (same-told _ _ _ (λ t. sym (d.0 t)) (λ e. d.1 (sym e)), c.ends_with.ensures.bound)
