-- `marking::note::took` meets its contract. Assumes nothing.
use mathlib.Core.Path.{◌∙◌}
use Rattle.marking.proofs.Codes.{not-took, is-took}
use Rattle.marking.proofs.note.took.Goals as goal

pub returns-then-code-eq-TOOK : goal.returns-then-code-eq-TOOK
returns-then-code-eq-TOOK c = c.hand.ensures ∙ is-took _ _ _ c.if-code-eq-TOOK.true

pub returns-else-code-eq-TOOK : goal.returns-else-code-eq-TOOK
returns-else-code-eq-TOOK c = not-took _ _ _ c.if-code-eq-TOOK.false
