-- `text::number` reads by the base that the front of the text tells. Assumes nothing.
use mathlib.Core.Path.{sym, ◌∙◌}
use Rattle.text.proofs.Spelling.{hex-number, plain-number}
use Rattle.text.proofs.number.Goals as goal

pub returns-then-is_hex : goal.returns-then-is_hex
returns-then-is_hex c = c.digits.ensures ∙ hex-number _ (sym c.is_hex.ensures.0 ∙ c.if-is_hex.true)

pub returns : goal.returns
returns c = c.digits-2.ensures ∙ plain-number _ (sym c.is_hex.ensures.0 ∙ c.if-is_hex.false)
