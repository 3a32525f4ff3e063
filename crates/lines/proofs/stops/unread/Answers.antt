-- `lines::stops::unread` goes the ways that reading goes. Assumes nothing.
use mathlib.Core.Path.{sym, ◌∙◌}
use Rattle.lines.proofs.Rests.{some-unread, none-unread, at-setting, at-word, at_option}
use Rattle.lines.proofs.stops.unread.Goals as goal

pub returns-then-eq : goal.returns-then-eq
returns-then-eq c = c.options.ensures.1 ∙ at-setting _ _ (sym c.eq.ensures ∙ c.if-eq.true)

pub returns-then-is_some : goal.returns-then-is_some
returns-then-is_some c =
    let k = some-unread c.arguments-given.result.unread (sym c.is_some.ensures ∙ c.if-is_some.true) in
    at-word _ _ (sym c.eq.ensures ∙ c.if-eq.false) _ _ _ _ _ c.arguments-given.ensures k.0 k.1

pub returns : goal.returns
returns c = c.options-2.ensures.1 ∙ at_option _ _ (sym c.eq.ensures ∙ c.if-eq.false) _ _ _ _ _ c.arguments-given.ensures (none-unread c.arguments-given.result.unread (sym c.is_some.ensures ∙ c.if-is_some.false)) _ c.keys_end.ensures
