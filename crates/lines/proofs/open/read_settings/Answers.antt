-- `lines::open::read_settings` reads the name, then the settings. Assumes nothing.
use mathlib.Core.Path.{sym, ◌∙◌}
use Rattle.lines.proofs.Openings.{too_long, no_words, no_name, not-open, is_open}
use Rattle.lines.proofs.open.read_settings.Goals as goal

pub returns-then-line-gt-LONGEST : goal.returns-then-line-gt-LONGEST
returns-then-line-gt-LONGEST c = c.unread.ensures ∙ too_long _ c.if-line-gt-LONGEST.true

pub returns-in_default : goal.returns-in_default
returns-in_default c = c.unread-in_default.ensures ∙ no_words _ c.if-line-gt-LONGEST.false c.in_default.ensures

pub returns-in_default-name : goal.returns-in_default-name
returns-in_default-name c = c.unread-in_default-name.ensures ∙ no_name _ c.if-line-gt-LONGEST.false _ _ _ c.in-Some.ensures c.in_default-name.is

pub returns-then-eq : goal.returns-then-eq
returns-then-eq c = c.opened.ensures ∙ is_open _ c.if-line-gt-LONGEST.false _ _ _ c.in-Some.ensures _ c.in-Some-name.is (sym c.eq.ensures ∙ c.if-eq.true)

pub returns : goal.returns
returns c = c.unread-2.ensures ∙ not-open _ c.if-line-gt-LONGEST.false _ _ _ c.in-Some.ensures _ c.in-Some-name.is (sym c.eq.ensures ∙ c.if-eq.false)
