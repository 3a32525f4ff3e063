-- `lines::open::opened` takes the settings one by one. Assumes nothing.
use mathlib.Core.Path.{ap, ◌∙◌}
use Rattle.lines.specs.Open.{unread_opening}
use Rattle.lines.proofs.Openings.{untaken, all_said, within}
use Rattle.lines.proofs.open.opened.Goals as goal

pub returns-in-Err : goal.returns-in-Err
returns-in-Err c = c.unread.ensures ∙ ap unread_opening c.expected.ensures ∙ untaken _ _ _ _ _ c.options-run.ensures.0 _ c.in-Err.is

pub settings_of-requires : goal.settings_of-requires
settings_of-requires c = within _ _ _ _ _ c.options-run.ensures.0 c.in_default.is

pub returns : goal.returns
returns c = rw (c.or_else.ensures, c.settings_of.ensures) (all_said _ _ _ _ _ c.options-run.ensures.0 c.in_default.is)
