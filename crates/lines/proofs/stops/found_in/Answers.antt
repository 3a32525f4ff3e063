-- `lines::stops::found_in` reads the name, then the words behind it. Assumes nothing.
use Rattle.lines.proofs.Rests.{no_words, no_name, after-name, at-end}
use Rattle.lines.proofs.stops.found_in.Goals as goal

pub returns-in_default : goal.returns-in_default
returns-in_default c = no_words _ c.in_default.ensures

pub returns-in_default-name : goal.returns-in_default-name
returns-in_default-name c = no_name _ _ _ _ c.in-Some.ensures c.in_default-name.is

pub returns-in-None : goal.returns-in-None
returns-in-None c = at-end _ _ _ _ c.in-Some.ensures _ c.in-Some-name.is _ c.unread.ensures c.in-None.ensures

pub returns-in-Some-split_word : goal.returns-in-Some-split_word
returns-in-Some-split_word c = after-name _ _ _ _ c.in-Some.ensures _ c.in-Some-name.is _ c.unread.ensures _ _ c.in-Some-split_word.ensures
