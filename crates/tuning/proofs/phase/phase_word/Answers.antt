-- `tuning::phase::phase_word` meets its contract: the cast is the floor, cut at the largest u32. Assumes nothing.
use mathlib.Core.Path.{◌∙◌}
use lib.Ieee.{of_bits}
use Rattle.tuning.proofs.Phases.{word-of-cast}
use Rattle.tuning.proofs.phase.phase_word.Goals as goal

pub returns : goal.returns
unfolding of_bits
returns c = c.cast_u32.ensures ∙ word-of-cast c.args.f
