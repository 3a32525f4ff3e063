-- `replay::run::run` meets its contract: each turn of the loop is one call of the list. Assumes nothing.
use mathlib.Core.Path.{◌≡◌}
use lib.ListN.{length}
use Rattle.model.specs.Gives.{joined}
use Rattle.encoding.specs.Lists.{lent_with}
use Rattle.replay.proofs.Walks.{Done}
use Rattle.replay.proofs.run.run.Given as goal

abbrev pub invariant-loop-i : goal.invariant-loop-i
invariant-loop-i l =
    (length l.packets ≡ length l.initial.packets) × (length l.places ≡ length l.initial.places) × (length l.answers ≡ length l.initial.answers)
    × Done (joined l.initial.s l.initial.samples) (lent_with l.list l.initial.packets l.initial.places) l.initial.answers l.n l.i l.taken (joined l.s l.samples) l.answers l.packets l.places
