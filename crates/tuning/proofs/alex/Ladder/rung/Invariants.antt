-- `tuning::alex::Ladder::rung` meets its contract: the place of the first rung that f stands on. Assumes nothing.
use mathlib.Core.Path.{◌≡◌}
use lib.ListN.{length}
use Rattle.tuning.specs.Alex.{on_rung}
use Rattle.base.proofs.Searches.{Past}
use Rattle.tuning.proofs.alex.Ladder.rung.Given as goal

abbrev pub invariant-loop-i : goal.invariant-loop-i
invariant-loop-i l = (length l.self.limits ≡ 6) × Past (on_rung l.self.falling l.f) l.self.limits l.i
