-- `tuning::alex::Ladder::bits_at` meets its contract: the bits at the rung's place, of which the table has one past the last rung. Assumes nothing.
use mathlib.Core.Path.{◌≡◌}
use native.Mathlib.Omega.{arith}
use borrow.Author.Rules.{rules}
use lib.ListN.{length}
use Rattle.base.proofs.Searches.{in_table}
use Rattle.tuning.proofs.alex.Ladder.bits_at.Goals as goal

pub offset_bounds-self-rung : goal.offset_bounds-self-rung
offset_bounds-self-rung c =
    let n : length c.args.self.limits ≡ 6 = search rules in
    omega (arith, in_table _ _ _ 7 c.rung.ensures (omega arith))

pub bounds-self-rung : goal.bounds-self-rung
bounds-self-rung c = let n : length c.args.self.limits ≡ 6 = search rules in in_table _ _ _ 7 c.rung.ensures (omega arith)
