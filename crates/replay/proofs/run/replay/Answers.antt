-- `replay::run::replay` meets its contract. Assumes nothing.
use mathlib.Core.Path.{◌≡◌}
use native.Mathlib.Omega.{arith}
use lib.ListN.{length}
use Rattle.encoding.specs.Lists.{lent_with}
use Rattle.replay.proofs.Replays.{not_opened, replays}
use Rattle.replay.proofs.run.replay.Goals as goal

pub returns-then-not-is_accepted : goal.returns-then-not-is_accepted
returns-then-not-is_accepted c = let a = c.args in let l = lent_with a.list a.packets.now a.places.now in not_opened a.settings a.opening _ _ _ a.samples.now l a.answers.now c.open-opened.ensures c.is_accepted.ensures c.if-not-is_accepted.true

pub returns : goal.returns
returns c = let a = c.args in let l = lent_with a.list a.packets.now a.places.now in let n : length a.samples.now ≡ 476 = omega arith in replays a.settings a.opening _ _ _ a.samples.now l a.answers.now c.open-opened.ensures c.is_accepted.ensures c.if-not-is_accepted.false n _ _ _ _ _ c.carry_on-outcome.ensures
