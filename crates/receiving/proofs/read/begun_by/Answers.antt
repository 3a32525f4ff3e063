-- `receiving::read::begun_by` meets its contract: the anchor and the window are those of its two callees. Assumes nothing.
use Rattle.std.specs.Prelude.{ℕ, ◌≡◌, Option, Some, None}
use Rattle.std.specs.Option.{option_or}
use Rattle.std.proofs.Common.{refl, ◌∙◌}
use Rattle.model.specs.Begin.{or_at}
use Rattle.receiving.proofs.Receivers.{begun-so}
use Rattle.receiving.proofs.read.begun_by.Goals as goal

so : (anchor : Option ℕ) (now : ℕ) → option_or anchor (Some now) ≡ or_at anchor now
unfolding or_at
so None now = refl
so (Some t) now = refl

pub returns : goal.returns
returns c = let a = c.args in begun-so a.r.now a.size a.now _ _ (c.or-anchor.ensures ∙ so a.r.now.reading.wait_entered a.now) c.begun-r.ensures
