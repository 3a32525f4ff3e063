-- An outage is told once, and its report handed out once. Assumes nothing.
use Prim.Native.Nat.{ℕ}
use mathlib.Core.Bool.{false}
use mathlib.Core.Path.{◌≡◌, refl}
use Rattle.stall.specs.Episode.{is_due, reported, taken}
use Rattle.stall.specs.declared.StallEpisode.{StallEpisode}

-- no report is due after a report, until a delivery
pub told-once : (e : StallEpisode) (last now soft hard : ℕ) → is_due (reported e) last now soft hard ≡ false
unfolding is_due
told-once e last now soft hard = refl

pub taken-once : (e : StallEpisode) → (taken (taken e).episode).stalled ≡ false
taken-once e = refl
