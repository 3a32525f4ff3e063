-- The rate's answer in 01's terms leaves no doubt which it was. Assumes nothing.
use Rattle.std.specs.Prelude.{ℕ, Option, Some, None}
use mathlib.Core.Path.{◌≡◌, refl}
use Rattle.base.specs.Told.{Told, gives, refused}
use Rattle.base.proofs.Told.{apart, value}
use Rattle.tuning.specs.Rate.{rate_answer}

rate-back : Told → Option ℕ
rate-back (gives vs) = Some (value vs)
rate-back (refused k vs) = None

rate-same : (r : Option ℕ) → rate-back (rate_answer r) ≡ r
unfolding rate-back value
rate-same (Some khz) = refl
rate-same None = refl

pub rate-apart : (r s : Option ℕ) → rate_answer r ≡ rate_answer s → r ≡ s
rate-apart = apart rate_answer rate-back rate-same
