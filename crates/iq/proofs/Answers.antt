-- The answer to a header in 01's terms leaves no doubt which it was. Assumes nothing.
use Rattle.std.specs.Prelude.{ℕ, Result, Ok, Err}
use Rattle.iq.specs.declared.IqError.{IqError}
use Rattle.iq.specs.declared.IqError.TheVariants.{Length, BitsPerSample, SamplesPerFrame, NoRoom}
use mathlib.Core.Path.{◌≡◌, refl}
use lib.Dec.{eqb}
use Rattle.base.specs.Pick.{pick}
use Rattle.base.specs.Told.{Told, gives, refused}
use Rattle.base.proofs.Told.{apart, value}
use Rattle.iq.specs.Iq.{iq_answer}

iq-back : Told → Result ℕ IqError
iq-back (gives vs) = Ok (value vs)
iq-back (refused k vs) = pick (eqb k 7) (Err (Length (value vs))) (pick (eqb k 8) (Err (BitsPerSample (value vs))) (pick (eqb k 9) (Err (SamplesPerFrame (value vs))) (Err NoRoom)))

iq-same : (r : Result ℕ IqError) → iq-back (iq_answer r) ≡ r
unfolding iq-back value pick
iq-same (Ok seq) = refl
iq-same (Err (Length n)) = refl
iq-same (Err (BitsPerSample v)) = refl
iq-same (Err (SamplesPerFrame v)) = refl
iq-same (Err NoRoom) = refl

pub iq-apart : (r s : Result ℕ IqError) → iq_answer r ≡ iq_answer s → r ≡ s
iq-apart = apart iq_answer iq-back iq-same
