-- Demand 3 of the session that the definitions make: for all accepted settings, opening readings, lists of calls and numberings, and
-- whatever 476 f32 are lent beside it at first. Assumes nothing.
use Prim.Native.Nat.{ℕ}
use mathlib.Core.Path.{◌≡◌, refl}
use mathlib.Core.List.{List, []}
use lib.ListN.{length}
use lib.Dec.{T}
use lib.Ieee.{Float}
use lib.IntN.{ℤ}
use Rattle.base.proofs.Rows.{NoRow}
use Rattle.tuning.specs.Rate.{khz_of}
use Rattle.model.specs.Settings.{accepts}
use Rattle.model.specs.Host.{Call, Begin, Pass, Arrival, Take, Close, TakeMissing, TakeDiscontinuity, TakeStalled}
use Rattle.model.specs.State.{State, waiting_in}
use Rattle.model.specs.Open.{new_common, new_receiver, new_session, opened}
use Rattle.model.specs.Table.{rows_of}
use Rattle.model.specs.Session.{step, answered, opened_with, session}
use Rattle.account.specs.Book.{News, Quiet, Began, Took, Came, Book, blank}
use Rattle.model.specs.Answer.{Tells}
use Rattle.account.specs.Demand3.{Mute, Meets}
use Rattle.account.specs.Exact.{Exact, TellsAll}
use Rattle.model.specs.declared.settings.Settings.{Settings}
use Rattle.model.proofs.Pairs.{none-past}
use Rattle.model.proofs.Opens.{opened-new}
use Rattle.model.proofs.Refusals.{step-either}
use Rattle.account.proofs.Simulate.{meets, all_lines}
use Rattle.account.proofs.Same.{waiting_of, Same, Kept, refused-keeps, begin-keeps, pass-keeps, take-keeps, close-keeps, missing-keeps, discontinuity-keeps, stalled-keeps}
use Rattle.account.proofs.Arrived.{arrival-keeps}

module _ (s : Settings) where
  answered-keeps : (b : Book) (st : State) (n : ℤ) → Same s b st → (c : Call) → NoRow (rows_of st c) → Kept s b st c n (answered st c)
  answered-keeps b st n h (Begin now) none = begin-keeps s b st n h now
  answered-keeps b st n h (Pass now d) none = pass-keeps s b st n h now d
  answered-keeps b st n h (Arrival i d) none = arrival-keeps s b st n h i d none.1.1.0
  answered-keeps b st n h (Take now buffer) none = take-keeps s b st n h now buffer
  answered-keeps b st n h (Close d) none = close-keeps s b st n h d
  answered-keeps b st n h TakeMissing none = missing-keeps s b st n h
  answered-keeps b st n h TakeDiscontinuity none = discontinuity-keeps s b st n h
  answered-keeps b st n h TakeStalled none = stalled-keeps s b st n h

  pub keeps : (b : Book) (st : State) (n : ℤ) → Same s b st → (c : Call) → Kept s b st c n (step st c)
  keeps b st n h c = step-either (Kept s b st c n) st c (refused-keeps s b st n h c) (answered-keeps b st n h c)

-- of what is told exactly, a call that brings no arrival tells nothing
pub mute : (s : Settings) (b : Book) (w : News) (n : ℤ) (a : Tells) → Exact s b w n a → Mute w a
mute s b (Came i count) n a e = tt
mute s b Quiet n a e = e
mute s b (Began now) n a e = e
mute s b (Took now) n a e = e

module _ (samples : List Float) (size : length samples ≡ 476) (s : Settings) (now : ℕ) (ok : T (accepts s)) where
  opens : opened s now ≡ new_session (khz_of s.sample_rate_hz) s now
  opens = opened-new s now ok

  new-same : Same s (blank now) (record { session = new_session (khz_of s.sample_rate_hz) s now; samples = samples })
  unfolding new_session new_common new_receiver
  new-same = record { settings = refl; tracker = refl; accepted_at = refl; taken = refl; window = refl; size = size }

  pub at_first : Same s (blank now) (opened_with samples s now)
  at_first = rw opens new-same

  new-waits : waiting_in (new_session (khz_of s.sample_rate_hz) s now).receiver samples ≡ []
  unfolding waiting_in new_session new_receiver
  new-waits = none-past 238 samples size refl

  pub none-waits : waiting_of (opened_with samples s now) ≡ []
  none-waits = rw opens new-waits

module _ (samples : List Float) (size : length samples ≡ 476) where
  pub demand3 : Meets (session samples)
  demand3 s now calls ok = meets s (session samples) (Same s) (Exact s) (keeps s) now (at_first samples size s now ok) (none-waits samples size s now ok) calls (mute s)

  -- and every answer is the book's
  pub tells_all : TellsAll (session samples)
  tells_all s now calls ok = all_lines s (session samples) (Same s) (Exact s) (keeps s) now (at_first samples size s now ok) (none-waits samples size s now ok) calls
