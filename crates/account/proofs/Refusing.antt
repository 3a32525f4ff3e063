-- A host that refuses what it likes meets demand 3: it takes demand 2 to rule it out. Assumes nothing.
use mathlib.Core.Path.{◌≡◌, refl}
use mathlib.Core.Bool.{Bool}
use mathlib.Core.List.{[]}
use lib.ListN.{length}
use lib.IntN.{ℤ}
use Rattle.base.proofs.Picks.{pick-either}
use Rattle.model.specs.Sample.{pairs}
use Rattle.model.specs.Host.{Call, Begin, Pass, Arrival, Take, Close, TakeMissing, TakeDiscontinuity, TakeStalled}
use Rattle.model.specs.State.{State, refuse}
use Rattle.model.specs.Refusals.{lent_packets, lent_buffer}
use Rattle.account.specs.Book.{Book}
use Rattle.account.specs.Ledger.{gave}
use Rattle.account.specs.Demand3.{Meets}
use Rattle.account.specs.Exact.{Exact}
use Rattle.model.specs.Lists.{silence}
use Rattle.account.proofs.WrongHosts.{refusing}
use Rattle.model.specs.declared.settings.Settings.{Settings}
use Rattle.account.proofs.Simulate.{meets}
use Rattle.account.proofs.Same.{Same, Kept, still}
use Rattle.account.proofs.Demand3.{mute, keeps, at_first, none-waits}

gives_none : (st : State) (c : Call) → gave c (refuse 12 (lent_packets c) (lent_buffer c) st).reply ≡ []
unfolding pairs
gives_none st (Take now buffer) = refl
gives_none st (Begin now) = refl
gives_none st (Pass now d) = refl
gives_none st (Arrival i d) = refl
gives_none st (Close d) = refl
gives_none st TakeMissing = refl
gives_none st TakeDiscontinuity = refl
gives_none st TakeStalled = refl

module _ (p : State → Call → Bool) where
  refusing-keeps : (s : Settings) (b : Book) (st : State) (n : ℤ) → Same s b st → (c : Call) → Kept s b st c n ((refusing p).step st c)
  refusing-keeps s b st n h c =
      pick-either _ _ _ (Kept s b st c n)
      (λ _. still s b st n h c (refuse 12 (lent_packets c) (lent_buffer c) st) refl refl refl (gives_none st c) h.settings refl refl refl refl refl refl)
      (λ _. keeps s b st n h c)

  pub refusing-passes : Meets (refusing p)
  refusing-passes s now calls ok =
      let size : length silence ≡ 476 = refl in
      meets s (refusing p) (Same s) (Exact s) (refusing-keeps s) now (at_first silence size s now ok) (none-waits silence size s now ok) calls (mute s)
