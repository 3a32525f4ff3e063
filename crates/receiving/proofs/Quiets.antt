-- What quiet comes to, with its beginning as the code worked it out. Assumes nothing.
use Prim.Native.Nat.{ℕ, ◌-◌, ◌≤◌, ◌<◌}
use mathlib.Core.Path.{◌≡◌, sym, ap, ◌∙◌}
use mathlib.Core.Bool.{true, false}
use Rattle.base.proofs.Picks.{pick-t, pick-f}
use Rattle.base.proofs.Tests.{was, due, not-due}
use Rattle.stall.specs.Episode.{is_due}
use Rattle.model.specs.State.{quiet_since_of}
use Rattle.model.specs.declared.receiver.Receiver.{Receiver}
use Rattle.receiving.specs.Quiet.{quiet_at}
use Rattle.receiving.specs.declared.read.Quiet.TheVariants.{Short, Soft, Hard}

module _ (r : Receiver) (now soft hard last : ℕ) (hl : last ≡ quiet_since_of r) where
  due-so : (v : mathlib.Core.Bool.Bool) → is_due r.stall last now soft hard ≡ v → is_due r.stall (quiet_since_of r) now soft hard ≡ v
  due-so v h = was (ap (λ (t : ℕ). is_due r.stall t now soft hard) hl) h

  pub quiet-soft : is_due r.stall last now soft hard ≡ true → Soft ≡ quiet_at r now soft hard
  unfolding quiet_at
  quiet-soft h = sym (pick-t _ _ _ (due-so true h))

  module _ (none : is_due r.stall last now soft hard ≡ false) (since : ℕ) (hs : since ≡ now - last) where
    quiet : since ≡ now - quiet_since_of r
    quiet = hs ∙ ap (λ (t : ℕ). now - t) hl

    pub quiet-hard : hard ≤ since → Hard ≡ quiet_at r now soft hard
    unfolding quiet_at
    quiet-hard h = sym (pick-f _ _ _ (due-so false none) ∙ pick-t _ _ _ (due hard now _ since quiet h))

    pub quiet_short : since < hard → Short ≡ quiet_at r now soft hard
    unfolding quiet_at
    quiet_short h = sym (pick-f _ _ _ (due-so false none) ∙ pick-f _ _ _ (not-due hard now _ since quiet h))
