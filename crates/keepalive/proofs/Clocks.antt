-- A step that is made where its clock's interval has passed. Assumes nothing.
use Rattle.std.proofs.Common.{◌≡◌, ◌∙◌, ℕ, ◌-◌, Bool, true, false, List, leb, sym, subst}
use Rattle.base.specs.Pick.{pick}
use Rattle.base.proofs.Picks.{pick-t, pick-f}
use Rattle.model.specs.Sending.{Sending, idle}
use Rattle.model.specs.declared.session.Common.{Common}
use Rattle.sending.specs.Progress.{Sends}
use Rattle.sending.specs.declared.send.Progress.{Progress}
use Rattle.sending.proofs.Progresses.{sends-due, sends-idle, sends-from}

-- `set` is what is common with the clock at a reading
module _ (set : ℕ → Common) (step : Common → Sending) (every now clock : ℕ) (p : Progress) (d : List ℕ) (b : Bool) (t : ℕ)
    (due : (b ≡ leb every (now - clock)) × (t ≡ pick b now clock)) where
  pub sends-if-due : (r : Progress) (e : List ℕ) → b ≡ true → Sends (step (set t)) (record { common = set t; streams = p.streams; end = p.end }) d r e
      → Sends (pick (leb every (now - clock)) (step (set now)) (idle p.common)) p d r e
  sends-if-due r e h s =
      let is_now : t ≡ now = due.1 ∙ pick-t _ _ _ h in
      sends-due _ _ p d r e (sym due.0 ∙ h)
      (sends-from _ p (set now) d r e
      (subst (λ (x : ℕ). Sends (step (set x)) (record { common = set x; streams = p.streams; end = p.end }) d r e) is_now s))

  pub idle-if-not-due : set clock ≡ p.common → b ≡ false
      → Sends (pick (leb every (now - clock)) (step (set now)) (idle p.common)) p d (record { common = set t; streams = p.streams; end = p.end }) d
  idle-if-not-due same h =
      let is-clock : t ≡ clock = due.1 ∙ pick-f _ _ _ h in
      let out = pick (leb every (now - clock)) (step (set now)) (idle p.common) in
      subst (λ (x : ℕ). Sends out p d (record { common = set x; streams = p.streams; end = p.end }) d) (sym is-clock)
      (subst (λ (c : Common). Sends out p d (record { common = c; streams = p.streams; end = p.end }) d) (sym same)
      (sends-idle (leb every (now - clock)) (step (set now)) p d (sym due.0 ∙ h)))
