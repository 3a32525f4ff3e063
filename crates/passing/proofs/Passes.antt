-- Pass: which of its answers, by the tests that the code makes. Assumes nothing.
use Prim.Native.Nat.{ℕ}
use mathlib.Core.Path.{◌≡◌, refl, sym, ap, ◌∙◌}
use mathlib.Core.Bool.{Bool, true, false}
use mathlib.Core.List.{List, []}
use Rattle.base.proofs.Picks.{pick-t, pick-f}
use Rattle.model.specs.Answer.{done, ready, sent}
use Rattle.model.specs.State.{waits, replied}
use Rattle.model.specs.Sending.{due_packets, wrote}
use Rattle.model.specs.Pass.{stall_soft, stall_hard, passed}
use Rattle.model.specs.declared.session.Session.{Session}
use Rattle.base.specs.Pick.{pick}
use Rattle.model.specs.Host.{Step}
use Rattle.receiving.specs.Quiet.{quiet_at}
use Rattle.receiving.specs.declared.read.Quiet.{Quiet}
use Rattle.receiving.specs.declared.read.Quiet.TheVariants.{Short, Soft, Hard}

module _ (s : Session) (now : ℕ) (d : List ℕ) where
  pub pass-ready : waits s.receiver ≡ true → passed s now d ≡ replied (done ready) [] d [] s
  unfolding passed
  pass-ready h = pick-t _ _ _ h

  -- by what quiet comes to
  module _ (none : waits s.receiver ≡ false) (q : Quiet) (hq : q ≡ quiet_at s.receiver now s.common.settings.soft_after s.common.settings.stall_after) where
    -- Soft, Hard and Short, each as the step that it makes
    abbrev step_of : Quiet → Step Session
    step_of Soft = stall_soft s d
    step_of Hard = stall_hard s d
    step_of Short = wrote (done sent) s d (due_packets now s.common)

    by_tests : (a b : Bool) → pick a (stall_soft s d) (pick b (stall_hard s d) (wrote (done sent) s d (due_packets now s.common))) ≡ step_of (pick a Soft (pick b Hard Short))
    unfolding pick
    by_tests true b = refl
    by_tests false true = refl
    by_tests false false = refl

    pub pass-quiet : (k : Quiet) → q ≡ k → passed s now d ≡ step_of k
    unfolding passed quiet_at
    pass-quiet k e = pick-f _ _ _ none ∙ by_tests _ _ ∙ ap step_of (sym hq ∙ e)
