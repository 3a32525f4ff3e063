-- An event in 01's terms leaves no doubt which event it was. Assumes nothing.
use Rattle.std.proofs.Common.{◌≡◌, ℕ, eqb, List, get_or, refl}
use Rattle.base.specs.Pick.{pick}
use Rattle.base.specs.Told.{Told, gives, refused}
use Rattle.base.proofs.Told.{apart}
use Rattle.sequence.specs.Answer.{event_answer}
use Rattle.sequence.specs.declared.SeqEvent.{SeqEvent}
use Rattle.sequence.specs.declared.SeqEvent.TheVariants.{InOrder, Gap, Stale, Restart}

event-of : List ℕ → SeqEvent
event-of vs = pick (eqb (get_or vs 0 0) 0) InOrder (pick (eqb (get_or vs 0 0) 1) (Gap (get_or vs 1 0)) (pick (eqb (get_or vs 0 0) 2) Stale Restart))

event-back : Told → SeqEvent
event-back (gives vs) = event-of vs
event-back (refused k vs) = event-of vs

event-same : (e : SeqEvent) → event-back (event_answer e) ≡ e
unfolding event-back event-of pick
event-same InOrder = refl
event-same (Gap lost) = refl
event-same Stale = refl
event-same Restart = refl

pub event-apart : (e f : SeqEvent) → event_answer e ≡ event_answer f → e ≡ f
event-apart = apart event_answer event-back event-same
