-- What a call of session gave is what its definition gives, in numbers. Assumes nothing.
use Prim.Native.Nat.{ℕ}
use mathlib.Core.Path.{◌≡◌, refl, sym, ap, subst, ◌∙◌}
use mathlib.Core.List.{List, [], ◌∷◌}
use lib.ListN.{length}
use lib.Ieee.{Float}
use native.Mathlib.Omega.{arith}
use Rattle.model.specs.Answer.{Answer}
use Rattle.model.specs.Host.{Call, Begin, Pass, Arrival, Take, Close, TakeMissing, TakeDiscontinuity, TakeStalled, Step}
use Rattle.model.specs.State.{State, replied, keeping}
use Rattle.model.specs.Command.{streams_as}
use Rattle.model.specs.Begin as Begin
use Rattle.model.specs.Pass as Pass
use Rattle.model.specs.Arrival as Arrival
use Rattle.model.specs.Take as Take
use Rattle.model.specs.Close as Close
use Rattle.model.specs.Drain as Drain
use Rattle.model.specs.Session.{step}
use Rattle.model.specs.Refusals.{lent_buffer}
use Rattle.model.proofs.Room.{room-suffices}
use Rattle.model.specs.declared.sender.Sender.{Sender}
use Rattle.model.specs.declared.session.Session.{Session}
use Rattle.model.specs.declared.command.Streams.{Streams}
use Rattle.model.specs.Gives.{Gives, joined, incoming}
use Rattle.answers.specs.Code.{coded}
use Rattle.turns.specs.Reply.{Replies, Keeps}
use Rattle.answers.specs.declared.Code.{Code}
use Rattle.turns.specs.declared.call.Replied.{Replied}

pub none_of : {A : Type 0} (l : List A) → length l ≡ 0 → l ≡ []
none_of [] h = refl
none_of (x ∷ l) h = absurd (omega arith)

-- nothing was written
pub plain : (s : Session) (c : Call) (a : Answer) (t : Session) (x : Step Session) (r : Replied) (k : Code) → replied a [] [] [] t ≡ x
    → ((samples : List Float) → step (joined s samples) c ≡ keeping samples x) → r ≡ record { answer = k; streams = streams_as [] } → k ≡ coded a
    → Keeps r s t [] c
plain s c a t x r k e h p q =
    record {
      replies = λ samples.
          subst (λ (y : Step State). Replies r t samples [] [] y) (ap (keeping samples) e ∙ sym (h samples))
          (subst (λ (y : Replied). Replies y t samples [] [] (keeping samples (replied a [] [] [] t))) (sym p)
          (record { answers = q; lists = refl; writes = refl; hands = refl; leaves = refl }));
    }

-- packets were lent
pub wrote : (s : Session) (c : Call) (a : Answer) (l : Streams) (d : List ℕ) (t : Session) (x : Step Session) (k : Code) (m : Streams) → Gives a l d t x
    → ((samples : List Float) → (step (joined s samples) c ≡ keeping samples x) × (lent_buffer c ≡ [])) → k ≡ coded a → m ≡ l
    → Keeps (record { answer = k; streams = m }) s t d c
wrote s c a l d t x k m g h p q =
    record {
      replies = λ samples.
          let e = (h samples).0 in
          let b : [] ≡ (keeping samples x).reply.buffer =
          sym (none_of (keeping samples x).reply.buffer (ap (λ (y : Step State). length y.reply.buffer) (sym e) ∙ (room-suffices (joined s samples) c).buffer ∙ ap length (h samples).1)) in
          subst (λ (y : Step State). Replies (record { answer = k; streams = m }) t samples d [] y) (sym e)
          (record { answers = p ∙ ap coded g.answers; lists = q ∙ g.lists; writes = g.writes; hands = b; leaves = ap (λ (u : Session). joined u samples) g.leaves });
    }

module _ (s : Session) where
  pub begins : (now : ℕ) (samples : List Float) → step (joined s samples) (Begin now) ≡ keeping samples (Begin.begin s now)
  unfolding step
  begins now samples = refl

  pub passes : (now : ℕ) (d : List ℕ) (samples : List Float) → (step (joined s samples) (Pass now d) ≡ keeping samples (Pass.pass s now d)) × (lent_buffer (Pass now d) ≡ [])
  unfolding step
  passes now d samples = (refl, refl)

  pub closes : (d : List ℕ) (samples : List Float) → (step (joined s samples) (Close d) ≡ keeping samples (Close.close s d)) × (lent_buffer (Close d) ≡ [])
  unfolding step
  closes d samples = (refl, refl)

  pub drains-missing : (samples : List Float) → step (joined s samples) TakeMissing ≡ keeping samples (Drain.take_missing s)
  unfolding step
  drains-missing samples = refl

  pub drains-discontinuity : (samples : List Float) → step (joined s samples) TakeDiscontinuity ≡ keeping samples (Drain.take_discontinuity s)
  unfolding step
  drains-discontinuity samples = refl

  pub drains-stalled : (samples : List Float) → step (joined s samples) TakeStalled ≡ keeping samples (Drain.take_stalled s)
  unfolding step
  drains-stalled samples = refl

  -- samples and packets were lent
  pub arrived : (samples : List Float) (reading later : ℕ) (from sent : Sender) (o n p : List ℕ) (a : Answer) (l : Streams) (d : List ℕ) (t : Session)
      (e : List Float) (k : Code) (m : Streams) → from ≡ sent → Gives a l d (joined t e) (Arrival.arrival (joined s samples) (incoming reading later from o n) p) → k ≡ coded a
      → m ≡ l → Replies (record { answer = k; streams = m }) t e d [] (step (joined s samples) (Arrival (incoming reading later sent o n) p))
  unfolding step
  arrived samples reading later from sent o n p a l d t e k m f g h q =
      let c = Arrival (incoming reading later from o n) p in
      let b : [] ≡ (step (joined s samples) c).reply.buffer = sym (none_of (step (joined s samples) c).reply.buffer (room-suffices (joined s samples) c).buffer) in
      subst
      (λ (x : Sender). Replies (record { answer = k; streams = m }) t e d [] (step (joined s samples) (Arrival (incoming reading later x o n) p)))
      f
      (record { answers = h ∙ ap coded g.answers; lists = q ∙ g.lists; writes = g.writes; hands = b; leaves = g.leaves })

  -- samples and a buffer were lent
  pub took : (samples : List Float) (reading : ℕ) (places : List Float) (a : Answer) (out : List Float) (t : Session) (r : Replied) (k : Code)
      → replied a [] [] out (joined t samples) ≡ Take.take_out (joined s samples) reading places → r ≡ record { answer = k; streams = streams_as [] }
      → k ≡ coded a → Replies r t samples [] out (step (joined s samples) (Take reading places))
  unfolding step
  took samples reading places a out t r k e p q =
      subst (λ (y : Step State). Replies r t samples [] out y) e
      (subst (λ (y : Replied). Replies y t samples [] out (replied a [] [] out (joined t samples))) (sym p)
      (record { answers = q; lists = refl; writes = refl; hands = refl; leaves = refl }))
