-- How many pairs the Takes handed out and how many wait, over a list of calls. Assumes nothing.
use Prim.Native.Nat.{ℕ, ◌+◌, ◌-◌, ◌*◌, ◌≤◌}
use mathlib.Core.Path.{◌≡◌, refl, sym, ap, ◌∙◌}
use mathlib.Core.List.{List, [], ◌∷◌}
use lib.ListN.{length, take, drop, length-take, length-drop, length-append}
use lib.Seq.{take_at}
use lib.Ieee.{Float}
use native.Mathlib.Omega.{arith}
use Rattle.base.proofs.Picks.{pick-either}
use Rattle.octets.specs.Written.{written}
use Rattle.octets.proofs.Writes.{written-front}
use Rattle.model.specs.Sample.{pairs}
use Rattle.model.specs.Routing.{Routed, iq, status, ignored, malformed}
use Rattle.model.specs.Host.{Incoming, Call, Begin, Pass, Arrival, Take, Close, TakeMissing, TakeDiscontinuity, TakeStalled, Step, trace, final}
use Rattle.model.specs.State.{State, left, waiting_in}
use Rattle.model.specs.Arrival.{hear, heard_as, heard_iq, arrived}
use Rattle.model.specs.Take.{front, hand_out, handable}
use Rattle.model.specs.Session.{step, answered, session}
use Rattle.model.proofs.Pairs.{pairs-count, datagram-size}
use Rattle.model.proofs.Refusals.{step-either}
use Rattle.model.specs.declared.receiver.Receiver.{Receiver}
use Rattle.model.specs.declared.settings.Settings.{Settings}
use Rattle.account.specs.Ledger.{Sent, calls_of, gave, paired, all_handed_out}
use Rattle.marking.specs.Records.{pairs_of, pairs_in}

-- ---- 476 f32 stay lent

abbrev Sized : Step State → Type 0
Sized x = length x.state.samples ≡ 476

module _ (st : State) (size : length st.samples ≡ 476) where
  arrived-sized : (i : Incoming) (d : List ℕ) (p : Routed) → Sized (arrived st i d p)
  unfolding arrived heard_iq heard_as hear
  arrived-sized i d (iq count) = pick-either _ _ _ Sized (λ _. size) (λ _. datagram-size i.octets)
  arrived-sized i d status = size
  arrived-sized i d ignored = size
  arrived-sized i d malformed = size

answered-sized : (st : State) (c : Call) → length st.samples ≡ 476 → Sized (answered st c)
unfolding hand_out
answered-sized st (Begin now) size = size
answered-sized st (Pass now d) size = size
answered-sized st (Arrival i d) size = arrived-sized _ size i d _
answered-sized st (Take now buffer) size = size
answered-sized st (Close d) size = size
answered-sized st TakeMissing size = size
answered-sized st TakeDiscontinuity size = size
answered-sized st TakeStalled size = size

pub step-sized : (st : State) (c : Call) → length st.samples ≡ 476 → Sized (step st c)
step-sized st c size = step-either Sized st c (λ k. size) (λ _. answered-sized st c size)

-- ---- what a Take hands out

-- n pairs at the front of a buffer
front-pairs : (r : Receiver) (samples buffer : List Float) (n : ℕ) → length samples ≡ 476 → n ≤ left r
    → length (pairs (take (2 * n) (written buffer 0 (front r samples n)))) ≡ n
unfolding left
front-pairs r samples buffer n size h =
    let out = front r samples n in
    let l : length out ≡ 2 * n = length-take (2 * n) (drop (2 * r.queue_pos) samples) ∙ omega (arith, length-drop (2 * r.queue_pos) samples) in
    ap (λ (z : List Float). length (pairs z)) (ap (take (2 * n)) (written-front buffer out (length out) refl) ∙ take_at out (drop (length out) buffer) (2 * n) l)
    ∙ pairs-count n out l

abbrev Gives : Call → Step State → Type 0
Gives c x = length (gave c x.reply) ≡ pairs_of c x.reply.answer

taken : (st : State) (now : ℕ) (buffer : List Float) → length st.samples ≡ 476 → Gives (Take now buffer) (answered st (Take now buffer))
unfolding hand_out
taken st now buffer size = front-pairs st.session.receiver st.samples buffer (handable st buffer) size (omega arith)

pub step_gives : (st : State) (c : Call) → length st.samples ≡ 476 → Gives c (step st c)
unfolding pairs
step_gives st (Take now buffer) size = step-either (Gives (Take now buffer)) st (Take now buffer) (λ k. refl) (λ _. taken st now buffer size)
step_gives st (Begin now) size = refl
step_gives st (Pass now d) size = refl
step_gives st (Arrival i d) size = refl
step_gives st (Close d) size = refl
step_gives st TakeMissing size = refl
step_gives st TakeDiscontinuity size = refl
step_gives st TakeStalled size = refl

-- ---- over a list

module _ (lent : List Float) (s : Settings) where
  pub all-sized : (st : State) (cs : List Call) → length st.samples ≡ 476 → length (final (session lent) st cs).samples ≡ 476
  all-sized st [] size = size
  all-sized st (c ∷ cs) size = all-sized (step st c).state cs (step-sized st c size)

  pub pairs-are : (st : State) (calls : List Sent) → length st.samples ≡ 476
      → pairs_in (calls_of calls) (trace (session lent) st (calls_of calls)) ≡ length (all_handed_out (paired s calls (trace (session lent) st (calls_of calls))))
  pairs-are st [] size = refl
  pairs-are st (c ∷ calls) size =
      let x = step st c.call in
      let a = step_gives st c.call size in
      let b = pairs-are x.state calls (step-sized st c.call size) in
      ap (λ (n : ℕ). n + pairs_in (calls_of calls) (trace (session lent) x.state (calls_of calls))) (sym a)
      ∙ ap (λ (n : ℕ). length (gave c.call x.reply) + n) b
      ∙ sym (length-append (gave c.call x.reply) (all_handed_out (paired s calls (trace (session lent) x.state (calls_of calls)))))

-- ---- what waits

pub waits-are : (r : Receiver) (samples : List Float) → length samples ≡ 476 → left r ≡ length (waiting_in r samples)
unfolding left waiting_in
waits-are r samples size =
    sym (pairs-count (238 - r.queue_pos) (drop (2 * r.queue_pos) samples) (length-drop (2 * r.queue_pos) samples ∙ omega (arith, size)))
