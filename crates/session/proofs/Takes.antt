-- Take: what is handed out, by the numbers that the code works out. Assumes nothing.
use Prim.Native.Nat.{ℕ, ◌-◌, ◌*◌, ◌/◌, ◌≤◌, ◌<◌, min}
use mathlib.Core.Path.{◌≡◌, sym, ap, ◌∙◌}
use mathlib.Core.Bool.{true, false, not}
use mathlib.Core.List.{List, []}
use lib.ListN.{length, take, drop}
use lib.Ieee.{Float}
use native.Mathlib.Omega.{arith}
use borrow.Author.Tests.{ltb-true, le-ltb}
use Rattle.octets.specs.Written.{written}
use Rattle.base.proofs.Picks.{pick-f}
use Rattle.model.specs.Answer.{took}
use Rattle.model.specs.Host.{Step}
use Rattle.model.specs.State.{State, left, waits, not_reading, fell, replied}
use Rattle.model.specs.Take.{front, handed, hand_out, take_out}
use Rattle.model.specs.Parts.{with_last_reading}
use Rattle.model.specs.declared.receiver.Receiver.{Receiver}

-- where samples wait, the queue's position is within the datagram
pub within : (r : Receiver) → waits r ≡ true → r.queue_pos < 238
unfolding waits left
within r h = let l = ltb-true 0 (238 - r.queue_pos) h in omega (arith, l)

module _ (st : State) (now : ℕ) (buffer : List Float) where
  abbrev gave : ℕ → List Float → Receiver → Step State
  gave n e q =
      replied (took n) [] [] e (record { session = record { common = with_last_reading st.session.common now; receiver = q }; samples = st.samples })

  -- as many are copied out and as many leave the queue as the answer says: so many fit, and so many wait
  pub taken_out : (n : ℕ) (e : List Float) (q : Receiver) → not_reading st.session ≡ false → fell st.session now ≡ false → 2 ≤ length buffer
      → waits st.session.receiver ≡ true → n ≡ min (length buffer / 2) (left st.session.receiver)
      → e ≡ written buffer 0 (take (min (2 * n) (length buffer)) (drop (2 * st.session.receiver.queue_pos) st.samples))
      → q ≡ handed st.session.receiver now (min n (left st.session.receiver)) → gave n e q ≡ take_out st now buffer
  unfolding take_out hand_out
  taken_out n e q h10 h11 h16 h17 hn he hq =
      let fit : min (2 * n) (length buffer) ≡ 2 * n = omega (arith, hn) in
      let wait : min n (left st.session.receiver) ≡ n = omega (arith, hn) in
      ap (λ (x : List Float). gave n x q) (he ∙ ap (λ (k : ℕ). written buffer 0 (take k (drop (2 * st.session.receiver.queue_pos) st.samples))) fit)
      ∙ ap (gave n (written buffer 0 (front st.session.receiver st.samples n))) (hq ∙ ap (handed st.session.receiver now) wait)
      ∙ ap (hand_out st now buffer) hn
      ∙ sym (pick-f _ _ _ h10 ∙ pick-f _ _ _ h11 ∙ pick-f _ _ _ (le-ltb (length buffer) 2 h16) ∙ pick-f _ _ _ (ap not h17))
