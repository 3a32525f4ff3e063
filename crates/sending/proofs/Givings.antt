-- What a call gives that wrote nothing, and one that wrote packets. Assumes nothing.
use Rattle.std.proofs.Common.{◌≡◌, ℕ, ◌≤◌, List, [], length, sym, refl, ap, subst, arith}
use lib.Ieee.{Float}
use Rattle.octets.specs.Written.{written}
use Rattle.model.specs.Answer.{Answer}
use Rattle.model.specs.Host.{Step}
use Rattle.model.specs.State.{State, replied, keeping}
use Rattle.model.specs.Sending.{Sending, wrote}
use Rattle.model.specs.Command.{streams_as}
use Rattle.model.specs.Parts.{with_common}
use Rattle.model.specs.declared.session.Common.{Common}
use Rattle.model.specs.declared.session.Session.{Session}
use Rattle.model.specs.declared.command.Streams.{Streams}
use Rattle.model.specs.Gives.{Gives, joined}
use Rattle.sending.specs.Progress.{started, HasRoom, Sends}
use Rattle.sending.specs.declared.send.Progress.{Progress}
use Rattle.sending.proofs.Progresses.{sends-first}

-- ---- nothing was written

pub gives-told : {S : Type 0} (a : Answer) (l : Streams) (d : List ℕ) (s : S) (x : Step S) → l ≡ streams_as [] → x ≡ replied a [] d [] s → Gives a l d s x
gives-told {S} a l d s x h e =
    subst (λ (y : Step S). Gives a l d s y) (sym e) (record { answers = refl; lists = h; writes = refl; leaves = refl })

-- a call that is not lent the samples keeps them
pub gives-kept : (a : Answer) (l : Streams) (d : List ℕ) (s : Session) (samples : List Float) (x : Step Session) (y : Step State) → y ≡ keeping samples x
    → Gives a l d s x → Gives a l d (joined s samples) y
gives-kept a l d s samples x y e g =
    subst (λ (z : Step State). Gives a l d (joined s samples) z) (sym e)
    (record { answers = g.answers; lists = g.lists; writes = g.writes; leaves = ap (λ (t : Session). joined t samples) g.leaves })

-- and what it gives may be said otherwise
pub gives_as : {S : Type 0} (a : Answer) (l : Streams) (d : List ℕ) (s : S) (x y : Step S) → y ≡ x → Gives a l d s x → Gives a l d s y
gives_as {S} a l d s x y e g = subst (λ (z : Step S). Gives a l d s z) (sym e) g

-- ---- packets were written, from the front of the buffer on

pub start-room : (n k : ℕ) (c : Common) (p : Progress) (size : ℕ) → p ≡ started c → n ≤ size → k ≤ 5 → HasRoom n k p size
unfolding streams_as
start-room n k c p size e h j = subst (λ (q : Progress). HasRoom n k q size) (sym e) (record { octets = omega arith; streams = omega arith })

module _ (f : Common → Sending) (c : Common) (p : Progress) (d : List ℕ) (r : Progress) (e : List ℕ) (h : p ≡ started c) (l : length (f c).streams ≤ 5)
    (s : Sends (f p.common) p d r e) where
  pub from_start : (r.common ≡ (f c).common) × (r.streams ≡ streams_as (f c).streams) × (e ≡ written d 0 (f c).octets)
  from_start = sends-first (f c) c d r e l (subst (λ (q : Progress). Sends (f q.common) q d r e) h s)

  pub gives-wrote : (a : Answer) (t : Session) (x : Step Session) → x ≡ wrote a t d (f c) → Gives a r.streams e (with_common t r.common) x
  gives-wrote a t x k =
      subst (λ (y : Step Session). Gives a r.streams e (with_common t r.common) y) (sym k)
      (record { answers = refl; lists = from_start.1; writes = from_start.2; leaves = ap (with_common t) from_start.0 })
