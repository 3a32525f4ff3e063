-- One turn of a list: what a call left in its own parts of the lent buffers. Definitions only.
use Rattle.std.specs.Prelude.{ℕ, ◌+◌, ◌-◌, ◌≡◌, List, [], ◌++◌, length, take, drop, eqb, Float}
use Rattle.base.specs.Pick.{pick}
use Rattle.model.specs.State.{State}
use Rattle.model.specs.Session.{step}
use Rattle.encoding.specs.Words.{lends_packets, call_of}
use Rattle.answers.specs.Code.{numbers_in}
use Rattle.encoding.specs.Lists.{between}
use Rattle.encoding.specs.declared.words.Words.{Words}
use Rattle.encoding.specs.declared.words.Amounts.{Amounts}

pub record Turns (w : Words) (st : State) (octets numbers packets : List ℕ) (places : List Float) (st' : State) (packets' : List ℕ) (places' : List Float) (answers : List ℕ)
    : Type 0 where
  pub answered : answers ≡ numbers_in (step st (call_of w octets numbers packets places)).reply
  pub wrote : pick (lends_packets w.kind) packets' [] ≡ (step st (call_of w octets numbers packets places)).reply.packets
  pub handed : pick (eqb w.kind 3) places' [] ≡ (step st (call_of w octets numbers packets places)).reply.buffer
  pub left : st' ≡ (step st (call_of w octets numbers packets places)).state

-- the same in the whole buffers: a, p and q are its own parts of those for answers, packets and samples on return
abbrev pub replaced : {A : Type 0} → ℕ → ℕ → List A → List A → List A
replaced from to l new = take from l ++ (new ++ drop (to - from) (drop from l))

pub record TurnsAt (w : Words) (from to : Amounts) (at : ℕ) (st : State) (octets numbers packets : List ℕ) (places : List Float) (answers : List ℕ) (st' : State)
    (packets' : List ℕ) (places' : List Float) (answers' : List ℕ) : Type 0 where
  pub a : List ℕ
  pub p : List ℕ
  pub q : List Float
  pub turns :
      Turns w st (between from.octets to.octets octets) (between from.numbers to.numbers numbers) (between from.packets to.packets packets)
      (between from.places to.places places)
      st' p q a
  pub size-a : length a ≡ 8
  pub size-p : length p ≡ to.packets - from.packets
  pub size-q : length q ≡ to.places - from.places
  pub answered : answers' ≡ replaced at (at + 8) answers a
  pub wrote : packets' ≡ replaced from.packets to.packets packets p
  pub handed : places' ≡ replaced from.places to.places places q
