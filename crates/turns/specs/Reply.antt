-- What one call of the code gave, held to its definition in account. Definitions only.
use Rattle.std.specs.Prelude.{ℕ, ◌≡◌, List, [], Float}
use Rattle.model.specs.Host.{Call, Step}
use Rattle.model.specs.State.{State}
use Rattle.model.specs.Session.{step}
use Rattle.model.specs.Command.{streams_as}
use Rattle.model.specs.Gives.{joined}
use Rattle.model.specs.declared.session.Session.{Session}
use Rattle.answers.specs.Code.{coded}
use Rattle.turns.specs.declared.call.Replied.{Replied}

-- the answer, the streams, the lent buffers on return, and the state after it
pub record Replies (r : Replied) (s : Session) (samples : List Float) (packets : List ℕ) (buffer : List Float) (x : Step State) : Type 0 where
  pub answers : r.answer ≡ coded x.reply.answer
  pub lists : r.streams ≡ streams_as x.reply.streams
  pub writes : packets ≡ x.reply.packets
  pub hands : buffer ≡ x.reply.buffer
  pub leaves : joined s samples ≡ x.state

-- a call that is not lent the samples, whatever they are: from s it leaves s'
pub record Keeps (r : Replied) (s s' : Session) (packets : List ℕ) (c : Call) : Type 0 where
  pub replies : (samples : List Float) → Replies r s' samples packets [] (step (joined s samples) c)
