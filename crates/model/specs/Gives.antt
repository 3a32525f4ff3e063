-- What the code of a call gave, held to its definition. Definitions only.
use Rattle.std.specs.Prelude.{◌≡◌, ℕ, List, [], Float, Result, Ok, Err}
use Rattle.model.specs.Answer.{Answer}
use Rattle.model.specs.Host.{Incoming, Step}
use Rattle.model.specs.State.{State}
use Rattle.model.specs.Arrival.{arrived, route}
use Rattle.model.specs.Command.{streams_as}
use Rattle.model.specs.declared.answer.Refusal.{Refusal}
use Rattle.model.specs.declared.answer.PassAnswer.{PassAnswer}
use Rattle.model.specs.declared.answer.PassAnswer.TheVariants as pass
use Rattle.model.specs.declared.answer.ArrivalAnswer.{ArrivalAnswer}
use Rattle.model.specs.declared.answer.ArrivalAnswer.TheVariants as arrival
use Rattle.model.specs.declared.command.Streams.{Streams}
use Rattle.model.specs.declared.incoming.Incoming as declared
use Rattle.model.specs.declared.sender.Sender.{Sender}
use Rattle.model.specs.declared.session.Session.{Session}

-- ---- the streams that a call lists

abbrev pub pass_streams : Result PassAnswer Refusal → Streams
pass_streams (Ok pass.Ready) = streams_as []
pass_streams (Ok pass.SoftStall) = streams_as []
pass_streams (Ok pass.HardStall) = streams_as []
pass_streams (Ok (pass.Sent streams)) = streams
pass_streams (Err r) = streams_as []

abbrev pub arrival_streams : Result ArrivalAnswer Refusal → Streams
arrival_streams (Ok arrival.Ignored) = streams_as []
arrival_streams (Ok (arrival.Status streams)) = streams
arrival_streams (Ok arrival.Malformed) = streams_as []
arrival_streams (Ok arrival.MalformedLimit) = streams_as []
arrival_streams (Ok (arrival.Iq event missing)) = streams_as []
arrival_streams (Err r) = streams_as []

abbrev pub close_streams : Result Streams Refusal → Streams
close_streams (Ok streams) = streams
close_streams (Err r) = streams_as []

-- a call that is lent a packet buffer: its answer in 01's words and numbers, the streams that it lists, every octet of the
-- buffer on return, and the state after it
pub record Gives {S : Type 0} (answer : Answer) (streams : Streams) (packets : List ℕ) (state : S) (x : Step S) : Type 0 where
  pub answers : answer ≡ x.reply.answer
  pub lists : streams ≡ streams_as x.reply.streams
  pub writes : packets ≡ x.reply.packets
  pub leaves : state ≡ x.state

-- ---- a state and an arrival, from the code's arguments

-- the session, and the samples lent beside it
abbrev pub joined : Session → List Float → State
joined s samples = record { session = s; samples = samples }

abbrev pub incoming_of : declared.Incoming → Incoming
incoming_of i = record { now = i.reading; later = i.later; from = i.from; octets = i.datagram.now; waiting = i.waiting.now }

abbrev pub incoming : ℕ → ℕ → Sender → List ℕ → List ℕ → Incoming
incoming reading later from octets waiting =
    record { now = reading; later = later; from = from; octets = octets; waiting = waiting }

-- an arrival that is not refused
abbrev pub arrived_by : State → Incoming → List ℕ → Step State
arrived_by st i d = arrived st i d (route st i)
