-- The packets that a call listed, read one after another. Definitions only.
use Rattle.std.specs.Prelude.{ℕ, zero, suc, ◌+◌, List, [], ◌∷◌, take, drop, Option, Some, None}
use Rattle.base.specs.Told.{Told, gives, refused}
use Rattle.wire.specs.Command.{size_of}
use Rattle.wire.specs.declared.command.Stream.{Stream}
use Rattle.wire.specs.declared.command.Stream.TheVariants.{General, RxSpecific, TxSpecific, HighPriority}
use Rattle.radio.specs.Answer.{Outcome}
use Rattle.radio.specs.Command.{command_read}
use Rattle.radio.specs.declared.listen.Received.{Received}
use Rattle.radio.specs.declared.state.Radio.{Radio}

-- the stream whose packets go to the port plus this offset
abbrev pub stream_at : ℕ → Option Stream
stream_at zero = Some General
stream_at (suc zero) = Some RxSpecific
stream_at (suc (suc zero)) = Some TxSpecific
stream_at (suc (suc (suc zero))) = Some HighPriority
stream_at (suc (suc (suc (suc n)))) = None

-- ---- the packets of these streams, given as offsets: each stands behind the last, and an offset that is no stream's ends them

pub record Command : Type 0 where
  pub stream : Stream
  pub octets : List ℕ

abbrev pub where_known : Option Stream → (Stream → List Command) → List Command
where_known None f = []
where_known (Some k) f = f k

unfoldable pub cut : List ℕ → List ℕ → List Command
cut [] b = []
cut (o ∷ os) b = where_known (stream_at o) (λ k. record { stream = k; octets = take (size_of k) b } ∷ cut os (drop (size_of k) b))

-- what becomes of each
unfoldable pub received : Radio → List Command → List Outcome
received r [] = []
received r (c ∷ cs) = let x = command_read r c.stream c.octets in x ∷ received x.radio cs

-- ---- what is left of them: the radio after the last, and how many it accepted

abbrev pub after : Radio → List Outcome → Radio
after r [] = r
after r (x ∷ xs) = after x.radio xs

abbrev pub is_accepted : Told → ℕ
is_accepted (gives vs) = 1
is_accepted (refused n vs) = 0

abbrev pub accepted : List Outcome → ℕ
accepted [] = 0
accepted (x ∷ xs) = is_accepted x.told + accepted xs

abbrev pub received_of : Radio → List Outcome → Received
received_of r xs = record { radio = after r xs; accepted = accepted xs }
