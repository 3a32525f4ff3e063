-- Demand 1 of the calls: a refusal changes nothing. What is claimed of every state and call. Definitions only.
use Rattle.std.specs.Prelude.{◌≡◌, ℕ, Bool, true, false, T, List, [], Float}
use Rattle.model.specs.Host.{Call, Begin, Pass, Arrival, Take, Close, TakeMissing, TakeDiscontinuity, TakeStalled, Step}
use Rattle.model.specs.Answer.{tells}

-- the buffers that a call lends, as they are at the call
abbrev pub lent_packets : Call → List ℕ
lent_packets (Pass now packets) = packets
lent_packets (Arrival i packets) = packets
lent_packets (Close packets) = packets
lent_packets (Begin now) = []
lent_packets (Take now buffer) = []
lent_packets TakeMissing = []
lent_packets TakeDiscontinuity = []
lent_packets TakeStalled = []

abbrev pub lent_buffer : Call → List Float
lent_buffer (Take now buffer) = buffer
lent_buffer (Begin now) = []
lent_buffer (Pass now packets) = []
lent_buffer (Arrival i packets) = []
lent_buffer (Close packets) = []
lent_buffer TakeMissing = []
lent_buffer TakeDiscontinuity = []
lent_buffer TakeStalled = []

-- the drains, which are never refused
abbrev pub is_drain : Call → Bool
is_drain (Begin now) = false
is_drain (Pass now packets) = false
is_drain (Arrival i packets) = false
is_drain (Take now buffer) = false
is_drain (Close packets) = false
is_drain TakeMissing = true
is_drain TakeDiscontinuity = true
is_drain TakeStalled = true

-- nothing is listed, and the state and every place of every lent buffer are as they were
pub record Unchanged {S : Type 0} (at : S) (c : Call) (x : Step S) : Type 0 where
  pub state : x.state ≡ at
  pub streams : x.reply.streams ≡ []
  pub packets : x.reply.packets ≡ lent_packets c
  pub buffer : x.reply.buffer ≡ lent_buffer c

-- where the answer is a refusal
pub record Guarded {S : Type 0} (at : S) (c : Call) (x : Step S) : Type 0 where
  pub guard : T (tells x.reply.answer).refusal → Unchanged at c x
