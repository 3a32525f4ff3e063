-- A host: what it opens to, what each call answers and leaves, and which samples still wait in it. Nothing here names the session.
-- Definitions only.
use Rattle.std.specs.Prelude.{ℕ, List, [], ◌∷◌, Float}
use Rattle.model.specs.Answer.{Answer}
use Rattle.model.specs.Sample.{Sample}
use Rattle.model.specs.declared.sender.Sender.{Sender}
use Rattle.model.specs.declared.settings.Settings.{Settings}

-- what an Arrival brings: its two readings, the sender, the datagram's octets, and the numbers that wait
pub record Incoming : Type 0 where
  pub now : ℕ
  pub later : ℕ
  pub from : Sender
  pub octets : List ℕ
  pub waiting : List ℕ

-- the calls with all their arguments but the session: readings, what arrives, and the lent buffers as they are at the call
pub data Call : Type 0 where
  Begin : (now : ℕ) → Call
  Pass : (now : ℕ) (packets : List ℕ) → Call
  Arrival : (incoming : Incoming) (packets : List ℕ) → Call
  Take : (now : ℕ) (buffer : List Float) → Call
  Close : (packets : List ℕ) → Call
  TakeMissing : Call
  TakeDiscontinuity : Call
  TakeStalled : Call

-- what the caller gets back: the answer, the streams written (as port offsets, in order), and the lent buffers on return
pub record Reply : Type 0 where
  pub answer : Answer
  pub streams : List ℕ
  pub packets : List ℕ
  pub buffer : List Float

pub record Step (S : Type 0) : Type 0 where
  pub reply : Reply
  pub state : S

pub record Host : Type 1 where
  pub State : Type 0
  pub opened : Settings → ℕ → State
  pub step : State → Call → Step State
  pub waiting : State → List Sample

-- ---- a list of calls, each given the state that the call before it left

-- the trace of a list: what each call got back
abbrev pub trace : (h : Host) → h.State → List Call → List Reply
trace h s [] = []
trace h s (c ∷ cs) = (h.step s c).reply ∷ trace h (h.step s c).state cs

abbrev pub final : (h : Host) → h.State → List Call → h.State
final h s [] = s
final h s (c ∷ cs) = final h (h.step s c).state cs
