-- What a call answers, in 01's words and numbers, and each answer of the code as one of them. Definitions only.
use Rattle.std.specs.Prelude.{⊤, ℕ, Bool, true, false, Option, Some, None, Result, Ok, Err}
use Rattle.model.specs.declared.answer.Refusal.{Refusal}
use Rattle.model.specs.declared.answer.Refusal.TheVariants as refusal
use Rattle.model.specs.declared.answer.PassAnswer.TheVariants as pass
use Rattle.model.specs.declared.answer.ArrivalAnswer.TheVariants as arrival
use Rattle.sequence.specs.declared.SeqEvent.{SeqEvent}
use Rattle.model.specs.declared.command.Streams.{Streams}
use Rattle.model.specs.declared.answer.PassAnswer.{PassAnswer}
use Rattle.model.specs.declared.answer.ArrivalAnswer.{ArrivalAnswer}

-- answers that give no number
pub data Word : Type 0 where
  begun : Word
  ready : Word
  soft_stall : Word
  hard_stall : Word
  sent : Word
  ignored : Word
  status : Word
  malformed : Word
  malformed_limit : Word
  closed : Word

pub data Answer : Type 0 where
  -- by 01's number
  refused : (number : ℕ) → Answer
  done : (word : Word) → Answer
  -- valid I/Q: the event, and what this arrival misses
  heard : (event : SeqEvent) (missing : ℕ) → Answer
  -- so many pairs were handed out
  took : (pairs : ℕ) → Answer
  -- what a drain returns
  slot : (held : Option ℕ) → Answer
  flag : (stalled : Bool) → Answer

-- 01's number of a refusal
abbrev pub refusal_number : Refusal → ℕ
refusal_number refusal.NotNow = 10
refusal_number refusal.ReadingFell = 11
refusal_number refusal.SamplesWait = 12
refusal_number refusal.LaterFell = 13
refusal_number refusal.TooManyWaiting = 14
refusal_number refusal.NoPacketRoom = 15
refusal_number refusal.NoSampleRoom = 16
refusal_number refusal.NothingWaits = 17

abbrev pub refused_by : Refusal → Answer
refused_by r = refused (refusal_number r)

abbrev pub begin_answer : Result ⊤ Refusal → Answer
begin_answer (Ok u) = done begun
begin_answer (Err r) = refused_by r

abbrev pub pass_answer : Result PassAnswer Refusal → Answer
pass_answer (Ok pass.Ready) = done ready
pass_answer (Ok pass.SoftStall) = done soft_stall
pass_answer (Ok pass.HardStall) = done hard_stall
pass_answer (Ok (pass.Sent streams)) = done sent
pass_answer (Err r) = refused_by r

abbrev pub arrival_answer : Result ArrivalAnswer Refusal → Answer
arrival_answer (Ok arrival.Ignored) = done ignored
arrival_answer (Ok (arrival.Status streams)) = done status
arrival_answer (Ok arrival.Malformed) = done malformed
arrival_answer (Ok arrival.MalformedLimit) = done malformed_limit
arrival_answer (Ok (arrival.Iq event missing)) = heard event missing
arrival_answer (Err r) = refused_by r

abbrev pub take_answer : Result ℕ Refusal → Answer
take_answer (Ok pairs) = took pairs
take_answer (Err r) = refused_by r

abbrev pub close_answer : Result Streams Refusal → Answer
close_answer (Ok streams) = done closed
close_answer (Err r) = refused_by r

-- what an answer tells of the stream
pub record Tells : Type 0 where
  pub refusal : Bool
  pub event : Option SeqEvent
  pub missing : ℕ
  -- how many pairs a Take handed out
  pub handed : ℕ

abbrev pub silent : Bool → ℕ → Tells
silent r n = record { refusal = r; event = None; missing = 0; handed = n }

abbrev pub tells : Answer → Tells
tells (refused number) = silent true 0
tells (done word) = silent false 0
tells (heard event missing) = record { refusal = false; event = Some event; missing = missing; handed = 0 }
tells (took n) = silent false n
tells (slot held) = silent false 0
tells (flag stalled) = silent false 0
