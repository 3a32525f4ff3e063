-- The radio's answers to command packets, in 02's numbers, and what a command packet comes to. Definitions only.
use Rattle.std.specs.Prelude.{⊤, [], Result, Ok, Err}
use Rattle.radio.specs.declared.answer.CommandError.{CommandError}
use Rattle.radio.specs.declared.answer.CommandError.TheVariants.{Length, Value}
use Rattle.base.specs.Told.{Told, gives, refused}
use Rattle.radio.specs.declared.answer.Heard.{Heard}
use Rattle.radio.specs.declared.state.Radio.{Radio}

abbrev pub command_answer : Result ⊤ CommandError → Told
command_answer (Ok u) = gives []
command_answer (Err Length) = refused 20 []
command_answer (Err Value) = refused 21 []

-- the answer to a command packet, and what the radio keeps then
pub record Outcome : Type 0 where
  pub told : Told
  pub radio : Radio

abbrev pub outcome : Told → Radio → Outcome
outcome told radio = record { told = told; radio = radio }

abbrev pub outcome_of : Heard → Outcome
outcome_of h = outcome (command_answer h.answer) h.radio
