-- The answer to a command packet, in numbers, leaves no doubt which it was. Assumes nothing.
use Rattle.std.specs.Prelude.{⊤, Result, Ok, Err}
use Rattle.radio.specs.declared.answer.CommandError.{CommandError}
use Rattle.radio.specs.declared.answer.CommandError.TheVariants.{Length, Value}
use mathlib.Core.Path.{◌≡◌, refl}
use mathlib.Core.Bool.{cond}
use lib.Dec.{eqb}
use Rattle.base.specs.Told.{Told, gives, refused}
use Rattle.base.proofs.Told.{apart}
use Rattle.radio.specs.Answer.{command_answer}

command-back : Told → Result ⊤ CommandError
command-back (gives vs) = Ok tt
command-back (refused k vs) = cond (eqb k 20) (Err Length) (Err Value)

command-same : (r : Result ⊤ CommandError) → command-back (command_answer r) ≡ r
unfolding command-back
command-same (Ok u) = refl
command-same (Err Length) = refl
command-same (Err Value) = refl

pub command-apart : (r s : Result ⊤ CommandError) → command_answer r ≡ command_answer s → r ≡ s
command-apart = apart command_answer command-back command-same
