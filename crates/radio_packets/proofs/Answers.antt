-- The answer of a writer whose values may be refused, in numbers, leaves no doubt which it was. Assumes nothing.
use Rattle.std.specs.Prelude.{⊤, Result, Ok, Err}
use Rattle.radio_packets.specs.declared.answer.WriteError.{WriteError}
use Rattle.radio_packets.specs.declared.answer.WriteError.TheVariants.{Value, NoRoom}
use mathlib.Core.Path.{◌≡◌, refl}
use mathlib.Core.Bool.{cond}
use lib.Dec.{eqb}
use Rattle.base.specs.Told.{Told, gives, refused}
use Rattle.base.proofs.Told.{apart}
use Rattle.radio_packets.specs.Answer.{write_answer}

write-back : Told → Result ⊤ WriteError
write-back (gives vs) = Ok tt
write-back (refused k vs) = cond (eqb k 15) (Err NoRoom) (Err Value)

write_same : (r : Result ⊤ WriteError) → write-back (write_answer r) ≡ r
unfolding write-back
write_same (Ok u) = refl
write_same (Err Value) = refl
write_same (Err NoRoom) = refl

pub write-apart : (r s : Result ⊤ WriteError) → write_answer r ≡ write_answer s → r ≡ s
write-apart = apart write_answer write-back write_same
