-- What a call that lists streams answers, with other streams in place of its own: two answers that are then alike differ in their streams
-- alone. Definitions only.
use Rattle.std.specs.Prelude.{Result, Ok, Err}
use Rattle.model.specs.declared.answer.Refusal.{Refusal}
use Rattle.model.specs.declared.answer.PassAnswer.{PassAnswer}
use Rattle.model.specs.declared.answer.PassAnswer.TheVariants as pass
use Rattle.model.specs.declared.answer.ArrivalAnswer.{ArrivalAnswer}
use Rattle.model.specs.declared.answer.ArrivalAnswer.TheVariants as arrival
use Rattle.model.specs.declared.command.Streams.{Streams}

abbrev pub pass_listing : Streams → Result PassAnswer Refusal → Result PassAnswer Refusal
pass_listing l (Ok pass.Ready) = Ok pass.Ready
pass_listing l (Ok pass.SoftStall) = Ok pass.SoftStall
pass_listing l (Ok pass.HardStall) = Ok pass.HardStall
pass_listing l (Ok (pass.Sent streams)) = Ok (pass.Sent l)
pass_listing l (Err r) = Err r

abbrev pub arrival_listing : Streams → Result ArrivalAnswer Refusal → Result ArrivalAnswer Refusal
arrival_listing l (Ok arrival.Ignored) = Ok arrival.Ignored
arrival_listing l (Ok (arrival.Status streams)) = Ok (arrival.Status l)
arrival_listing l (Ok arrival.Malformed) = Ok arrival.Malformed
arrival_listing l (Ok arrival.MalformedLimit) = Ok arrival.MalformedLimit
arrival_listing l (Ok (arrival.Iq event missing)) = Ok (arrival.Iq event missing)
arrival_listing l (Err r) = Err r

abbrev pub close_listing : Streams → Result Streams Refusal → Result Streams Refusal
close_listing l (Ok streams) = Ok l
close_listing l (Err r) = Err r
