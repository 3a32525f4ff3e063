-- `turns::call::close` meets its contract. Assumes nothing.
use Rattle.std.specs.Prelude.{◌≡◌, [], Result, Ok, Err}
use Rattle.std.specs.Result.{result_unwrap_or}
use Rattle.std.proofs.Common.{◌∙◌, ap, refl}
use Rattle.model.specs.Command.{streams_as}
use Rattle.model.specs.Gives.{close_streams}
use Rattle.model.specs.declared.answer.Refusal.{Refusal}
use Rattle.model.specs.declared.command.Streams.{Streams}
use Rattle.turns.proofs.Arms.{wrote, closes}
use Rattle.turns.proofs.call.close.Goals as goal

so : (r : Result Streams Refusal) → result_unwrap_or r (streams_as []) ≡ close_streams r
so (Ok l) = refl
so (Err e) = refl

pub returns : goal.returns
returns c = let a = c.args in wrote _ _ _ _ _ _ _ _ _ c.close-a.ensures (closes a.s.now a.packets.now) c.of_close.ensures
    (c.unwrap_or.ensures ∙ ap (λ (l : Streams). result_unwrap_or c.close-a.result l) c.no_streams.ensures ∙ so c.close-a.result)
