-- `replay::run::carry_on` meets its contract. Assumes nothing.
use Rattle.std.specs.Prelude.{◌≡◌, length, Err}
use Rattle.std.proofs.Common.{◌∙◌, refl, sym, ap}
use Rattle.std.proofs.lemmas.Grind.{common_steps}
use native.Mathlib.Omega.{arith}
use Rattle.model.specs.Gives.{joined}
use Rattle.encoding.specs.Lists.{lent_with, outcome_in}
use Rattle.encoding.specs.declared.words.Amounts.{Amounts}
use Rattle.replay.proofs.Replays.{refused-list, run-list}
use Rattle.replay.proofs.run.carry_on.Goals as goal

pub returns-in_err-check : goal.returns-in_err-check
returns-in_err-check c =
    let a = c.args in
    let l = lent_with a.list a.packets.now a.places.now in
    let o : c.check.result ≡ outcome_in a.list.words.now _ (length a.answers.now) =
    c.check.ensures ∙ ap (λ (r : Amounts). outcome_in a.list.words.now r (length a.answers.now)) c.room_of.ensures in
    let e : c.from_residual.result ≡ Err c.in_err-check.field-0.0 = grind (arith, common_steps) in
    rw e (refused-list _ (joined a.s.now a.samples.now) l a.answers.now (sym o ∙ c.in_err-check.was) refl)

pub returns : goal.returns
returns c =
    let a = c.args in
    let l = lent_with a.list a.packets.now a.places.now in
    let o : c.check.result ≡ outcome_in a.list.words.now _ (length a.answers.now) =
    c.check.ensures ∙ ap (λ (r : Amounts). outcome_in a.list.words.now r (length a.answers.now)) c.room_of.ensures in
    run-list _ (joined a.s.now a.samples.now) l a.answers.now (sym o) c.in_ok-check.was _ _ _ _ c.run.ensures
