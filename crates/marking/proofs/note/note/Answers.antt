-- `marking::note::note` meets its contract: by the kind. Assumes nothing.
use mathlib.Core.Path.{refl, sym, ap, ◌∙◌}
use native.Mathlib.Omega.{arith}
use Rattle.encoding.specs.Words.{words_at, kind_number}
use Rattle.answers.specs.Code.{answer_in}
use Rattle.tally.specs.Table.{fitting}
use Rattle.encoding.proofs.Takings.{is-arrival, is-take}
use Rattle.marking.proofs.Codes.{of-arrival, of-take, of_other}
use Rattle.marking.proofs.note.note.Goals as goal

-- a number past the last kind's
pub returns-in_default : goal.returns-in_default
returns-in_default c =
    let a = c.args in
    let l = c.of.ensures.none c.in_default.is in
    let h = of_other a.table.now a.a.now (words_at a.call.now 0) a.octets.now (answer_in a.answers.now) _ (λ e. omega (arith, e, l)) (λ e. omega (arith, e, l)) refl in
    record { value = h.0; table_after = h.1 }

pub returns-in-Arrival : goal.returns-in-Arrival
returns-in-Arrival c =
    let a = c.args in
    let h = of-arrival a.table.now a.a.now (words_at a.call.now 0) a.octets.now (answer_in a.answers.now) _ (c.in-Some.ensures.some ∙ ap kind_number c.in-Arrival.is)
    c.arrived.new.table (rw (← c.number_of-number.ensures) (c.arrived.ensures.value, c.arrived.ensures.table_after)) in
    record { value = h.0; table_after = h.1 }

pub returns-in-Take : goal.returns-in-Take
returns-in-Take c =
    let a = c.args in
    let h = of-take a.table.now a.a.now (words_at a.call.now 0) a.octets.now (answer_in a.answers.now) _ (c.in-Some.ensures.some ∙ ap kind_number c.in-Take.is)
    (ap fitting c.took.ensures) in
    record { value = h.0; table_after = h.1 }

pub returns-in_default-kind : goal.returns-in_default-kind
returns-in_default-kind c =
    let a = c.args in
    let k = c.in-Some.ensures.some in
    let h = of_other a.table.now a.a.now (words_at a.call.now 0) a.octets.now (answer_in a.answers.now) _
    (λ e. c.in_default-kind.not-Arrival (is-arrival _ (sym k ∙ e))) (λ e. c.in_default-kind.not-Take (is-take _ (sym k ∙ e))) refl in
    record { value = h.0; table_after = h.1 }
