-- `marking::note::arrived` meets its contract. Assumes nothing.
use mathlib.Core.Path.{sym, ◌∙◌}
use Rattle.marking.proofs.Codes.{event-said}
use Rattle.marking.proofs.note.arrived.Goals as goal

pub returns-in-Some : goal.returns-in-Some
returns-in-Some c =
    let a = c.args in
    let h = event-said a.table.now a.a.now a.reading a.number a.code a.value c.in-Some.event
    (sym c.in-Some.is ∙ c.said_by.ensures.says a.value) _ c.note.new.table (c.note.ensures.value, c.note.ensures.table_after) in
    record { value = h.0; table_after = h.1 }
