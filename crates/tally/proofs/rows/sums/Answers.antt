-- `tally::rows::sums` meets its contract. Assumes nothing.
use Rattle.std.proofs.Common.{◌∙◌, arith}
use Rattle.tally.specs.Table.{stretches_of}
use Rattle.tally.proofs.Tables.{length_stretches}
use Rattle.tally.proofs.Tellings.{one-added, all-added}
use Rattle.tally.proofs.rows.sums.Goals as goal

pub loop-i-preserved : goal.loop-i-preserved
loop-i-preserved c =
    let a = c.args in
    let l = c.loop-i in
    one-added (stretches_of a.table.now a.a) l.i _ _ _ (omega (arith, length_stretches a.table.now a.a.stretches a.a.last)) c.stretch.ensures c.plus-t.ensures ∙ l.invariant

pub returns : goal.returns
returns c =
    let a = c.args in
    all-added (stretches_of a.table.now a.a) c.loop-i.i _ (omega (arith, length_stretches a.table.now a.a.stretches a.a.last)) c.loop-i.invariant
