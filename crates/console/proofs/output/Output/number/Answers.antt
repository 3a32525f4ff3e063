-- `console::output::Output::number` meets its contract: what is put are the digits that `io::decimal` gives. Assumes nothing.
use Rattle.console.specs.Output.{PutsNumber}
use Rattle.console.proofs.output.Output.number.Goals as goal

pub returns : goal.returns
unfolding PutsNumber
returns c =
    let d = c.decimal-k in
    (d.result, d.ensures.len, rw d.ensures.digits at c.put.ensures)
