-- `lines::option::options` takes the words one by one. Assumes nothing.
use Rattle.lines.proofs.Options.{no_more, no-rest, stops-there, stops-untaken, goes_on, why, was-taken}
use mathlib.Core.Path.{sym, ◌∙◌}
use Rattle.lines.proofs.option.options.Goals as goal

pub returns : goal.returns
returns c = (no_more _ _ _ _ _ _ _ _ c.loop-word.invariant c.in_default.ensures, no-rest _ _ _ _ _ _ _ _ c.loop-word.invariant c.in_default.ensures)

pub loop-word-preserved : goal.loop-word-preserved
loop-word-preserved c = goes_on _ _ _ _ _ _ _ _ c.loop-word.invariant _ _ c.in-Some.ensures _ _ _ c.take_option-took.ensures (was-taken c.take_option-took.result (sym c.is_err.ensures.value ∙ c.if-is_err.false))

pub returns-then-is_err : goal.returns-then-is_err
returns-then-is_err c =
    let k = why c.take_option-took.result (sym c.is_err.ensures.value ∙ c.if-is_err.true) in
    (stops-untaken _ _ _ _ _ _ _ _ c.loop-word.invariant _ _ c.in-Some.ensures _ _ _ c.take_option-took.ensures k.0 k.1, stops-there _ _ _ _ _ _ _ _ c.loop-word.invariant _ _ c.in-Some.ensures _ _ _ c.take_option-took.ensures k.0 k.1)
