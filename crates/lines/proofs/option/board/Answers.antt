-- `lines::option::board` tells a skipped discovery by its name. Assumes nothing.
use mathlib.Core.Path.{sym, ◌∙◌}
use borrow.Author.Rules.{rules}
use Rattle.text.specs.Name.{ascii}
use Rattle.text.proofs.Names.{eq-told}
use Rattle.base.proofs.Picks.{pick-t, pick-f}
use Rattle.lines.proofs.option.board.Goals as goal

pub returns-then-eq : goal.returns-then-eq
returns-then-eq c = sym (pick-t _ _ _ (sym (eq-told c.args.w.now (ascii "skipped") _ (search rules)) ∙ c.if-eq.true))

pub returns : goal.returns
returns c = c.number.ensures ∙ sym (pick-f _ _ _ (sym (eq-told c.args.w.now (ascii "skipped") _ (search rules)) ∙ c.if-eq.false))
