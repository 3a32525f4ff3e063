-- `values::address::host` tells an IPv6 sender by its name. Assumes nothing.
use mathlib.Core.Path.{sym, ◌∙◌}
use Rattle.base.proofs.Picks.{pick-t, pick-f}
use borrow.Author.Rules.{rules}
use Rattle.text.specs.Name.{ascii}
use Rattle.text.proofs.Names.{eq-told}
use Rattle.values.specs.Value.{host}
use Rattle.values.proofs.address.host.Goals as goal

pub returns-then-eq : goal.returns-then-eq
unfolding host
returns-then-eq c = sym (pick-t _ _ _ (sym (eq-told c.args.w.now (ascii "v6") _ (search rules)) ∙ c.if-eq.true))

pub returns : goal.returns
unfolding host
returns c = c.ipv4.ensures ∙ sym (pick-f _ _ _ (sym (eq-told c.args.w.now (ascii "v6") _ (search rules)) ∙ c.if-eq.false))
