-- `lines::option::attenuation` is the word's place among the three. Assumes nothing.
use mathlib.Core.Path.{◌≡◌, sym, ap, ◌∙◌}
use borrow.Author.Rules.{rules}
use Rattle.std.specs.Prelude.{None}
use Rattle.text.specs.Name.{found}
use Rattle.lines.proofs.Names.{attenuation-names, attenuation-found, no-attenuation}
use Rattle.lines.proofs.option.attenuation.Goals as goal

pub returns-in_err-place_of : goal.returns-in_err-place_of
returns-in_err-place_of c =
    let e : c.from_residual.result ≡ None = search rules in
    e ∙ no-attenuation _ (sym (c.place_of.ensures ∙ ap (found c.args.w.now) attenuation-names) ∙ c.in_err-place_of.was)

pub returns : goal.returns
returns c = attenuation-found _ _ (sym (c.place_of.ensures ∙ ap (found c.args.w.now) attenuation-names) ∙ c.in_ok-place_of.was)
