-- `lines::name::Name::of` is the name at the word's place among the spellings. Assumes nothing.
use mathlib.Core.Path.{◌≡◌, sym, ap, ◌∙◌}
use borrow.Author.Rules.{rules}
use Rattle.std.specs.Prelude.{slice_get, None}
use Rattle.text.specs.Name.{found}
use Rattle.lines.specs.Name.{calls}
use Rattle.lines.proofs.Names.{call-names, one-name, no-name}
use Rattle.lines.proofs.name.Name.of.Goals as goal

pub returns-in_err-place : goal.returns-in_err-place
returns-in_err-place c =
    let e : c.from_residual.result ≡ None = search rules in
    e ∙ no-name _ (sym (c.place_of.ensures ∙ ap (found c.args.word.now) call-names) ∙ c.in_err-place.was)

pub returns : goal.returns
returns c =
    let e : c.copied.result ≡ slice_get calls c.in_ok-place.place = search rules in
    e ∙ one-name _ _ (sym (c.place_of.ensures ∙ ap (found c.args.word.now) call-names) ∙ c.in_ok-place.was)
