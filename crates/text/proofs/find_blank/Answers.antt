-- `text::find_blank` passes the run of octets that are no blanks. Assumes nothing.
use mathlib.Core.Path.{◌≡◌, refl}
use borrow.Author.Rules.{rules}
use Rattle.std.specs.List.{position}
use Rattle.std.proofs.Common.{tests}
use Rattle.std.proofs.lemmas.Iterator.{YieldsList-from_slice}
use Rattle.std.proofs.lemmas.Iterator.Search.{position_from_yields_List}
use Rattle.text.specs.Split.{blank, filled}
use Rattle.text.proofs.Runs.{placed}
use Rattle.text.proofs.find_blank.Goals as goal

pub returns : goal.returns
returns c =
    let e : c.position.result ≡ position blank c.args.s.now = position_from_yields_List blank _ _ c.position.result c.position.ensures.ran (YieldsList-from_slice _ c.iter.ensures.rest) (λ x b q k. search (rules, tests)) in
    placed filled blank (λ x. refl) c.args.s.now _ _ e c.unwrap_or.ensures
