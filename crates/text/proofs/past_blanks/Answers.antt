-- `text::past_blanks` passes the run of blanks. Assumes nothing.
use mathlib.Core.Path.{◌≡◌}
use borrow.Author.Rules.{rules}
use Rattle.std.specs.List.{position}
use Rattle.std.proofs.Common.{tests}
use Rattle.std.proofs.lemmas.Iterator.{YieldsList-from_slice}
use Rattle.std.proofs.lemmas.Iterator.Search.{position_from_yields_List}
use Rattle.text.specs.Split.{blank, filled}
use Rattle.text.proofs.Runs.{placed}
use Rattle.text.proofs.past_blanks.Goals as goal

pub returns : goal.returns
returns c =
    let e : c.position.result ≡ position filled c.args.s.now = position_from_yields_List filled _ _ c.position.result c.position.ensures.ran (YieldsList-from_slice _ c.iter.ensures.rest) (λ x b q k. search (rules, tests)) in
    placed blank filled (λ x. search (rules, tests)) c.args.s.now _ _ e c.unwrap_or.ensures
