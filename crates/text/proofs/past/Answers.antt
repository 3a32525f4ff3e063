-- `text::past` passes the run of octets that are b. Assumes nothing.
use mathlib.Core.Path.{◌≡◌}
use borrow.Author.Rules.{rules}
use Rattle.std.specs.List.{position}
use Rattle.std.proofs.Common.{tests}
use Rattle.std.proofs.lemmas.Iterator.{YieldsList-from_slice}
use Rattle.std.proofs.lemmas.Iterator.Search.{position_from_yields_List}
use Prim.Native.Nat.{ℕ}
use mathlib.Core.Bool.{not}
use lib.Dec.{eqb}
use Rattle.text.specs.Run.{is}
use Rattle.text.proofs.Runs.{placed}
use Rattle.text.proofs.past.Goals as goal

pub returns : goal.returns
returns c =
    let e : c.position.result ≡ position (λ (x : ℕ). not (eqb x c.args.b)) c.args.s.now = position_from_yields_List (λ (x : ℕ). not (eqb x c.args.b)) _ _ c.position.result c.position.ensures.ran (YieldsList-from_slice _ c.iter.ensures.rest) (λ x b q k. search (rules, tests)) in
    placed (is c.args.b) (λ (x : ℕ). not (eqb x c.args.b)) (λ x. search (rules, tests)) c.args.s.now _ _ e c.unwrap_or.ensures
