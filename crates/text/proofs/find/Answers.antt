-- `text::find` passes the run of octets that are not b. Assumes nothing.
use mathlib.Core.Path.{◌≡◌, refl}
use borrow.Author.Rules.{rules}
use Rattle.std.specs.List.{position}
use Rattle.std.proofs.Common.{tests}
use Rattle.std.proofs.lemmas.Iterator.{YieldsList-from_slice}
use Rattle.std.proofs.lemmas.Iterator.Search.{position_from_yields_List}
use lib.Dec.{eqb}
use Prim.Native.Nat.{ℕ}
use Rattle.text.specs.Run.{other}
use Rattle.text.proofs.Runs.{placed}
use Rattle.text.proofs.find.Goals as goal

pub returns : goal.returns
returns c =
    let e : c.position.result ≡ position (λ (x : ℕ). eqb x c.args.b) c.args.s.now = position_from_yields_List (λ (x : ℕ). eqb x c.args.b) _ _ c.position.result c.position.ensures.ran (YieldsList-from_slice _ c.iter.ensures.rest) (λ x b q k. search (rules, tests)) in
    placed (other c.args.b) (λ (x : ℕ). eqb x c.args.b) (λ x. refl) c.args.s.now _ _ e c.unwrap_or.ensures
