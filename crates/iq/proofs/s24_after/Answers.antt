-- `iq::s24_after` meets its contract: the four octets read, turned round, are the three asked for. Assumes nothing.
use Prim.Native.Nat.{ℕ, ◌<◌}
use mathlib.Core.Path.{ap, ◌∙◌, sym, subst}
use native.Mathlib.Omega.{arith}
use Rattle.iq.specs.Iq.{sample_of}
use Rattle.iq.specs.Turn.{turned_of}
use Rattle.iq.proofs.Turns.{turned-small, turned-at}
use borrow.Author.Rules.{rules}
use Rattle.iq.proofs.s24_after.Goals as goal

pub sample-requires : goal.sample-requires
sample-requires c = subst (λ (n : ℕ). n < 16777216) (sym c.turned.ensures) (turned-small c.get_u32_le.result (search rules))

pub returns : goal.returns
returns c =
    let a = c.args in
    c.sample.ensures
    ∙ ap sample_of
    (c.turned.ensures
    ∙ ap turned_of c.get_u32_le.ensures
    ∙ turned-at a.b.now a.at (λ (i : ℕ). omega (arith, c.type_inv.b i)))
