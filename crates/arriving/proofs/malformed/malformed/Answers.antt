-- `arriving::malformed::malformed` meets its contract. Assumes nothing.
use Prim.Native.Nat.{ℕ}
use mathlib.Core.Path.{refl}
use mathlib.Core.List.{List}
use Rattle.sending.proofs.Givings.{gives-told}
use Rattle.arriving.proofs.Arrivals.{malformed-limit, malformed-on}
use Rattle.arriving.proofs.malformed.malformed.Goals as goal

pub returns-then-s : goal.returns-then-s
returns-then-s c = λ (d : List ℕ). gives-told _ _ d _ _ refl (malformed-on c.args.s.now d _ c.note_malformed.ensures c.if-s.true)

pub returns : goal.returns
returns c = λ (d : List ℕ). gives-told _ _ d _ _ refl (malformed-limit c.args.s.now d _ c.note_malformed.ensures _ c.if-s.false c.shut.ensures)
