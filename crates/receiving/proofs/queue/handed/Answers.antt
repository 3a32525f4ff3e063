-- `receiving::queue::handed` meets its contract. Assumes nothing.
use Prim.Native.Nat.{min}
use mathlib.Core.Path.{ap, ◌∙◌}
use native.Mathlib.Omega.{arith}
use Rattle.model.specs.declared.receiver.Receiver.{Receiver}
use Rattle.model.specs.State as State
use Rattle.model.specs.Take as Take
use Rattle.receiving.proofs.Receivers.{handed-so}
use Rattle.receiving.proofs.queue.handed.Goals as goal

pub overflow_add-r : goal.overflow_add-r
unfolding State.left
overflow_add-r c = omega (arith, c.min-pairs.ensures, c.left.ensures, ap (λ (x : Receiver). x.queue_pos) c.shut.ensures)

pub returns : goal.returns
returns c = let a = c.args in
    handed-so a.r.now a.now _ _ _ c.shut.ensures c.note_delivery.ensures
    ∙ ap (Take.handed a.r.now a.now) (c.min-pairs.ensures ∙ ap (min a.n) c.left.ensures)
