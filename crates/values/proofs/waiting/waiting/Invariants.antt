-- `values::waiting::waiting` reads the parts one by one. Assumes nothing.
use Prim.Native.Nat.{ℕ}
use mathlib.Core.List.{List, map}
use denote.Ref.{Bor}
use Rattle.values.proofs.Spans.{Listed}
use Rattle.values.proofs.waiting.waiting.Given as goal

abbrev pub invariant-loop-part : goal.invariant-loop-part
invariant-loop-part l = Listed (map (λ (p : Bor (List ℕ)). p.now) l.yielded) l.initial.numbers l.numbers l.n
