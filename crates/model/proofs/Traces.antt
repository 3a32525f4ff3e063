-- A list of calls run in two parts. Assumes nothing.
use Rattle.std.proofs.Common.{◌≡◌, List, [], ◌∷◌, ◌++◌, refl, ap}
use Rattle.model.specs.Host.{Call, Reply, Host, trace, final}

pub final-append : (h : Host) (at : h.State) (a b : List Call) → final h at (a ++ b) ≡ final h (final h at a) b
final-append h at [] b = refl
final-append h at (c ∷ a) b = final-append h (h.step at c).state a b

pub trace-append : (h : Host) (at : h.State) (a b : List Call) → trace h at (a ++ b) ≡ trace h at a ++ trace h (final h at a) b
trace-append h at [] b = refl
trace-append h at (c ∷ a) b = ap (λ (l : List Reply). (h.step at c).reply ∷ l) (trace-append h (h.step at c).state a b)
