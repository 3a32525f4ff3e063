-- `iq::read_samples` meets its contract: each turn of the loop leaves one sample more at the front. Assumes nothing.
use Prim.Native.Nat.{ℕ, ◌+◌, ◌*◌}
use mathlib.Core.Path.{◌≡◌}
use mathlib.Core.List.{List, ◌++◌}
use lib.ListN.{length, drop}
use lib.Ieee.{Float}
use Rattle.octets.specs.Number.{be_at}
use Rattle.octets.specs.Table.{tab}
use Rattle.iq.specs.Iq.{sample_of}
use Rattle.iq.proofs.read_samples.Given as goal

abbrev sampled : List ℕ → ℕ → Float
sampled buf k = sample_of (be_at 3 buf (16 + 3 * k))

abbrev pub invariant-loop-i : goal.invariant-loop-i
invariant-loop-i l = (length l.out ≡ length l.initial.out) × (l.out ≡ tab l.i (sampled l.buf) ++ drop l.i l.initial.out)
