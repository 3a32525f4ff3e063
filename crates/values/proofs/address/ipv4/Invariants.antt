-- `values::address::ipv4` reads the parts one by one. Assumes nothing.
use mathlib.Core.Path.{◌≡◌}
use mathlib.Core.List.{List, ◌++◌, map}
use Prim.Native.Nat.{ℕ, ◌≤◌, ◌<◌}
use Rattle.values.specs.Value.{octets_after}
use Rattle.values.proofs.Addresses.{bound}
use Rattle.values.proofs.address.ipv4.Given as goal

abbrev pub invariant-loop-part : goal.invariant-loop-part
invariant-loop-part l =
    record {
      most : l.left ≤ 4;
      fits : l.n < bound l.left;
      gives : (ps : List (List ℕ)) → octets_after 4 0 (map (λ p. p.now) l.yielded ++ ps) ≡ octets_after l.left l.n ps;
    }
