-- What a test was, from what the code was promised of it. Assumes nothing.
use Prim.Native.Nat.{ℕ, ◌-◌, ◌≤◌, ◌<◌}
use mathlib.Core.Path.{◌≡◌, sym, ◌∙◌}
use mathlib.Core.Bool.{true, false}
use lib.Dec.{leb}
use native.Mathlib.Omega.{arith}
use borrow.Author.Tests.{le-leb, lt-leb}

pub was : {A : Type 0} {x y z : A} → x ≡ y → x ≡ z → y ≡ z
was p q = sym p ∙ q

-- a time that has passed, and one that has not
pub due : (n now clock since : ℕ) → since ≡ now - clock → n ≤ since → leb n (now - clock) ≡ true
due n now clock since e h = le-leb n (now - clock) (omega arith)

pub not-due : (n now clock since : ℕ) → since ≡ now - clock → since < n → leb n (now - clock) ≡ false
not-due n now clock since e h = lt-leb n (now - clock) (omega arith)
