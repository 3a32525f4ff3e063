-- What a call takes, tested against the room that is left. Assumes nothing.
use Prim.Native.Nat.{ℕ}
use mathlib.Core.Path.{◌≡◌, refl, sym, subst}
use mathlib.Core.Bool.{Bool, true, false, ◌&&◌}
use lib.Dec.{leb}
use native.Mathlib.Omega.{arith}
use borrow.Author.Tests.{leb-true}
use Rattle.encoding.specs.Words.{plus, within, Within, Adds}
use Rattle.encoding.specs.declared.words.Amounts.{Amounts}

-- the test, as what it says
pub within-says : (a room : Amounts) → within a room ≡ true → Within a room
within-says a room h =
    go (leb a.octets room.octets) (leb a.numbers room.numbers) (leb a.packets room.packets) (leb a.places room.places) refl refl refl refl h
  where
    go : (o n p q : Bool) → leb a.octets room.octets ≡ o → leb a.numbers room.numbers ≡ n → leb a.packets room.packets ≡ p
        → leb a.places room.places ≡ q → (o && (n && (p && q))) ≡ true → Within a room
    go true true true true eo en ep eq h =
        record { octets = leb-true _ _ eo; numbers = leb-true _ _ en; packets = leb-true _ _ ep; places = leb-true _ _ eq }
    go false n p q eo en ep eq h = let z : ◌≡◌ {A = ℕ} 0 1 = cc in absurd (omega arith)
    go true false p q eo en ep eq h = let z : ◌≡◌ {A = ℕ} 0 1 = cc in absurd (omega arith)
    go true true false q eo en ep eq h = let z : ◌≡◌ {A = ℕ} 0 1 = cc in absurd (omega arith)
    go true true true false eo en ep eq h = let z : ◌≡◌ {A = ℕ} 0 1 = cc in absurd (omega arith)

pub sums : (taken need room r : Amounts) → Within (plus taken need) room → r ≡ plus taken need → Adds taken need room r
sums taken need room r h e =
    subst (λ (x : Amounts). Adds taken need room x) (sym e)
    (record { sum = refl; above = record { octets = omega arith; numbers = omega arith; packets = omega arith; places = omega arith }; below = h })
