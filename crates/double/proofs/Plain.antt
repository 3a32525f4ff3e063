-- Doubles that are finite and not negative: what holds of every such number holds of them. Assumes nothing.
use Rattle.std.proofs.Common.{◌≡◌, ℕ, ◌*◌, true, false, T, ℤ, refl, true≢false}
use lib.Ieee.{Float, nan, inf, fin}
use lib.Ieee.Exact.{HasValue}
use lib.Ieee.Positive.{num, den, positive}

abbrev pub Plain : Float → Type 0
Plain nan = ⊥
Plain (inf s) = ⊥
Plain (fin s m e) = s ≡ false

pub plain : (P : Float → Type 0) → ((m : ℕ) (e : ℤ) → P (fin false m e)) → (x : Float) → Plain x → P x
plain P f nan p = absurd p
plain P f (inf s) p = absurd p
plain P f (fin true m e) p = absurd (true≢false p)
plain P f (fin false m e) p = f m e

pub plain-two : (P : Float → Float → Type 0) → ((m : ℕ) (e : ℤ) (n : ℕ) (d : ℤ) → P (fin false m e) (fin false n d)) → (x y : Float) → Plain x → Plain y → P x y
plain-two P f x y p q = plain (λ (x : Float). P x y) (λ m e. plain (P (fin false m e)) (f m e) y q) x p

pub of-value : (x : Float) (a c : ℕ) → HasValue x false a c → Plain x
of-value nan a c v = v
of-value (inf s) a c v = v
of-value (fin s m e) a c v = v.0

pub of_positive : (x : Float) → T (positive x) → Plain x
of_positive nan p = p
of_positive (inf s) p = p
of_positive (fin true m e) p = absurd p
of_positive (fin false m e) p = refl

-- such a number has each fraction that it equals, its own among them
pub has_value : (x : Float) (a c : ℕ) → Plain x → num x * c ≡ a * den x → HasValue x false a c
has_value x a c = plain (λ (x : Float). num x * c ≡ a * den x → HasValue x false a c) (λ m e h. (refl, h)) x

pub own-fraction : (x : Float) → Plain x → HasValue x false (num x) (den x)
own-fraction x p = has_value x (num x) (den x) p refl
