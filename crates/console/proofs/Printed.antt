-- What is put for a number stands in the buffer and is read back as the number. Assumes nothing.
use Prim.Native.Nat.{ℕ, zero, suc, ◌+◌, ◌/◌, ◌^◌, ◌≤◌, ◌<◌}
use mathlib.Core.Path.{◌≡◌, refl, ap, ◌∙◌}
use mathlib.Core.Bool.{true}
use mathlib.Core.Logic.{◌⊎◌, inl, inr}
use mathlib.Core.List.{List}
use native.Mathlib.Omega.{arith}
use lib.ListN.{length, take, drop, length-append}
use lib.Seq.{paste, take-paste, drop_at, length-take-le, take-length}
use Rattle.io.specs.Digits.{last_digits}
use Rattle.std.specs.Prelude.{Some}
use Rattle.text.specs.Number.{number_of}
use Rattle.console.specs.declared.output.Output.{Output}
use Rattle.console.specs.Output.{room, Puts, behind, front, unwritten, too_long, PutsNumber}
use Rattle.console.proofs.Decimal.{read_back, at-most}

digits-length : (k n : ℕ) → length (last_digits 10 k n) ≡ k
digits-length zero n = refl
digits-length (suc k) n = simp (length-append, digits-length k (n / 10)) (omega arith)

-- what was pasted stands where it was pasted
pasted : (d : List ℕ) (at : ℕ) (s : List ℕ) → at ≤ length d → drop at (take (at + length s) (paste d at s (length s))) ≡ s
pasted d at s h =
    ap (drop at) (take-paste d at s (length s) h (omega arith))
    ∙ drop_at (take at d) (take (length s) s) at (length-take-le at d h)
    ∙ take-length s

-- of the octets of p that are still to be written those behind the ones of o are read as n, or all are, or a write failed
abbrev pub Stands : ℕ → Output → Output → Type 0
Stands n o p = (number_of (drop o.len (take p.len p.room)) ≡ Some n) ⊎ ((number_of (take p.len p.room) ≡ Some n) ⊎ (p.failed ≡ true))

-- a u64 has at most 20 digits, so it is never longer than the buffer
pub number-stands : (o p : Output) (n : ℕ) → length o.room ≡ room → n < 2 ^ 64 → PutsNumber o n p → Stands n o p
unfolding PutsNumber
number-stands o p n l h (k, f, z) = go z
  where
    s : List ℕ
    s = last_digits 10 k n

    from : (i : ℕ) → i ≤ length o.room → p.len ≡ i + length s → p.room ≡ paste o.room i s (length s) → number_of (drop i (take p.len p.room)) ≡ Some n
    from i b t q = rw (q, t, pasted o.room i s b) (read_back n k f h)

    go : Puts o s p → Stands n o p
    go (behind _ b _ t q) = inl (from o.len (omega arith) t q)
    go (front _ a b _ t q) = inr (inl (from 0 (omega arith) (omega arith) q))
    go (unwritten _ b t q) = inr (inr t)
    go (too_long b _ t q) = absurd (omega (arith, digits-length k n, at-most n 20 k (omega arith) (omega arith) f))
