-- Signed 24-bit numbers: elements that the code copied, and lists of them looked through and written. Assumes nothing.
use Prim.Native.Nat.{ℕ, suc, ◌+◌, ◌<◌}
use mathlib.Core.Path.{◌≡◌, refl, sym, ap, ◌∙◌, subst}
use mathlib.Core.Bool.{Bool, true, false, ◌&&◌, and-false, and_assoc}
use mathlib.Core.List.{List, [], ◌∷◌, ◌++◌}
use lib.ListN.{length, get_or, take, drop}
use lib.Seq.{take-suc, split_at}
use lib.Dec.{T, eqb, eqb→eq}
use lib.Ieee.Bits.{is_true}
use lib.Ieee.Fits.{and_l, and_r}
use lib.IntN.{ℤ, pos, negsuc}
use lib.Signed.{mag}
use native.Mathlib.Numerals.{add-one}
use native.Mathlib.Omega.{arith}
use borrow.Author.Tests.{ltb-true}
use mir.Syntax.{w32}
use mir.Val.{SFits, to_z, of_z}
use mir.ValLaws.{to_z-of_z}
use Rattle.radio_packets.specs.Iq.{is24, bits_of, all24, is_pairs}

-- ---- an element that was copied out of a slice

module _ (x : ℤ) (f : SFits w32 x) where
  pub read : to_z w32 (of_z w32 x) ≡ x
  read = to_z-of_z w32 x f

module _ (y : ℤ) (h : mag y < 2147483648) where
  abbrev fits : SFits w32 y
  fits = record { sfits = h }

  pub tested : {r b : Bool} → r ≡ is24 (to_z w32 (of_z w32 y)) → r ≡ b → is24 y ≡ b
  tested e q = sym (e ∙ ap is24 (read y fits)) ∙ q

  pub copied : {n : ℕ} → n ≡ bits_of (to_z w32 (of_z w32 y)) → n ≡ bits_of y
  copied e = e ∙ ap bits_of (read y fits)

  pub ranged : is24 y ≡ true → is24 (to_z w32 (of_z w32 y)) ≡ true
  ranged e = ap is24 (read y fits) ∙ e

-- ---- the bits

pub bits_small : (x : ℤ) → is24 x ≡ true → bits_of x < 16777216
bits_small (pos n) h = let l = ltb-true n 8388608 h in omega arith
bits_small (negsuc n) h = omega arith

-- ---- lists

pub all_append : (a b : List ℤ) → all24 (a ++ b) ≡ (all24 a && all24 b)
all_append [] b = refl
all_append (x ∷ a) b = ap (λ (t : Bool). is24 x && t) (all_append a b) ∙ sym (and_assoc (is24 x) (all24 a) (all24 b))

module _ (l : List ℤ) (i : ℕ) (z : ℤ) (h : i < length l) where
  -- one turn more
  pub all_more : all24 (take i l) ≡ true → is24 (get_or l i z) ≡ true → all24 (take (i + 1) l) ≡ true
  all_more p q =
      ap (λ (n : ℕ). all24 (take n l)) (add-one i)
      ∙ ap all24 (take-suc l i z h)
      ∙ all_append (take i l) (get_or l i z ∷ [])
      ∙ rw (p, q)

  -- a number that is out of the range
  pub all-not : is24 (get_or l i z) ≡ false → false ≡ all24 l
  all-not q = sym (ap all24 (split_at l i z h) ∙ all_append (take i l) (get_or l i z ∷ drop (suc i) l) ∙ ap (λ (t : Bool). all24 (take i l) && (t && all24 (drop (suc i) l))) q ∙ and-false (all24 (take i l)))

  -- each of a list that passed
  pub all-at : all24 l ≡ true → is24 (get_or l i z) ≡ true
  all-at p = from (is24 (get_or l i z)) refl
    where
      from : (b : Bool) → is24 (get_or l i z) ≡ b → is24 (get_or l i z) ≡ true
      from true e = e
      from false e = let n = all-not e in let q : ◌≡◌ {A = ℕ} 0 1 = cc in absurd (omega arith)

-- what 238 pairs are
pub pairs-are : (l : List ℤ) → is_pairs l ≡ true → (length l ≡ 476) × (all24 l ≡ true)
unfolding is_pairs
pairs-are l h =
    let t : T (eqb (length l) 476 && all24 l) = subst T (sym h) tt in
    (eqb→eq (length l) 476 (and_l (eqb (length l) 476) (all24 l) t), is_true (all24 l) (and_r (eqb (length l) 476) (all24 l) t))
