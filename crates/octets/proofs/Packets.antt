-- Packets: runs of zeros, stored fields, the packet at the front of a buffer, and what is read back from it. Assumes nothing.
use Prim.Native.Nat.{ℕ, ◌+◌, ◌%◌, ◌^◌, ◌≤◌, ◌<◌}
use mathlib.Core.Path.{◌≡◌, refl, sym, ap, ◌∙◌}
use mathlib.Core.Bool.{Bool, true, false, ◌&&◌, ◌||◌}
use mathlib.Core.Logic.{◌⊎◌, inl, inr, ⊎_elim}
use mathlib.Core.List.{List, [], ◌∷◌, ◌++◌}
use lib.ListN.{length, get_or, set, drop, length-set, length-replicate, get_or-replicate}
use lib.Dec.{T, leb, eqb, leb→le, eqb→eq}
use lib.Ieee.Fits.{and_l, and_r}
use native.Mathlib.Nat.{add-zero, mod-eq_of_lt}
use native.Mathlib.Omega.{arith}
use Rattle.base.specs.Each.{Each}
use Rattle.octets.specs.Written.{written}
use Rattle.octets.specs.Number.{be, be_at}
use Rattle.octets.specs.Packet.{zeros, Field, stored, packet, within, outside, apart}
use Rattle.octets.proofs.Writes.{set-be, written-front, written-append, length-written, get_or-written-out}
use Rattle.octets.proofs.Numbers.{length-be, be_at-ext, read_same}

-- ---- zeros

pub length-zeros : (n : ℕ) → length (zeros n) ≡ n
unfolding zeros
length-zeros n = length-replicate n 0

pub get_or-zeros : (n i : ℕ) → i < n → get_or (zeros n) i 0 ≡ 0
unfolding zeros
get_or-zeros n i h = get_or-replicate n i 0 0 h

-- ---- what the tests of the fields' places say

pub either : (a b : Bool) → T (a || b) → T a ⊎ T b
either true b t = inl t
either false b t = inr t

-- the buffer after one field
abbrev pub with_field : Field → List ℕ → List ℕ
with_field f l = written l f.at (be f.width f.value)

module _ (f : Field) (fs : List Field) where
  pub others : (n : ℕ) → T (within n (f ∷ fs)) → T (within n fs)
  others n t = and_r (leb (f.at + f.width) n) (within n fs) t

  pub fits : (n : ℕ) → T (within n (f ∷ fs)) → f.at + f.width ≤ n
  fits n t = leb→le (f.at + f.width) n (and_l (leb (f.at + f.width) n) (within n fs) t)

  pub fits-be : (n : ℕ) (l : List ℕ) → length l ≡ n → T (within n (f ∷ fs)) → f.at + length (be f.width f.value) ≤ length l
  fits-be n l e t = omega (arith, fits n t, length-be f.width f.value)

  pub kept : (n : ℕ) (l : List ℕ) → length l ≡ n → T (within n (f ∷ fs)) → length (with_field f l) ≡ n
  kept n l e t = length-written l f.at (be f.width f.value) (fits-be n l e t) ∙ e

-- ---- fields of one octet, as code stores them

abbrev pub singly : List Field → List ℕ → List ℕ
singly [] l = l
singly (f ∷ fs) l = singly fs (set l f.at f.value)

-- every field is one octet wide
abbrev pub single : List Field → Bool
single [] = true
single (f ∷ fs) = eqb f.width 1 && single fs

pub singly-stored : (fs : List Field) (n : ℕ) (l : List ℕ) → n ≤ length l → T (within n fs) → T (single fs) → Each (λ f. f.value < 256) fs
    → singly fs l ≡ stored fs l
singly-stored [] n l h t o v = refl
singly-stored (f ∷ fs) n l h t o v =
    let w : f.width ≡ 1 = eqb→eq f.width 1 (and_l (eqb f.width 1) (single fs) o) in
    singly-stored fs n (set l f.at f.value) (rw length-set h) (others f fs n t) (and_r (eqb f.width 1) (single fs) o) v.1
    ∙ ap (stored fs) (set-be l f.at f.value (omega (arith, fits f fs n t)) v.0 ∙ ap (λ (k : ℕ). written l f.at (be k f.value)) (sym w))

-- ---- the packet at the front of a buffer

-- fields within the front of a list leave what follows alone
pub stored-front : (fs : List Field) (n : ℕ) (a b : List ℕ) → length a ≡ n → T (within n fs) → stored fs (a ++ b) ≡ stored fs a ++ b
stored-front [] n a b e t = refl
stored-front (f ∷ fs) n a b e t =
    ap (stored fs) (written-append a b f.at (be f.width f.value) (fits-be f fs n a e t))
    ∙ stored-front fs n (with_field f a) b (kept f fs n a e t) (others f fs n t)

length-stored : (fs : List Field) (n : ℕ) (l : List ℕ) → length l ≡ n → T (within n fs) → length (stored fs l) ≡ n
length-stored [] n l e t = e
length-stored (f ∷ fs) n l e t = length-stored fs n (with_field f l) (kept f fs n l e t) (others f fs n t)

pub length-packet : (n : ℕ) (fs : List Field) → T (within n fs) → length (packet n fs) ≡ n
unfolding packet
length-packet n fs t = length-stored fs n (zeros n) (length-zeros n) t

-- fields stored in a cleared front are the packet written there
pub packet-front : (n : ℕ) (fs : List Field) (d : List ℕ) → T (within n fs) → stored fs (written d 0 (zeros n)) ≡ written d 0 (packet n fs)
unfolding packet
packet-front n fs d t =
    ap (stored fs) (written-front d (zeros n) n (length-zeros n))
    ∙ stored-front fs n (zeros n) (drop n d) (length-zeros n) t
    ∙ sym (written-front d (packet n fs) n (length-packet n fs t))

-- ---- what is read back

-- octets that no field touches are as they were
pub stored-outside : (fs : List Field) (n : ℕ) (l : List ℕ) (i w k : ℕ) → length l ≡ n → T (within n fs) → T (outside i w fs) → k < w
    → get_or (stored fs l) (i + k) 0 ≡ get_or l (i + k) 0
stored-outside [] n l i w k e t o h = refl
stored-outside (f ∷ fs) n l i w k e t o h =
    let b = be f.width f.value in
    let m : length b ≡ f.width = length-be f.width f.value in
    let here = leb (i + w) f.at in
    let there = leb (f.at + f.width) i in
    stored-outside fs n (with_field f l) i w k (kept f fs n l e t) (others f fs n t) (and_r (here || there) (outside i w fs) o) h
    ∙ get_or-written-out l f.at b (i + k) 0 (fits-be f fs n l e t)
    (⊎_elim
    (λ x. inl (omega (arith, leb→le (i + w) f.at x)))
    (λ x. inr (omega (arith, leb→le (f.at + f.width) i x)))
    (either here there (and_l (here || there) (outside i w fs) o)))

-- each field of those stored, where no two overlap
read-stored : (fs : List Field) (n : ℕ) (l : List ℕ) → length l ≡ n → T (within n fs) → T (apart fs)
    → Each (λ f. be_at f.width (stored fs l) f.at ≡ f.value % 256 ^ f.width) fs
read-stored [] n l e t a = tt
read-stored (f ∷ fs) n l e t a =
    let m = with_field f l in
    let s : length m ≡ n = kept f fs n l e t in
    let u = others f fs n t in
    let o = and_l (outside f.at f.width fs) (apart fs) a in (
      be_at-ext f.width (stored fs m) m f.at f.at (λ k h. stored-outside fs n m f.at f.width k s u o h)
          ∙ read_same f.width f.value l f.at (omega (arith, fits f fs n t)),
      read-stored fs n m s u (and_r (outside f.at f.width fs) (apart fs) a),
    )

pub read_back : (n : ℕ) (fs : List Field) → T (within n fs) → T (apart fs)
    → Each (λ f. be_at f.width (packet n fs) f.at ≡ f.value % 256 ^ f.width) fs
unfolding packet
read_back n fs t a = read-stored fs n (zeros n) (length-zeros n) t a

-- what follows of a field from two facts follows of each
pub each_both : {P Q R : Field → Type 0} → ((f : Field) → P f → Q f → R f) → (fs : List Field) → Each P fs → Each Q fs → Each R fs
each_both h [] p q = tt
each_both h (f ∷ fs) p q = (h f p.0 q.0, each_both h fs p.1 q.1)

-- whole, where each value fits its octets
pub read-exact : (n : ℕ) (fs : List Field) → T (within n fs) → T (apart fs) → Each (λ f. f.value < 256 ^ f.width) fs
    → Each (λ f. be_at f.width (packet n fs) f.at ≡ f.value) fs
read-exact n fs t a v = each_both (λ f e l. e ∙ mod-eq_of_lt l) fs (read_back n fs t a) v

-- an octet that no field names
pub unnamed : (n : ℕ) (fs : List Field) (i : ℕ) → T (within n fs) → i < n → T (outside i 1 fs) → get_or (packet n fs) i 0 ≡ 0
unfolding packet
unnamed n fs i t h o =
    (rw add-zero at (stored-outside fs n (zeros n) i 1 0 (length-zeros n) t o (omega arith))) ∙ get_or-zeros n i h
